use Rattle.std.proofs.Common.{ℕ, ◌<◌, ◌≤◌}
use Rattle.aho_corasick.specs.ReadOut.{states_of}
use Rattle.aho_table.specs.Table.{depth_in}
use Rattle.aho_hybrid.proofs.budget.deepest.Given as goal

abbrev pub invariant-loop-index : goal.invariant-loop-index
invariant-loop-index l = (i : ℕ) → i < l.index → depth_in (states_of l.nfa) i ≤ l.most
