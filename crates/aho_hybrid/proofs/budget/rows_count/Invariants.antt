use Rattle.std.proofs.Common.{◌≡◌, ◌≤◌, take}
use Rattle.aho_corasick.specs.ReadOut.{states_of}
use Rattle.aho_hybrid.specs.Filled.{rows_count}
use Rattle.aho_hybrid.proofs.budget.rows_count.Given as goal

abbrev pub invariant-loop-index : goal.invariant-loop-index
invariant-loop-index l = record { counted : l.count ≡ rows_count l.depth (take l.index (states_of l.nfa)); bound : l.count ≤ l.index }
