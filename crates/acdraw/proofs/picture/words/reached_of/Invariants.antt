-- No state so far that is nearer to the start leads to it.
use Rattle.std.proofs.Common.{ℕ, ◌<◌}
use Rattle.std.specs.Prelude.{None}
use Rattle.aho_corasick.specs.ReadOut.{states_of}
use Rattle.acdraw.specs.Words.{Leads}
use Rattle.acdraw.proofs.picture.words.reached_of.Given as goal

abbrev pub invariant-loop-index : goal.invariant-loop-index
invariant-loop-index l = (from : ℕ) → from < l.index → Leads (states_of l.nfa) from l.sid None
