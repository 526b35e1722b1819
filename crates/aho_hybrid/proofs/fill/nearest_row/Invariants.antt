use Rattle.std.proofs.Common.{◌<◌, length}
use Rattle.aho_corasick.specs.ReadOut.{states_of}
use Rattle.aho_hybrid.specs.Filled.{AreAlike}
use Rattle.aho_hybrid.proofs.fill.nearest_row.Given as goal

abbrev pub invariant-loop : goal.invariant-loop
invariant-loop l = record { within : l.at < length (states_of l.nfa); alike : AreAlike (states_of l.nfa) l.taken l.fn.sid l.at }
