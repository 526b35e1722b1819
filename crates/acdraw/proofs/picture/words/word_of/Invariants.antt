-- The word of the state is that of the one where the walk back is, and what it went back over, the last byte first.
use Rattle.std.proofs.Common.{◌<◌, length, reverse}
use Rattle.aho_corasick.specs.ReadOut.{states_of}
use Rattle.aho_table.specs.Table.{depth_in}
use Rattle.acdraw.specs.Words.{IsAheadOf}
use Rattle.acdraw.proofs.picture.words.word_of.Given as goal

abbrev pub invariant-loop-reached : goal.invariant-loop-reached
invariant-loop-reached l = record {
  within : l.at < length (states_of l.nfa);
  ahead : IsAheadOf l.nfa l.fn.sid l.at (reverse l.word.items);
}

abbrev pub decreases-loop-reached : goal.decreases-loop-reached
decreases-loop-reached l = depth_in (states_of l.nfa) l.at
