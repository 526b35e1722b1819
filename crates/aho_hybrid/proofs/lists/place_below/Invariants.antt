-- Each state on the way lists what the first one does.
use Rattle.std.proofs.Common.{◌≡◌}
use Rattle.aho_build.specs.Walking.{IsState, links_left}
use Rattle.aho_corasick.specs.ReadOut.{states_of}
use Rattle.aho_table.specs.Table.{matches_in}
use Rattle.aho_hybrid.proofs.lists.place_below.Given as goal

abbrev pub invariant-links : goal.invariant-links
invariant-links l = record {
  state : IsState (states_of l.nfa) l.sid;
  same : matches_in (states_of l.nfa) l.sid ≡ matches_in (states_of l.nfa) l.fn.from;
}

abbrev pub decreases-links : goal.decreases-links
decreases-links l = links_left (states_of l.nfa) l.sid
