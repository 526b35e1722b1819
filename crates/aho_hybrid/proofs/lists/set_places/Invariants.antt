-- Each state on the way lists what the first one does, and those passed have the place.
use Rattle.std.proofs.Common.{◌≡◌, ◌⊎◌, ◌<◌, ℕ, get_or, length}
use Rattle.aho_build.specs.Walking.{IsState, links_left}
use Rattle.aho_corasick.specs.ReadOut.{states_of}
use Rattle.aho_table.specs.Table.{matches_in}
use Rattle.aho_hybrid.specs.Filled.{AreOwnPlaces}
use Rattle.aho_hybrid.proofs.lists.set_places.Given as goal

abbrev pub invariant-links : goal.invariant-links
invariant-links l = record {
  state : IsState (states_of l.nfa) l.sid;
  same : matches_in (states_of l.nfa) l.sid ≡ matches_in (states_of l.nfa) l.fn.from;
  words : l.lists.words.items ≡ l.fn.lists.words.items;
  places : AreOwnPlaces (states_of l.nfa) (length (states_of l.nfa)) l.lists.words.items l.lists.places.items;
  kept : (other : ℕ) → 0 < get_or l.fn.lists.places.items other 0 → 0 < get_or l.lists.places.items other 0;
  set : (l.sid ≡ l.fn.from) ⊎ (0 < get_or l.lists.places.items l.fn.from 0);
}

abbrev pub decreases-links : goal.decreases-links
decreases-links l = links_left (states_of l.nfa) l.sid
