-- What a picture of an automaton is.
use Rattle.std.specs.Prelude.{◌≡◌, ◌&&◌, ◌||◌, ℕ, Bool, List, length, map, not, nat_eq}
use Rattle.std.specs.List.{All, filter, range_with_len}
use Rattle.aho_corasick.specs.ReadOut.{states_of, special_of}
use Rattle.aho_corasick.specs.declared.noncontiguous.NFA.{NFA}
use Rattle.aho_table.specs.Table.{fail_id, fail_in, matches_in, state_at}
use Rattle.acdraw.specs.Arrows.{AreArrowsOf}
use Rattle.acdraw.specs.Words.{IsWordOf}
use Rattle.acdraw.specs.declared.picture.Node.{Node}
use Rattle.acdraw.specs.declared.picture.Picture.{Picture}

-- a state is drawn as it is read out
pub record IsDrawn (nfa : NFA) (node : Node) : Type 0 where
  pub word : IsWordOf nfa node.sid node.word.items
  pub listed : node.listed.items ≡ matches_in (states_of nfa) node.sid
  pub link : node.link ≡ fail_in (states_of nfa) node.sid
  pub arrows : AreArrowsOf (state_at (states_of nfa) node.sid).transitions node.arrows.items

-- the states that are drawn: all but FAIL, and but the anchored start where that is left out
abbrev pub is_drawn : NFA → Bool → ℕ → Bool
is_drawn nfa anchored sid = not (nat_eq sid fail_id) && (anchored || not (nat_eq sid (special_of nfa).start_anchored_id))

-- those of them whose numbers are below this one
abbrev pub drawn_of : NFA → Bool → ℕ → List ℕ
drawn_of nfa anchored count = filter (is_drawn nfa anchored) (range_with_len 0 count)

-- a picture of an automaton: each state that is drawn, by number, and the numbers of the starts
pub record IsPicture (nfa : NFA) (anchored : Bool) (picture : Picture) : Type 0 where
  pub states : map (λ (node : Node). node.sid) picture.nodes.items ≡ drawn_of nfa anchored (length (states_of nfa))
  pub drawn : All (IsDrawn nfa) picture.nodes.items
  pub unanchored : picture.unanchored_start ≡ (special_of nfa).start_unanchored_id
  pub anchored_start : picture.anchored_start ≡ (special_of nfa).start_anchored_id
