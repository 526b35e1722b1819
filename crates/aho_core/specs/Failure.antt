-- The state after a word, and where a node leads on failure (Aho and Corasick 1975, the failure function). States are
-- words, `None` is the dead state. All words here are folded.
use Rattle.std.specs.Prelude.{ℕ, Bool, true, false, ◌&&◌, List, [], ◌∷◌, drop, Option, Some, None, if◌then◌else◌}
use Rattle.std.specs.List.{list_any}
use Rattle.aho_core.specs.declared.search.MatchKind.{MatchKind}
use Rattle.aho_core.specs.declared.search.MatchKind.TheVariants.{Standard, LeftmostFirst, LeftmostLongest}
use Rattle.aho_core.specs.Patterns.{Patterns, numbers}
use Rattle.aho_core.specs.Trie.{pattern_word, begins, is_node}

-- whether the kind chooses by the start of a match
abbrev pub is_leftmost : MatchKind → Bool
is_leftmost Standard = false
is_leftmost LeftmostFirst = true
is_leftmost LeftmostLongest = true

-- whether the kind gives up what starts after the word's start, since a pattern occurs there
unfoldable pub is_cut : Patterns → List ℕ → Bool
is_cut p word = is_leftmost p.kind && list_any (λ k. begins (pattern_word p k) word) (numbers p)

-- the state after a word: its longest suffix that is a node, or dead where the kind is leftmost and a pattern occurs in
-- the word at a start before that suffix
abbrev pub state_after : Patterns → List ℕ → Option (List ℕ)
state_after p [] = Some []
state_after p (x ∷ word) = if is_node p (x ∷ word) then Some (x ∷ word) else if is_cut p (x ∷ word) then None else state_after p word

-- where a nonempty node leads on failure: the same, with proper suffixes only
abbrev pub failure_of : Patterns → List ℕ → Option (List ℕ)
failure_of p word = if is_cut p word then None else state_after p (drop 1 word)
