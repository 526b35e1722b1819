-- Which patterns a state lists (Aho and Corasick 1975, the output function). All words here are folded.
use Rattle.std.specs.Prelude.{ℕ, ◌&&◌, List, [], ◌∷◌, ◌++◌, filter, Option, Some, None, if◌then◌else◌}
use Rattle.aho_core.specs.Failure.{is_leftmost, is_cut}
use Rattle.aho_core.specs.Patterns.{Patterns, numbers}
use Rattle.aho_core.specs.Trie.{pattern_word, is_kept, is_word}

-- the kept patterns that are the word, by number
unfoldable pub own_matches : Patterns → List ℕ → List ℕ
own_matches p word = filter (λ k. is_kept p k && is_word (pattern_word p k) word) (numbers p)

-- Standard: every pattern that ends the word, longest first, then by number
abbrev pub suffix_matches : Patterns → List ℕ → List ℕ
suffix_matches p [] = own_matches p []
suffix_matches p (x ∷ word) = own_matches p (x ∷ word) ++ suffix_matches p word

-- leftmost kinds: the kept patterns that are the word from the first place on where a pattern occurs
abbrev pub leftmost_matches : Patterns → List ℕ → List ℕ
leftmost_matches p [] = own_matches p []
leftmost_matches p (x ∷ word) = if is_cut p (x ∷ word) then own_matches p (x ∷ word) else leftmost_matches p word

abbrev pub matches_of_word : Patterns → List ℕ → List ℕ
matches_of_word p word = if is_leftmost p.kind then leftmost_matches p word else suffix_matches p word

-- the patterns that a state lists; none for the dead state
abbrev pub matches_of : Patterns → Option (List ℕ) → List ℕ
matches_of p None = []
matches_of p (Some word) = matches_of_word p word
