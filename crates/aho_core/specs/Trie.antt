-- The trie of the patterns, by words: which patterns are kept, and which words are nodes (Aho and Corasick 1975, the goto
-- function). All words here are folded.
use Rattle.std.specs.Prelude.{ℕ, Bool, true, not, ◌&&◌, nat_eq, nat_lt, List, [], ◌∷◌, length, bytes_eq}
use Rattle.std.specs.List.{list_any, range_with_len, starts_with}
use Rattle.aho_core.specs.declared.search.MatchKind.{MatchKind}
use Rattle.aho_core.specs.declared.search.MatchKind.TheVariants.{Standard, LeftmostFirst, LeftmostLongest}
use Rattle.aho_core.specs.Bytes.{folded_word}
use Rattle.aho_core.specs.Patterns.{Patterns, pattern_at, numbers}

-- the pattern of this number, folded
unfoldable pub pattern_word : Patterns → ℕ → List ℕ
pattern_word p number = folded_word p (pattern_at p number)

-- whether one word begins another
abbrev pub begins : List ℕ → List ℕ → Bool
begins xs ys = starts_with nat_eq ys xs

-- whether two words are equal
abbrev pub is_word : List ℕ → List ℕ → Bool
is_word xs ys = bytes_eq xs ys

-- whether the pattern of this number is kept: LeftmostFirst leaves out what an earlier, shorter pattern begins, since it
-- can never be the best
abbrev pub kept_by : MatchKind → Patterns → ℕ → Bool
kept_by Standard p number = true
kept_by LeftmostFirst p number =
    not (list_any (λ j. nat_lt (length (pattern_word p j)) (length (pattern_word p number)) && begins (pattern_word p j) (pattern_word p number)) (range_with_len 0 number))
kept_by LeftmostLongest p number = true

unfoldable pub is_kept : Patterns → ℕ → Bool
is_kept p number = kept_by p.kind p number

-- whether a word is a node: the root, or a word that begins a kept pattern
unfoldable pub is_node : Patterns → List ℕ → Bool
is_node p [] = true
is_node p (x ∷ word) = list_any (λ k. is_kept p k && begins (x ∷ word) (pattern_word p k)) (numbers p)
