-- The trie of the first patterns alone: what a build knows while it takes one pattern after another.
use Rattle.std.specs.Prelude.{ℕ, Bool, true, ◌&&◌, List, [], ◌∷◌, filter}
use Rattle.std.specs.List.{list_any, range_with_len}
use Rattle.aho_core.specs.Patterns.{Patterns}
use Rattle.aho_core.specs.Trie.{pattern_word, begins, is_word, is_kept}

-- the kept patterns among the first n that are the word, by number
unfoldable pub own_among : Patterns → ℕ → List ℕ → List ℕ
own_among p n word = filter (λ k. is_kept p k && is_word (pattern_word p k) word) (range_with_len 0 n)

-- whether a word is the root or begins a kept pattern among the first n
unfoldable pub is_node_among : Patterns → ℕ → List ℕ → Bool
is_node_among p n [] = true
is_node_among p n (x ∷ word) = list_any (λ k. is_kept p k && begins (x ∷ word) (pattern_word p k)) (range_with_len 0 n)
