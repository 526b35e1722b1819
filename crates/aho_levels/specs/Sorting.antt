-- The patterns in their order: what has been added of them.
use Rattle.std.specs.Prelude.{◌≡◌, ℕ, ◌<◌, Bool, List, [], ◌∷◌, ◌++◌, length, map, sum_by, slice_index_or}
use Rattle.std.specs.List.{All}
use Rattle.aho_core.specs.Bytes.{folded_by}
use Rattle.aho_core.specs.declared.search.MatchKind.{MatchKind}
use Rattle.aho_levels.specs.Building.{IsUnderway, patterns_of_kind}
use Rattle.aho_levels.specs.declared.order.Item.{Item}
use Rattle.aho_levels.specs.declared.order.Key.{Key}
use Rattle.aho_levels.specs.declared.order.Ordered.{Ordered}

-- the numbers of these keys
abbrev pub key_numbers : List Key → List ℕ
key_numbers keys = map (λ (key : Key). key.number) keys

-- the words of these numbers
abbrev pub words_at : List (List ℕ) → List ℕ → List (List ℕ)
words_at words numbers = map (λ number. slice_index_or words number []) numbers

-- how many bytes they have together
abbrev pub bytes_together : List (List ℕ) → ℕ
bytes_together words = sum_by (λ word. length word) words

-- the word of this number was added at the end
pub record AddsItem (ignore_case : Bool) (words : List (List ℕ)) (root number : ℕ) (old new : Ordered) : Type 0 where
  pub bytes : All (λ byte. byte < 256) (slice_index_or words number [])
  pub text : new.text.items ≡ old.text.items ++ map (folded_by ignore_case) (slice_index_or words number [])
  pub items : new.items.items
      ≡ old.items.items ++ record { state = root; at = length old.text.items; end = length new.text.items; number = number } ∷ []

-- the words of just these numbers were added
pub record HasItems (ignore_case : Bool) (words : List (List ℕ)) (root : ℕ) (numbers : List ℕ) (made : Ordered) : Type 0 where
  pub numbered : map (λ (item : Item). item.number) made.items.items ≡ numbers
  pub placed : (kind : MatchKind)
      → All (λ (item : Item). (item.state ≡ root) × IsUnderway (patterns_of_kind kind ignore_case words) 0 made.text.items item) made.items.items
  pub folded : All (λ byte. (byte < 256) × (folded_by ignore_case byte ≡ byte)) made.text.items
  pub sized : length made.text.items ≡ bytes_together (words_at words numbers)
