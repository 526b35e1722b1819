-- Matches as C sees them, and what a room holds of them.
use Rattle.std.specs.Prelude.{◌≡◌, ℕ, List, [], ◌∷◌, None, length, map, min}
use Rattle.aho_core.specs.Iteration.{AreFinds}
use Rattle.aho_core.specs.Occurrence.{Occurrence}
use Rattle.aho_core.specs.Overlapping.{all_occurrences}
use Rattle.aho_core.specs.Patterns.{Patterns}
use Rattle.aho_core.specs.Search.{plain_search}
use Rattle.chromesquid_c.specs.declared.options.CsMatch.{CsMatch}

-- a match in C's form
abbrev pub match_of : Occurrence → CsMatch
match_of m = record { pattern = m.pattern; start = m.start; end = m.end }

-- a room with these written over its begin, as many as it holds
abbrev pub written_over : {A : Type 0} → List A → List A → List A
written_over [] items = []
written_over (old ∷ room) [] = old ∷ room
written_over (old ∷ room) (item ∷ items) = item ∷ written_over room items

-- the room holds the first finds, and the count is of all
pub record ListsFinds (p : Patterns) (haystack : List ℕ) (before after : List CsMatch) (told : ℕ) : Type 0 where
  pub finds : List Occurrence
  pub are : AreFinds p (plain_search haystack) None finds
  pub room : after ≡ written_over before (map match_of finds)
  pub count : told ≡ length finds

-- the room holds the first occurrences, and the count is of all, or as great as can be
abbrev pub ListsOccurrences : Patterns → List ℕ → List CsMatch → List CsMatch → ℕ → Type 0
ListsOccurrences p haystack before after count =
    (count ≡ min (length (all_occurrences p haystack 0 (length haystack))) 18446744073709551615)
    × (after ≡ written_over before (map match_of (all_occurrences p haystack 0 (length haystack))))
