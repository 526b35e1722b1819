-- Which occurrences of a line stand for all that count.
use Rattle.std.specs.Prelude.{◌≡◌, ◌⊎◌, ◌<◌, ◌≤◌, ℕ, Bool, true, false, List}
use Rattle.aho_core.specs.Listing.{IsListedBy, IsMember}
use Rattle.aho_core.specs.Occurrence.{Occurrence}
use Rattle.aho_core.specs.Order.{IsBefore}
use Rattle.aho_core.specs.declared.search.MatchKind.TheVariants.{Standard}
use Rattle.aho_cover.specs.Words.{stands_as_word}

-- whether an occurrence counts: any, or one beside which no letter, digit or `_` stands
abbrev pub is_counted : Bool → List ℕ → Occurrence → Bool
is_counted false line m = true
is_counted true line m = stands_as_word line m

-- the first ends where the second does and holds it: it begins before, or at the same place and its number is not greater
abbrev pub StandsInFor : Occurrence → Occurrence → Type 0
StandsInFor first m = (first.end ≡ m.end) × ((first.start < m.start) ⊎ ((first.start ≡ m.start) × (first.pattern ≤ m.pattern)))

-- one of these stands for it
abbrev pub HasFor : List Occurrence → Occurrence → Type 0
HasFor found m = (first : Occurrence) × IsMember found first × StandsInFor first m

-- these stand for all members of a set, of which they are
pub record StandForAll (Member : Occurrence → Type 0) (found : List Occurrence) : Type 0 where
  pub only : (m : Occurrence) → IsMember found m → Member m
  pub has : (m : Occurrence) → Member m → HasFor found m

-- an occurrence was added where it counts, unless another ends where it does
pub record PicksOne (words : Bool) (line : List ℕ) (m : Occurrence) (old new : List Occurrence) : Type 0 where
  pub kept : (x : Occurrence) → IsMember old x → IsMember new x
  pub only : (x : Occurrence) → IsMember new x → IsMember old x ⊎ ((x ≡ m) × (is_counted words line m ≡ true))
  pub has : is_counted words line m ≡ true → IsMember new m ⊎ ((first : Occurrence) × IsMember old first × (first.end ≡ m.end))

-- of some occurrences, where they are listed in order, these stand for those that count
pub record Picks (words : Bool) (line : List ℕ) (items found : List Occurrence) : Type 0 where
  pub only : (x : Occurrence) → IsMember found x → IsMember items x × (is_counted words line x ≡ true)
  pub has : IsListedBy (IsBefore Standard) items → (x : Occurrence) → IsMember items x → is_counted words line x ≡ true → HasFor found x
