-- The vectors of the stores: what stands at each place.
use Rattle.std.specs.Prelude.{◌≡◌, ◌≢◌, ℕ, ◌+◌, ◌<◌, ◌≤◌, List, [], ◌∷◌, ◌++◌, length, slice_index_or, slice_set}
use Rattle.aho_core.specs.Numbers.{greatest_index}
use Rattle.aho_table.specs.Rings.{Entries, AreRings, IsPassed}
use Rattle.aho_table.specs.Renaming.{IsLed}
use Rattle.aho_table.specs.declared.lists.transitions.Transition.{Transition}

-- the entry at this place
abbrev pub transition_of : List Transition → ℕ → Transition
transition_of entries place = slice_index_or entries place (record { byte = 0; next = 0; link = 0 })

-- the entries, the one at index 0 among them, which comes with the first one of a list
abbrev pub with_first : List Transition → List Transition
with_first [] = record { byte = 0; next = 1; link = 0 } ∷ []
with_first (entry ∷ entries) = entry ∷ entries

-- a transition's key is its byte
abbrev pub transition_entries : List Transition → Entries (ℕ × ℕ)
transition_entries entries = record {
  item = λ place. ((transition_of entries place).byte, (transition_of entries place).next);
  link = λ place. (transition_of entries place).link;
  key = λ place. (transition_of entries place).byte;
}

-- the entries, where the one at this place leads to another state
abbrev pub redirected : List Transition → ℕ → ℕ → List Transition
redirected entries place next = slice_set entries place (record (transition_of entries place) { next = next })

-- the entries, where the one at this place links to another
abbrev pub relinked : List Transition → ℕ → ℕ → List Transition
relinked entries place link = slice_set entries place (record (transition_of entries place) { link = link })

-- the entries and one more, which stands in a list behind this place
abbrev pub linked_behind : List Transition → ℕ → ℕ → ℕ → List Transition
linked_behind entries place byte next =
    relinked entries place (length entries) ++ record { byte = byte; next = next; link = (transition_of entries place).link } ∷ []

-- the entry's byte and link stay, and its state is led to another
pub record IsEntryLed (leads : ℕ → ℕ → Type 0) (old new : Transition) : Type 0 where
  pub byte : new.byte ≡ old.byte
  pub link : new.link ≡ old.link
  pub next : IsLed leads old.next new.next

-- the entries are lists, and none is above the limit
pub record IsStore {X : Type 0} (entries : Entries X) (count limit : ℕ) : Type 0 where
  pub small : limit ≤ greatest_index
  pub count_within : count ≤ limit + 1
  pub rings : AreRings entries count

-- this place has the byte's entry in the list that ends at `last`
pub record IsOn (entries : Entries (ℕ × ℕ)) (last byte place : ℕ) : Type 0 where
  pub passed : IsPassed entries last place (entries.link last)
  pub of_byte : entries.key place ≡ byte

-- the byte has no entry in the list that ends at `last`, and would stand behind this place: behind the last where it is below
-- or above all others, else between two entries
pub data IsGapBehind (entries : Entries (ℕ × ℕ)) (last byte place : ℕ) : Type 0 where
  first : place ≡ last → byte < entries.key (entries.link last) → byte < entries.key last → IsGapBehind entries last byte place
  beyond : place ≡ last → entries.key last < byte → IsGapBehind entries last byte place
  between : place ≢ last → IsPassed entries last place (entries.link last) → entries.key place < byte → byte < entries.key (entries.link place)
      → IsGapBehind entries last byte place
