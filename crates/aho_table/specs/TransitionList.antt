-- A list of transitions: pairs of a byte and the state that it leads to, rising by byte.
use Rattle.std.specs.Prelude.{ℕ, ◌<◌, Bool, List, [], ◌∷◌, ◌++◌, length, nat_eq, nat_lt, if◌then◌else◌, slice_set}
use Rattle.std.specs.List.{All, list_any, list_all}
use Rattle.aho_table.specs.Lists.{list_at, without}

-- where the byte leads, and 1 (FAIL) where nothing is listed for it
abbrev pub transition_at : List (ℕ × ℕ) → ℕ → ℕ
transition_at [] byte = 1
transition_at (transition ∷ transitions) byte = if nat_eq transition.0 byte then transition.1 else transition_at transitions byte

-- the list with this entry for the byte, in the bytes' order
abbrev pub with_transition : List (ℕ × ℕ) → ℕ → ℕ → List (ℕ × ℕ)
with_transition [] byte next = (byte, next) ∷ []
with_transition (transition ∷ transitions) byte next =
    if nat_lt transition.0 byte then transition ∷ with_transition transitions byte next
    else if nat_eq transition.0 byte then (byte, next) ∷ transitions
    else (byte, next) ∷ transition ∷ transitions

-- each entry's byte is below all that follow it
abbrev pub IsRising : List (ℕ × ℕ) → Type 0
IsRising [] = Unit {0}
IsRising (transition ∷ transitions) = All (λ later. transition.0 < later.0) transitions × IsRising transitions

-- whether the byte is listed
abbrev pub lists_transition : List (ℕ × ℕ) → ℕ → Bool
lists_transition transitions byte = list_any (λ transition. nat_eq transition.0 byte) transitions

-- whether the byte is above all that are listed
abbrev pub is_above : List (ℕ × ℕ) → ℕ → Bool
is_above transitions byte = list_all (λ transition. nat_lt transition.0 byte) transitions

-- ---- a store after a byte of the list of this number was led to a state

-- the list's number then: that of the entry which was added for a byte above all others, else the one it had
abbrev pub number_after : List (List (ℕ × ℕ)) → ℕ → ℕ → ℕ
number_after lists number byte = if is_above (list_at lists number) byte then length lists else number

-- the lists, with one entry more where the byte was not listed
abbrev pub room_for : List (List (ℕ × ℕ)) → ℕ → ℕ → List (List (ℕ × ℕ))
room_for lists number byte = if lists_transition (list_at lists number) byte then lists else lists ++ [] ∷ []

-- the list has the byte's entry, and no other list is changed
abbrev pub set_transition_in : List (List (ℕ × ℕ)) → ℕ → ℕ → ℕ → List (List (ℕ × ℕ))
set_transition_in lists number byte next =
    slice_set (without (room_for lists number byte) number) (number_after lists number byte) (with_transition (list_at lists number) byte next)
