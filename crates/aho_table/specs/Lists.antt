-- What a store of lists is seen as: at each number the list that has it, and the greatest index of an entry.
use Rattle.std.specs.Prelude.{◌≡◌, ◌≢◌, ◌<◌, ◌≤◌, ◌⊎◌, ℕ, Bool, true, false, List, [], length, slice_index_or, slice_set}

-- `lists` has an item for each entry of the vector, the one at index 0 included. A list stands at its own number. A number
-- that no list has, as 0, has the empty list
pub record Lists (X : Type 0) : Type 0 where
  pub lists : List (List X)
  pub limit : ℕ

-- the list of this number
abbrev pub list_at : {X : Type 0} → List (List X) → ℕ → List X
list_at lists number = slice_index_or lists number []

-- the number is that of a list, or 0, the number of the empty list
abbrev pub IsList : {X : Type 0} → List (List X) → ℕ → Type 0
IsList lists number = list_at lists number ≡ [] → number ≡ 0

-- the list of this number has none any more
abbrev pub without : {X : Type 0} → List (List X) → ℕ → List (List X)
without lists number = slice_set lists number []

-- what a store of patterns is seen as: a list at its own number, whether that list is closed, how many patterns were listed,
-- and one, and the greatest index of a listed pattern. A closed list stays as it is under its number, so that more than one
-- owner may keep it
pub record PatternLists : Type 0 where
  pub lists : List (List ℕ)
  pub closed : List Bool
  pub count : ℕ
  pub limit : ℕ

-- whether the list of this number is closed
abbrev pub closed_at : List Bool → ℕ → Bool
closed_at closed number = slice_index_or closed number false

-- the number is the list's own, or one that no list had
abbrev pub IsOwnNumber : List (List ℕ) → ℕ → ℕ → Type 0
IsOwnNumber lists list made = (made ≡ list) ⊎ (length lists ≤ made)

-- the list of this number has other items now, under the number that was made; every other list stays, and so does each that
-- was closed
pub record IsListed (old new : PatternLists) (list made : ℕ) (items : List ℕ) : Type 0 where
  pub listed : list_at new.lists made ≡ items
  pub known : IsList new.lists made
  pub others : (other : ℕ) → other < length old.lists → (other ≢ list) ⊎ (closed_at old.closed other ≡ true)
      → list_at new.lists other ≡ list_at old.lists other
  pub closed : (other : ℕ) → closed_at old.closed other ≡ true → closed_at new.closed other ≡ true
