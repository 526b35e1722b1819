-- How far the lists of states are made.
use Rattle.std.specs.Prelude.{◌≡◌, ◌≢◌, ℕ, ◌+◌, ◌<◌, ◌≤◌, List, ◌++◌, length, map, Option, slice_index_or}
use Rattle.aho_core.specs.Numbers.{greatest_index}
use Rattle.aho_core.specs.Patterns.{Patterns}
use Rattle.aho_levels.specs.Building.{AreOwns, ListsBefore}
use Rattle.aho_levels.specs.Layout.{StateTables, list_at_place, place_of_list}
use Rattle.aho_levels.specs.Meaning.{LeadsAsWords}
use Rattle.aho_levels.specs.declared.trie.Own.{Own}

-- the numbers of patterns that end
abbrev pub numbers_of : List Own → List ℕ
numbers_of owns = map (λ (own : Own). own.number) owns

-- and then those of the list that stands here
abbrev pub list_with : List Own → List ℕ → ℕ → List ℕ
list_with owns lists place = numbers_of owns ++ list_at_place lists place

-- from one of the patterns that end on and before another all end at this state, and that other one does not
pub record AreAllAt (owns : List Own) (from to sid : ℕ) : Type 0 where
  pub ordered : from ≤ to
  pub within : to ≤ length owns
  pub all : (i : ℕ) (d : Own) → from ≤ i → i < to → (slice_index_or owns i d).state ≡ sid
  pub ends : (d : Own) → to < length owns → (slice_index_or owns to d).state ≢ sid

-- those before this one end at states before this one, and no other does
pub record ArePassed (owns : List Own) (own count : ℕ) : Type 0 where
  pub before : (i : ℕ) (d : Own) → i < own → (slice_index_or owns i d).state < count
  pub behind : (i : ℕ) (d : Own) → own ≤ i → i < length owns → count ≤ (slice_index_or owns i d).state

-- the states before this one have lists, each within the lists, and an empty one stands at the front
pub record HaveLists (count : ℕ) (t : StateTables) : Type 0 where
  pub sized : length t.places ≡ count
  pub within : (sid : ℕ) → sid < count → place_of_list t sid + slice_index_or t.lists (place_of_list t sid) 0 < length t.lists
  pub empty : slice_index_or t.lists 0 0 ≡ 0
  pub small : length t.lists ≤ greatest_index + 1
  pub dead : place_of_list t 0 ≡ 0

-- the states before this one have lists, which are those of their words, and the patterns before this one end at these states
pub record AreListedTo (owns : List Own) (own count : ℕ) (t : StateTables) : Type 0 where
  pub within : own ≤ length owns
  pub placed : HaveLists count t
  pub passed : (p : Patterns) (names : List (Option (List ℕ))) → AreOwns p names owns → ArePassed owns own count
  pub lists : (p : Patterns) (names : List (Option (List ℕ))) → AreOwns p names owns → LeadsAsWords p t names → ListsBefore p names count t
