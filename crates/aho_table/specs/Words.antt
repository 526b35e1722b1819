-- Lists of patterns in one vector of numbers, its words. A list is a word that tells its length, and behind it the patterns; room
-- may follow. A list's place is that of its first pattern, and 0 that of the empty list. A list behind which another word
-- stands is closed: it cannot grow there. Lists have numbers from 1 on, and a second vector has the places by these numbers.
use Rattle.std.specs.Prelude.{◌≡◌, ◌≢◌, ◌⊎◌, ℕ, zero, suc, ◌+◌, ◌-◌, ◌<◌, ◌≤◌, Bool, true, List, ◌∷◌, drop, length, map, nat_lt, if◌then◌else◌, slice_index_or, take}
use Rattle.aho_core.specs.Numbers.{greatest_index}
use Rattle.aho_table.specs.Lists.{IsListed, PatternLists, list_at}

-- the word of a place where nothing stands
abbrev pub room : ℕ
room = 4294967295

-- what is added to a length, to tell it from a pattern
abbrev pub length_mark : ℕ
length_mark = 2147483648

abbrev pub word_at : List ℕ → ℕ → ℕ
word_at words place = slice_index_or words place room

-- the length that a word tells, and 0 for a pattern or room
unfoldable pub told_length : ℕ → ℕ
told_length word = if nat_lt word room then word - length_mark else 0

-- how many patterns the list at this place has
unfoldable pub length_at : List ℕ → ℕ → ℕ
length_at words zero = 0
length_at words (suc place) = told_length (word_at words place)

-- and which
unfoldable pub patterns_at : List ℕ → ℕ → List ℕ
patterns_at words list = take (length_at words list) (drop list words)

-- whether it is closed: no room is behind its last pattern
unfoldable pub is_closed : List ℕ → ℕ → Bool
is_closed words list = nat_lt (word_at words (list + length_at words list)) room

-- the place of the list of this number
abbrev pub place_at : List ℕ → ℕ → ℕ
place_at places list = slice_index_or (0 ∷ places) list 0

-- the lists by their numbers, and which are closed
unfoldable pub pattern_lists : List ℕ → List ℕ → List (List ℕ)
pattern_lists words places = map (patterns_at words) (0 ∷ places)

unfoldable pub closed_lists : List ℕ → List ℕ → List Bool
closed_lists words places = map (is_closed words) (0 ∷ places)

-- what a store of these words and places is seen as
abbrev pub pattern_store : List ℕ → List ℕ → ℕ → ℕ → PatternLists
pattern_store words places count limit =
    record { lists = pattern_lists words places; closed = closed_lists words places; count = count; limit = limit }

-- the patterns of the list of this number
abbrev pub listed_in : List ℕ → List ℕ → ℕ → List ℕ
listed_in words places list = list_at (pattern_lists words places) list

-- from these words and places to those the list of this number has come to have these patterns, whatever the counts are
abbrev pub IsListedIn : List ℕ → List ℕ → List ℕ → List ℕ → ℕ → ℕ → List ℕ → Type 0
IsListedIn words places words' places' list made patterns =
    (count now limit : ℕ) → IsListed (pattern_store words places count limit) (pattern_store words' places' now limit) list made patterns

-- a list as it is laid down
abbrev pub laid : List ℕ → List ℕ
laid patterns = (length_mark + length patterns) ∷ patterns

-- the place is that of a list, or 0
abbrev pub IsPlaceOfList : List ℕ → ℕ → Type 0
IsPlaceOfList words list = list ≢ 0 → 0 < length_at words list

-- behind each word that tells a length there are so many patterns, fewer than `count`
pub record AreLaid (words : List ℕ) (count : ℕ) : Type 0 where
  pub patterns : (place k : ℕ) → place < k → k ≤ place + told_length (word_at words place) → word_at words k ≤ greatest_index
  pub fewer : (place : ℕ) → told_length (word_at words place) < count

-- each list has a place of its own among the words, the later its number the later
pub record ArePlaces (words places : List ℕ) : Type 0 where
  pub rising : (a b : ℕ) → a < b → b ≤ length places → place_at places a < place_at places b
  pub inside : (list : ℕ) → place_at places list ≤ length words

-- no index of a listed pattern is above the limit, and there are fewer lists than `count`
pub record AreStored (words places : List ℕ) (count limit : ℕ) : Type 0 where
  pub small : limit ≤ greatest_index
  pub within : count ≤ limit + 1
  pub laid_down : AreLaid words count
  pub placed : ArePlaces words places
  pub fewer : length places < count

-- a store of these words and places has become one of those, with so many more patterns listed, if there was room for them
abbrev pub StoresMore : List ℕ → List ℕ → List ℕ → List ℕ → ℕ → Type 0
StoresMore words places words' places' more =
    (count limit : ℕ) → AreStored words places count limit → count + more ≤ limit + 1 → AreStored words' places' (count + more) limit

-- a store of these words and places may list so many patterns more
pub record MayList (words places : List ℕ) (more : ℕ) : Type 0 where
  pub count : ℕ
  pub limit : ℕ
  pub stored : AreStored words places count limit
  pub few : count + more ≤ limit + 1

-- the word at one place is another, which stands behind all or where one stood
pub record IsPut (old : List ℕ) (place word : ℕ) (new : List ℕ) : Type 0 where
  pub here : word_at new place ≡ word
  pub others : (i : ℕ) → i ≢ place → word_at new i ≡ word_at old i
  pub longer : length old ≤ length new

-- the list at this place has one pattern more, behind those that it had
pub record IsLengthened (old : List ℕ) (list pattern : ℕ) (new : List ℕ) : Type 0 where
  pub mark : word_at new (list - 1) ≡ word_at old (list - 1) + 1
  pub added : word_at new (list + length_at old list) ≡ pattern
  pub others : (i : ℕ) → i ≢ list - 1 → i ≢ list + length_at old list → word_at new i ≡ word_at old i
  pub longer : length old ≤ length new

-- the list at this place is closed: each word that is no room stays, and none tells another length
pub record IsClosed (old : List ℕ) (list : ℕ) (new : List ℕ) : Type 0 where
  pub closed : word_at new (list + length_at old list) < room
  pub kept : (i : ℕ) → word_at old i < room → word_at new i ≡ word_at old i
  pub lengths : (i : ℕ) → told_length (word_at new i) ≡ told_length (word_at old i)

-- the list at this place has these patterns now, at another or where it was: `IsListed` in words
pub record HasPatterns (old new : List ℕ) (list made : ℕ) (items : List ℕ) : Type 0 where
  pub patterns : patterns_at new made ≡ items
  pub some : 0 < length items
  pub others : (other : ℕ) → other ≤ length old → (other ≢ list) ⊎ (is_closed old other ≡ true) → patterns_at new other ≡ patterns_at old other
  pub closed : (other : ℕ) → is_closed old other ≡ true → is_closed new other ≡ true
