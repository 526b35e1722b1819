-- What stands alone in a line: no letter, digit or `_` is beside it. And what is the whole line.
use Rattle.acgrep.specs.Common.{LeftmostLongest, Occurrence, OccursIn, Patterns, plain_search}
use Rattle.std.specs.Char.{is_ascii_alphanumeric}
use Rattle.std.specs.Prelude.{◌&&◌, ◌+◌, ◌-◌, ◌<◌, ◌==◌, ◌||◌, ◌∷◌, ◌≡◌, ◌≤◌, ◌⊎◌, Bool, List, None, Option, Some, [], if◌then◌else◌, length, max, nat_lt, not, option_to_list, slice_index, true, ℕ}
use Rattle.aho_core.specs.Best.{IsBestOrNone}
use Rattle.aho_core.specs.Iteration.{AreFinds}
use Rattle.aho_core.specs.Order.{IsBefore}
use Rattle.acgrep.specs.declared.options.Fit.{Fit}
use Rattle.acgrep.specs.declared.options.Fit.TheVariants.{AnyPart, WholeLine, WholeWord}

-- a letter of ASCII, a digit or `_`
abbrev pub is_word_constituent : ℕ → Bool
is_word_constituent byte = is_ascii_alphanumeric byte || (byte == 95)

-- none stands before a place of a line
abbrev pub begins_alone : List ℕ → ℕ → Bool
begins_alone line start = not (nat_lt 0 start && is_word_constituent (slice_index line (start - 1)))

-- none stands behind it
abbrev pub ends_alone : List ℕ → ℕ → Bool
ends_alone line end = not (nat_lt end (length line) && is_word_constituent (slice_index line end))

-- m occurs in a line, begins at this place or behind it, and stands alone
pub record IsAloneFrom (p : Patterns) (line : List ℕ) (at : ℕ) (m : Occurrence) : Type 0 where
  pub occurs : OccursIn p (plain_search line) m
  pub behind : at ≤ m.start
  pub begins : begins_alone line m.start ≡ true
  pub ends : ends_alone line m.end ≡ true

-- of those the one that begins first, then the longest; or none where there is none
abbrev pub IsNextAlone : Patterns → List ℕ → ℕ → Option Occurrence → Type 0
IsNextAlone p line at found = IsBestOrNone LeftmostLongest (IsAloneFrom p line at) found

-- the place from which the next is searched: behind m, and one place on where m is empty
abbrev pub behind_alone : Occurrence → ℕ
behind_alone m = max m.end (m.start + 1)

-- one after another, from a place of a line on
abbrev pub AreAloneFrom : Patterns → List ℕ → ℕ → List Occurrence → Type 0
AreAloneFrom p line at [] = IsNextAlone p line at None
AreAloneFrom p line at (m ∷ ms) = IsNextAlone p line at (Some m) × AreAloneFrom p line (behind_alone m) ms

-- m is the whole line
pub record IsWholeLine (p : Patterns) (line : List ℕ) (m : Occurrence) : Type 0 where
  pub occurs : OccursIn p (plain_search line) m
  pub begins : m.start ≡ 0
  pub ends : m.end ≡ length line

-- of those the one whose pattern comes first; or none where there is none
abbrev pub IsWholeOrNone : Patterns → List ℕ → Option Occurrence → Type 0
IsWholeOrNone p line found = IsBestOrNone LeftmostLongest (IsWholeLine p line) found

-- a match, where it is all of so many bytes
abbrev pub whole_match : (len : ℕ) → Occurrence → Option Occurrence
whole_match len m = if (m.start == 0) && (m.end == len) then Some m else None

-- the matches of a line that are written: those that iteration finds; or, where that is asked for, those that stand alone, or the one
-- that is the line
abbrev pub AreShownOf : Patterns → Fit → List ℕ → List Occurrence → Type 0
AreShownOf p AnyPart line ms = AreFinds p (plain_search line) None ms
AreShownOf p WholeWord line ms = AreAloneFrom p line 0 ms
AreShownOf p WholeLine line ms = (found : Option Occurrence) × IsWholeOrNone p line found × (ms ≡ option_to_list found)

-- m occurs in a line, and of what begins with it it is the longest
pub record IsLongestThere (p : Patterns) (line : List ℕ) (m : Occurrence) : Type 0 where
  pub occurs : OccursIn p (plain_search line) m
  pub longest : (other : Occurrence) → OccursIn p (plain_search line) other → other.start ≡ m.start → (other ≡ m) ⊎ IsBefore LeftmostLongest m other

-- m stands alone and begins at this place
pub record IsAloneAt (p : Patterns) (line : List ℕ) (start : ℕ) (m : Occurrence) : Type 0 where
  pub is : IsAloneFrom p line start m
  pub at : m.start ≡ start

-- other occurs, begins where m begins, and is shorter
pub record IsShorter (p : Patterns) (line : List ℕ) (m other : Occurrence) : Type 0 where
  pub occurs : OccursIn p (plain_search line) other
  pub begins : other.start ≡ m.start
  pub shorter : other.end < m.end
