-- What is written of the lines of a text, one after another.
use Rattle.acgrep.specs.Common.{Appends, Occurrence, OccursIn, Patterns, plain_search}
use Rattle.std.specs.Prelude.{◌%◌, ◌&&◌, ◌++◌, ◌+◌, ◌-◌, ◌<◌, ◌^◌, ◌∷◌, ◌≡◌, ◌≤◌, ◌⊎◌, Bool, List, MatchBool, None, Option, Some, [], drop, false, length, min, nat_le, nat_lt, not, true, ℕ, ⊤}
use Rattle.acgrep.specs.Alone.{AreShownOf, IsAloneFrom}
use Rattle.acgrep.specs.Lines.{EndsLine, lines}
use Rattle.acgrep.specs.Objects.{objects_by}
use Rattle.acgrep.specs.Printed.{colored_line_by, line_by, matches_by}
use Rattle.acgrep.specs.declared.options.Fit.{Fit}
use Rattle.acgrep.specs.declared.options.Fit.TheVariants.{AnyPart, WholeLine, WholeWord}
use Rattle.acgrep.specs.declared.options.Shown.{Shown}
use Rattle.acgrep.specs.declared.options.Shown.TheVariants.{Lacking, Lines, Matches, Names, Nothing, Objects}
use Rattle.acgrep.specs.declared.print.Place.{Place}
use Rattle.acgrep.specs.declared.print.Style.{Style}
use Rattle.acgrep.specs.declared.job.Job.{Job}
use Rattle.acgrep.specs.declared.job.State.{State}

-- a pattern occurs in a line
abbrev pub HasMatch : Patterns → List ℕ → Type 0
HasMatch p line = (m : Occurrence) × OccursIn p (plain_search line) m

-- none does
abbrev pub HasNone : Patterns → List ℕ → Type 0
HasNone p line = (m : Occurrence) → OccursIn p (plain_search line) m → ⊥

-- a pattern is the whole line
abbrev pub HasWhole : Patterns → List ℕ → Type 0
HasWhole p line = (m : Occurrence) × OccursIn p (plain_search line) m × (m.start ≡ 0) × (m.end ≡ length line)

-- none is
abbrev pub HasNoWhole : Patterns → List ℕ → Type 0
HasNoWhole p line = (m : Occurrence) → OccursIn p (plain_search line) m → m.start ≡ 0 → m.end ≡ length line → ⊥

-- a pattern occurs in a line and stands alone there
abbrev pub HasAlone : Patterns → List ℕ → Type 0
HasAlone p line = (m : Occurrence) × IsAloneFrom p line 0 m

-- none does
abbrev pub HasNoneAlone : Patterns → List ℕ → Type 0
HasNoneAlone p line = (m : Occurrence) → IsAloneFrom p line 0 m → ⊥

-- a line matches where a pattern occurs in it, or where that is asked for, where one stands alone in it or is the line
abbrev pub DoesMatch : Patterns → Fit → List ℕ → Type 0
DoesMatch p AnyPart line = HasMatch p line
DoesMatch p WholeWord line = HasAlone p line
DoesMatch p WholeLine line = HasWhole p line

abbrev pub DoesNotMatch : Patterns → Fit → List ℕ → Type 0
DoesNotMatch p AnyPart line = HasNone p line
DoesNotMatch p WholeWord line = HasNoneAlone p line
DoesNotMatch p WholeLine line = HasNoWhole p line

-- whether it does
abbrev pub IsMatched : Patterns → Fit → List ℕ → Bool → Type 0
IsMatched p fit line matched = MatchBool matched (DoesMatch p fit line) (DoesNotMatch p fit line)

-- a line is selected where it matches, or under `invert` where it does not
abbrev pub IsSelected : Patterns → Fit → (invert : Bool) → List ℕ → Type 0
IsSelected p fit invert line = MatchBool invert (DoesNotMatch p fit line) (DoesMatch p fit line)

-- any other line is passed over
abbrev pub IsPassedOver : Patterns → Fit → (invert : Bool) → List ℕ → Type 0
IsPassedOver p fit invert line = MatchBool invert (DoesMatch p fit line) (DoesNotMatch p fit line)

-- whether a line is selected, by whether it matches
abbrev pub selects : Bool → Bool → Bool
selects matched false = matched
selects matched true = not matched

-- each line is so
abbrev pub EachLine : (List ℕ → Type 0) → List (List ℕ) → Type 0
EachLine P [] = ⊤
EachLine P (line ∷ rest) = P line × EachLine P rest

-- the matches of a line that fit, as they are written
abbrev pub MatchesOf : Patterns → Fit → Style → Place → List ℕ → List ℕ → Type 0
MatchesOf p fit style place line bytes =
    (ms : List Occurrence) × AreShownOf p fit line ms × (bytes ≡ matches_by style place line ms)

-- the same as objects, or by a format
abbrev pub ObjectsOf : Patterns → Fit → Style → Place → List ℕ → List ℕ → Type 0
ObjectsOf p fit style place line bytes =
    (ms : List Occurrence) × AreShownOf p fit line ms × (bytes ≡ objects_by style place line ms)

-- the line with its matches in colour
abbrev pub ColoredOf : Patterns → Fit → Style → Place → List ℕ → List ℕ → Type 0
ColoredOf p fit style place line bytes =
    (ms : List Occurrence) × AreShownOf p fit line ms × (bytes ≡ colored_line_by style place line ms)

-- the line, in colour or not
abbrev pub LineOf : Patterns → Fit → (colored : Bool) → Style → Place → List ℕ → List ℕ → Type 0
LineOf p fit colored style place line bytes = MatchBool colored (ColoredOf p fit style place line bytes) (bytes ≡ line_by style place line)

-- what is written of a selected line: itself, its matches, or nothing; a line that is selected by `invert` has no match
abbrev pub ShowsBy : Patterns → Shown → Fit → (invert : Bool) → Style → Place → List ℕ → List ℕ → Type 0
ShowsBy p Lines fit invert style place line bytes = LineOf p fit (style.color && not invert) style place line bytes
ShowsBy p Matches fit invert style place line bytes = MatchBool invert (bytes ≡ []) (MatchesOf p fit style place line bytes)
ShowsBy p Objects fit invert style place line bytes = MatchBool invert (bytes ≡ []) (ObjectsOf p fit style place line bytes)
ShowsBy p _ fit invert style place line bytes = bytes ≡ []

abbrev pub ShowsLine : Patterns → Job → Place → List ℕ → List ℕ → Type 0
ShowsLine p job place line bytes = ShowsBy p job.shown job.fit job.invert job.style place line bytes

-- that is written, and nothing else
abbrev pub WritesLine : Patterns → Job → Place → Option (List ℕ) → Option (List ℕ) → List ℕ → Type 0
WritesLine p job place old new line =
    (bytes : List ℕ) × ShowsLine p job place line bytes × Appends old new bytes

abbrev pub place_behind : ℕ → ℕ → Place
place_behind count offset = record { lines = count; bytes = offset }

-- the place behind a line and its newline; numbers wrap at 2^64
abbrev pub after_line : Place → List ℕ → Place
after_line place line = record { lines = (place.lines + 1) % 2 ^ 64; bytes = (place.bytes + (length line + 1)) % 2 ^ 64 }

abbrev pub after_lines : Place → List (List ℕ) → Place
after_lines place [] = place
after_lines place (line ∷ rest) = after_lines (after_line place line) rest

-- one selected line more; the count stays at the greatest number
abbrev pub one_more : ℕ → ℕ
one_more count = min (count + 1) (2 ^ 64 - 1)

-- so many lines are selected as are asked for at most, and one at least
abbrev pub is_full : Option ℕ → ℕ → Bool
is_full None count = false
is_full (Some most) count = nat_lt 0 count && nat_le most count

-- the lines from a place on: these bytes are written, and the count of selected lines goes on from `count` to `total`; where so many
-- are selected as are asked for, nothing is told of those that follow
abbrev pub TellsOfLines : Patterns → Job → Place → ℕ → List (List ℕ) → List ℕ → ℕ → Type 0
TellsOfLines p job place count [] bytes total = (bytes ≡ []) × (total ≡ count)
TellsOfLines p job place count (line ∷ rest) bytes total =
    ((is_full job.most count ≡ true) × (bytes ≡ []) × (total ≡ count))
    ⊎ ((is_full job.most count ≡ false) × ((IsSelected p job.fit job.invert line × ((shown : List ℕ) × (more : List ℕ)
    × ShowsLine p job place line shown × TellsOfLines p job (after_line place line) (one_more count) rest more total × (bytes ≡ shown ++ more)))
    ⊎ (IsPassedOver p job.fit job.invert line × TellsOfLines p job (after_line place line) count rest bytes total)))

-- these lines are searched: what is told of them is written, and nothing else
pub record TellsLines (p : Patterns) (job : Job) (before after : State) (old new : Option (List ℕ)) (searched : List (List ℕ)) : Type 0 where
  pub bytes : List ℕ
  pub told : TellsOfLines p job before.place before.selected searched bytes after.selected
  pub written : Appends old new bytes

-- whether the numbers of lines are written: where that is asked for, and in objects
abbrev pub is_numbered : Shown → Bool → Bool
is_numbered Objects asked = true
is_numbered _ asked = asked

abbrev pub NumbersLines : Job → Type 0
NumbersLines job = is_numbered job.shown job.style.number ≡ true

-- two places are the same for what is written; lines are counted only where they are numbered
pub record SamePlace (job : Job) (one other : Place) : Type 0 where
  pub bytes : one.bytes ≡ other.bytes
  pub lines : NumbersLines job → one.lines ≡ other.lines

-- the lines of a text are searched up to those that are left
pub record SearchesTo (p : Patterns) (job : Job) (before after : State) (old new : Option (List ℕ)) (text left : List ℕ) : Type 0 where
  -- what is left is the rest of the text
  pub at : ℕ
  pub within : at ≤ length text
  pub rest : left ≡ drop at text
  pub searched : List (List ℕ)
  pub cut : lines job.style.ending text ≡ searched ++ lines job.style.ending left
  pub tells : TellsLines p job before after old new searched
  -- where a line can follow, the place is behind these lines
  pub placed : (0 < length left) ⊎ EndsLine job.style.ending text → SamePlace job after.place (after_lines before.place searched)

-- one selected line tells all
abbrev pub needs_one : Shown → Bool
needs_one Names = true
needs_one Lacking = true
needs_one Nothing = true
needs_one _ = false

-- such a line was selected, or so many as are asked for and no line behind the last of them is due
abbrev pub IsSettled : Job → State → Type 0
IsSettled job state = ((needs_one job.shown ≡ true) × (0 < state.selected)) ⊎ ((is_full job.most state.selected ≡ true) × (state.trail.due ≡ 0))

-- the lines of a text are searched: all of them, or up to a selected one behind which nothing more is told
pub record SearchesPlain (p : Patterns) (job : Job) (before after : State) (old new : Option (List ℕ)) (text : List ℕ) : Type 0 where
  pub left : List ℕ
  pub searches : SearchesTo p job before after old new text left
  pub ends : (left ≡ []) ⊎ IsSettled job after

-- some line is so
abbrev pub SomeLine : (List ℕ → Type 0) → List (List ℕ) → Type 0
SomeLine P [] = ⊥
SomeLine P (line ∷ rest) = P line ⊎ SomeLine P rest

-- whether one of these lines is selected
abbrev pub IsAny : Patterns → Fit → (invert : Bool) → List (List ℕ) → Bool → Type 0
IsAny p fit invert ls any = MatchBool any (SomeLine (IsSelected p fit invert) ls) (EachLine (IsPassedOver p fit invert) ls)
