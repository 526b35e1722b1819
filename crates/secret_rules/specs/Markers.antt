-- What the steps of a marker add, and which rules go on behind a line.
use Rattle.std.specs.Prelude.{◌≡◌, ◌⊎◌, ◌↔◌, ℕ, Bool, false, List, IsSome, IsTrue, if◌then◌else◌, [], length, slice_index_or}
use Rattle.aho_core.specs.Listing.{IsMember}
use Rattle.secret_rules.specs.MarkLists.{mark_at, onward_marks}
use Rattle.secret_rules.specs.Marks.{IsRuleAt, MarksRange, StaysOpen}
use Rattle.secret_rules.specs.Rules.{AppliesTo}
use Rattle.secret_rules.specs.declared.marks.Mark.{Mark}
use Rattle.secret_rules.specs.declared.rule.Rule.{Rule}

-- the flag of a number
abbrev pub flag_at : List Bool → ℕ → Bool
flag_at flags number = slice_index_or flags number false

-- no flag is set
abbrev pub NoneIsSet : List Bool → Type 0
NoneIsSet flags = (number : ℕ) → flag_at flags number ≡ false

-- no rule applies to the line
abbrev pub NoneApplies : List Rule → List ℕ → Type 0
NoneApplies rules line = (number : ℕ) (rule : Rule) → IsRuleAt rules number rule → ¬ (AppliesTo rule line)

-- there is a flag for each rule, which tells whether the rule applies to the line
pub record AreFlagsFor (rules : List Rule) (line : List ℕ) (flags : List Bool) : Type 0 where
  pub count : length flags ≡ length rules
  pub tell : (number : ℕ) (rule : Rule) → IsRuleAt rules number rule → IsTrue (flag_at flags number) ↔ AppliesTo rule line

-- the marks of the ranges of which P holds were added for the rule of this number
abbrev pub AddsMarks : List Mark → List Mark → ℕ → (ℕ × ℕ → Type 0) → Type 0
AddsMarks old new number P = (mark : Mark) → IsMember new mark ↔ (IsMember old mark ⊎ ((mark.rule ≡ number) × P (mark.start, mark.end)))

-- the mark of a whole line, if it is to be marked
abbrev pub whole_mark : Bool → ℕ → List ℕ → List Mark
whole_mark goes_on number line = if goes_on then mark_at number (0, length line) else []

-- those from each match of the rule on, if it applies
abbrev pub applied_marks : Bool → ℕ → Rule → List ℕ → List Mark
applied_marks applies number rule line = if applies then onward_marks number rule line else []

-- a mark of the line, where these flags tell of which rules a match of an earlier line goes on
pub record IsMarkWith (rules : List Rule) (flags : List Bool) (line : List ℕ) (mark : Mark) : Type 0 where
  pub rule : Rule
  pub numbered : IsRuleAt rules mark.rule rule
  pub marks : MarksRange rule (IsTrue (flag_at flags mark.rule)) line (mark.start, mark.end)

-- these are all marks of it
abbrev pub AreMarksWith : List Rule → List Bool → List ℕ → List Mark → Type 0
AreMarksWith rules flags line marks = (mark : Mark) → IsMember marks mark ↔ IsMarkWith rules flags line mark

-- the new flags tell of which rules with `until` a match goes on behind the line, where the old ones tell it of those before
abbrev pub AreFlagsBehind : List Rule → List Bool → List Bool → List ℕ → Type 0
AreFlagsBehind rules old new line = (number : ℕ) (rule : Rule) → IsRuleAt rules number rule → IsSome rule.until
    → IsTrue (flag_at new number) ↔ StaysOpen rule (IsTrue (flag_at old number)) line
