-- Which ranges of a line rules mark.
use Rattle.std.specs.Prelude.{◌≡◌, ◌⊎◌, ◌↔◌, ◌<◌, ℕ, List, [], MatchOption, Some, length, slice_get, slice_index_or}
use Rattle.aho_core.specs.Listing.{IsMember}
use Rattle.secret_rules.specs.MarkLists.{HasOneOpen}
use Rattle.secret_rules.specs.Rules.{AppliesTo, regex_of, until_of}
use Rattle.secret_rules.specs.Secrets.{match_ranges, secrets_in}
use Rattle.secret_rules.specs.Standing.{StandsFrom, StandsInLine}
use Rattle.secret_rules.specs.declared.marks.Mark.{Mark}
use Rattle.secret_rules.specs.declared.rule.Rule.{Rule}

-- a match of the rule's expression begins at this place of the line
abbrev pub BeginsAt : Rule → List ℕ → ℕ → Type 0
BeginsAt rule line place = (end : ℕ) × IsMember (match_ranges (regex_of rule) line) (place, end)

-- a rule that marks up to a text marks, from a match that begins in the line or from one of an earlier line that goes on (GoesOn), to
-- the end of the line
abbrev pub MarksOnward : Rule → Type 0 → List ℕ → ℕ × ℕ → Type 0
MarksOnward rule GoesOn line range =
    (range.1 ≡ length line) × (((range.0 ≡ 0) × GoesOn) ⊎ (AppliesTo rule line × BeginsAt rule line range.0))

-- any other marks the secrets of its matches
abbrev pub MarksSecret : Rule → List ℕ → ℕ × ℕ → Type 0
MarksSecret rule line range = AppliesTo rule line × IsMember (secrets_in (regex_of rule) rule.secret_group line) range

-- the rule marks this range of the line, which is not empty
abbrev pub MarksRange : Rule → Type 0 → List ℕ → ℕ × ℕ → Type 0
MarksRange rule GoesOn line range =
    (range.0 < range.1) × MatchOption rule.until (MarksSecret rule line range) (λ _. MarksOnward rule GoesOn line range)

-- the line of this number
abbrev pub line_numbered : List (List ℕ) → ℕ → List ℕ
line_numbered lines number = slice_index_or lines number []

-- a match goes on behind these lines: it begins in one of them, and the rule's text stands neither behind it in that line nor in a
-- later one
pub record GoesOnAfter (rule : Rule) (lines : List (List ℕ)) : Type 0 where
  pub number : ℕ
  pub within : number < length lines
  pub applies : AppliesTo rule (line_numbered lines number)
  pub found : ℕ × ℕ
  pub begins : IsMember (match_ranges (regex_of rule) (line_numbered lines number)) found
  pub behind : StandsFrom (until_of rule) (line_numbered lines number) found.1 → ⊥
  pub later : (k : ℕ) → number < k → k < length lines → StandsInLine (until_of rule) (line_numbered lines k) → ⊥

-- the rule of this number is this one
abbrev pub IsRuleAt : List Rule → ℕ → Rule → Type 0
IsRuleAt rules number rule = slice_get rules number ≡ Some rule

-- whether a match goes on behind a line, where one of an earlier line does (GoesOn) or not: that one does where the rule's text does
-- not stand in the line, and one that begins in the line where it does not stand behind it
abbrev pub StaysOpen : Rule → Type 0 → List ℕ → Type 0
StaysOpen rule GoesOn line =
    (GoesOn × ¬ (StandsInLine (until_of rule) line)) ⊎ (AppliesTo rule line × HasOneOpen (until_of rule) line (match_ranges (regex_of rule) line))

-- what is true of the rule of this number
abbrev pub ForRuleAt : List Rule → ℕ → (Rule → Type 0) → Type 0
ForRuleAt rules number Holds = (rule : Rule) → IsRuleAt rules number rule → Holds rule

-- a mark of the line that follows these lines
pub record IsMarkOf (rules : List Rule) (lines : List (List ℕ)) (line : List ℕ) (mark : Mark) : Type 0 where
  pub rule : Rule
  pub numbered : IsRuleAt rules mark.rule rule
  pub marks : MarksRange rule (GoesOnAfter rule lines) line (mark.start, mark.end)

-- these are all marks of it
abbrev pub AreAllMarks : List Rule → List (List ℕ) → List ℕ → List Mark → Type 0
AreAllMarks rules lines line marks = (mark : Mark) → IsMember marks mark ↔ IsMarkOf rules lines line mark
