-- The marks of some ranges, in order.
use Rattle.std.specs.Prelude.{◌⊎◌, ℕ, List, [], ◌∷◌, flat_map, length, map, nat_lt, if◌then◌else◌}
use Rattle.secret_rules.specs.Rules.{regex_of}
use Rattle.secret_rules.specs.Secrets.{match_ranges, secrets_in}
use Rattle.secret_rules.specs.Standing.{StandsFrom}
use Rattle.secret_rules.specs.declared.marks.Mark.{Mark}
use Rattle.secret_rules.specs.declared.rule.Rule.{Rule}

-- the mark of a range, unless it is empty
abbrev pub mark_at : ℕ → ℕ × ℕ → List Mark
mark_at rule range = if nat_lt range.0 range.1 then record { rule = rule; start = range.0; end = range.1 } ∷ [] else []

-- of each of some ranges
abbrev pub marks_at : ℕ → List (ℕ × ℕ) → List Mark
marks_at rule ranges = flat_map (mark_at rule) ranges

-- a range from the same place to the end of the line
abbrev pub onward : List ℕ → ℕ × ℕ → ℕ × ℕ
onward line range = (range.0, length line)

-- behind one of these ranges the text does not stand in the line
abbrev pub HasOneOpen : List ℕ → List ℕ → List (ℕ × ℕ) → Type 0
HasOneOpen text line [] = ⊥
HasOneOpen text line (range ∷ ranges) = (¬ (StandsFrom text line range.1)) ⊎ HasOneOpen text line ranges

-- the marks of a rule's secrets, and those from each of its matches on, under the number of the rule
abbrev pub secret_marks : ℕ → Rule → List ℕ → List Mark
secret_marks number rule line = marks_at number (secrets_in (regex_of rule) rule.secret_group line)

abbrev pub onward_marks : ℕ → Rule → List ℕ → List Mark
onward_marks number rule line = marks_at number (map (onward line) (match_ranges (regex_of rule) line))

-- a match of the rule has the text nowhere behind it
abbrev pub LeavesOpen : Rule → List ℕ → List ℕ → Type 0
LeavesOpen rule text line = HasOneOpen text line (match_ranges (regex_of rule) line)
