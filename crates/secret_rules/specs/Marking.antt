-- What a marker is after some lines.
use Rattle.std.specs.Prelude.{◌<◌, ◌↔◌, ℕ, List, IsSome, IsTrue, length}
use Rattle.secret_rules.specs.Markers.{flag_at}
use Rattle.secret_rules.specs.Marks.{GoesOnAfter, IsRuleAt}
use Rattle.secret_rules.specs.declared.error.MarkError.{MarkError}
use Rattle.secret_rules.specs.declared.error.MarkError.TheVariants.{OutOfMemory, TooBig}
use Rattle.secret_rules.specs.declared.marker.Marker.{Marker}
use Rattle.secret_rules.specs.declared.rule.Rule.{Rule}

-- the rules by which a marker marks
abbrev pub marker_rules : Marker → List Rule
marker_rules marker = marker.readers

-- it has marked these lines: of each rule with `until` it knows whether a match goes on behind them
abbrev pub HasMarked : Marker → List (List ℕ) → Type 0
HasMarked marker lines = (number : ℕ) (rule : Rule) → IsRuleAt (marker_rules marker) number rule → IsSome rule.until
    → IsTrue (flag_at marker.goes_on.items number) ↔ GoesOnAfter rule lines

-- why a line is not marked: the expression of one of the rules is too big, or memory ran out
abbrev pub IsLineFailure : List Rule → MarkError → Type 0
IsLineFailure rules (TooBig number) = number < length rules
IsLineFailure rules OutOfMemory = Unit {0}
