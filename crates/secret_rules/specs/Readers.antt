-- What a reader searches for.
use Rattle.std.specs.Prelude.{◌≡◌, ℕ, List}
use Rattle.regex.specs.Bytes.{matcher_pattern}
use Rattle.regex.specs.Locations.{AreLocationsOf, location_count}
use Rattle.regex.specs.Patterns.{Match, Re, SameCaptures, find, span}
use Rattle.regex.specs.Search.{Answers, next_match}
use Rattle.regex.specs.declared.bytes.matcher.Matcher.{Matcher}
use Rattle.regex.specs.declared.locations.CaptureLocations.{CaptureLocations}
use Rattle.std.specs.Prelude.{Option, false}
use Rattle.secret_rules.specs.Expressions.{expression_of, group_total}
use Rattle.secret_rules.specs.Secrets.{secret_in}
use Rattle.secret_rules.specs.declared.reader.Found.{Found}

-- a matcher and its room for groups are those of the expression of this text
pub record IsReaderOf (source : List ℕ) (matcher : Matcher) (locations : CaptureLocations) : Type 0 where
  pub matches : SameCaptures (matcher_pattern matcher) (expression_of source)
  pub groups : location_count locations ≡ group_total source

-- the range is that of the match, and the locations are those of its groups
abbrev pub IsLocated : CaptureLocations → Match → ℕ × ℕ → Type 0
IsLocated locations m range = (range ≡ span m) × AreLocationsOf m locations

-- what was found is the leftmost match from a place on, with its groups: of any expression that matches as the matcher does
abbrev pub ReadsAt : Matcher → CaptureLocations → List ℕ → ℕ → Option (ℕ × ℕ) → Type 0
ReadsAt matcher locations line start found =
    (re : Re) → SameCaptures (matcher_pattern matcher) re → Answers found (find re line start) (IsLocated locations)

-- or the match after the one that ended a place before this one
abbrev pub ReadsNext : Matcher → CaptureLocations → List ℕ → ℕ → Option (ℕ × ℕ) → Type 0
ReadsNext matcher locations line after found =
    (re : Re) → SameCaptures (matcher_pattern matcher) re → Answers found (next_match false re line after) (IsLocated locations)

-- the ranges are those of the match and of its secret
abbrev pub IsFoundBy : List ℕ → ℕ → Match → Found → Type 0
IsFoundBy source named m found = (found.whole ≡ span m) × (found.secret ≡ secret_in named (group_total source) m)

-- what was found is the match after the one that ended a place before this one
abbrev pub FindsNextBy : List ℕ → ℕ → List ℕ → ℕ → Option Found → Type 0
FindsNextBy source named line after found =
    Answers found (next_match false (expression_of source) line after) (IsFoundBy source named)
