-- Patterns that are too short for forms, and what is told of them.
use Rattle.std.specs.Prelude.{◌≡◌, ℕ, ◌+◌, ◌&&◌, Bool, true, List, [], ◌∷◌, ◌++◌, Option, None, Some, if◌then◌else◌, is_some, length, nat_lt, not}
use Rattle.acredact.specs.Arguments.{Given, has}
use Rattle.acredact.specs.Failures.{short_line}
use Rattle.acredact.specs.Tables.{Secret}
use Rattle.acredact.specs.declared.options.Word.TheVariants.{Forms}
use Rattle.acredact.specs.declared.failure.Failure.{Failure}
use Rattle.acredact.specs.declared.failure.Failure.TheVariants.{Short}

-- a pattern that was given and has fewer than four bytes has no forms
abbrev pub is_formless : Secret → Bool
is_formless secret = not (is_some secret.form_of) && nat_lt (length secret.pattern) 4

-- it is told by its number
abbrev pub lines_of_short : ℕ → Secret → List (List ℕ)
lines_of_short number secret = if is_formless secret then short_line number ∷ [] else []

-- each of these is, where the first has this number
abbrev pub short_lines : ℕ → List Secret → List (List ℕ)
short_lines number [] = []
short_lines number (secret ∷ secrets) = lines_of_short number secret ++ short_lines (number + 1) secrets

-- where forms are asked for
abbrev pub short_told : List Given → List Secret → List (List ℕ)
short_told given secrets = if has Forms given then short_lines 1 secrets else []

-- the number of the first of them that is told, if there is one
abbrev pub first_short : ℕ → List Secret → Option ℕ
first_short number [] = None
first_short number (secret ∷ secrets) = if is_formless secret then Some number else first_short (number + 1) secrets

abbrev pub AreLongAsked : List Given → List Secret → Type 0
AreLongAsked given secrets = has Forms given ≡ true → first_short 1 secrets ≡ None

-- or the first is refused
abbrev pub RefusesShort : List Secret → Failure → Type 0
RefusesShort secrets failure = (number : ℕ) × (first_short 1 secrets ≡ Some number) × (failure ≡ Short number)

abbrev pub RefusesShortAsked : List Given → List Secret → Failure → Type 0
RefusesShortAsked given secrets failure = (has Forms given ≡ true) × RefusesShort secrets failure
