-- What the arguments, those after the program's name, ask for.
use Rattle.std.specs.Prelude.{◌≡◌, ℕ, ◌%◌, ◌==◌, ◌||◌, not, true, false, List, [], ◌∷◌, Option, Some, None, codes, length, map, String, string_bytes, Vec, Result, IfOk, option_and_then, option_map, if◌then◌else◌}
use Rattle.std.specs.Borrow.{Bor}
use Rattle.std.specs.Str.{bytes_eq}
use Rattle.aho_core.specs.declared.search.MatchKind.{MatchKind}
use Rattle.aho_core.specs.declared.search.MatchKind.TheVariants.{Standard, LeftmostFirst, LeftmostLongest}
use Rattle.tool_parts.specs.Asked.{Asked, Replacing, replacing_for}
use Rattle.tool_parts.specs.declared.command.Task.{Task}
use Rattle.tool_parts.specs.declared.command.Task.TheVariants.{Find, Overlap}

-- the match kind that an argument names
abbrev pub kind_by : List ℕ → Option MatchKind
kind_by argument =
    if bytes_eq argument (codes "standard") then Some Standard
    else if bytes_eq argument (codes "first") || bytes_eq argument (codes "leftmost-first") then Some LeftmostFirst
    else if bytes_eq argument (codes "longest") || bytes_eq argument (codes "leftmost-longest") then Some LeftmostLongest
    else None

-- PATTERN..: at least one
abbrev pub patterns_by : Task → List (List ℕ) → Option Asked
patterns_by task [] = None
patterns_by task (first ∷ rest) = Some (record { task = task; patterns = first ∷ rest })

-- [-i] PATTERN..: `-i` sets the case rule in the first place, and is a pattern in any other
abbrev pub cased_by : MatchKind → List (List ℕ) → Option Asked
cased_by kind [] = None
cased_by kind (first ∷ rest) =
    if bytes_eq first (codes "-i") then patterns_by (Find kind true) rest else patterns_by (Find kind false) (first ∷ rest)

-- KIND [-i] PATTERN..
abbrev pub find_by : List (List ℕ) → Option Asked
find_by [] = None
find_by (first ∷ rest) = option_and_then (λ kind. cased_by kind rest) (kind_by first)

-- find KIND [-i] PATTERN.., or overlap PATTERN..: the matches that are printed
abbrev pub asked_by : List (List ℕ) → Option Asked
asked_by [] = None
asked_by (command ∷ rest) =
    if bytes_eq command (codes "find") then find_by rest
    else if bytes_eq command (codes "overlap") then patterns_by Overlap rest
    else None

-- PATTERN PIECE PATTERN PIECE ..: at least one pattern, and a piece for each
abbrev pub pairs_by : List (List ℕ) → Option Replacing
pairs_by arguments =
    if length arguments == 0 || not (length arguments % 2 == 0) then None
    else Some (replacing_for arguments)

-- replace PATTERN PIECE PATTERN PIECE ..
abbrev pub replacing_by : List (List ℕ) → Option Replacing
replacing_by [] = None
replacing_by (command ∷ rest) = if bytes_eq command (codes "replace") then pairs_by rest else None

module _ {Z : Type 0} where
  -- the bytes of each argument
  abbrev pub texts : List (String Z) → List (List ℕ)
  texts arguments = map string_bytes arguments

  -- some pairs of arguments ask to replace this: none where there are none
  abbrev pub PairsAskFor : Option (Bor (List (String Z))) → Option Replacing → Type 0
  PairsAskFor pairs asked = option_map (λ pairs. replacing_for (texts pairs.now)) pairs ≡ asked

  -- what holds of the matches that the arguments ask for, where they ask for some
  abbrev pub IfAsked : List (String Z) → (Asked → Type 0) → Type 0
  IfAsked arguments Holds = (asked : Asked) → asked_by (texts arguments) ≡ Some asked → Holds asked

  -- what holds of the replacement that the arguments ask for, where they ask for one
  abbrev pub IfReplacing : List (String Z) → (Replacing → Type 0) → Type 0
  IfReplacing arguments Holds = (asked : Replacing) → replacing_by (texts arguments) ≡ Some asked → Holds asked

  -- the arguments ask for nothing
  abbrev pub AreWrong : List (String Z) → Type 0
  AreWrong arguments = (asked_by (texts arguments) ≡ None) × (replacing_by (texts arguments) ≡ None)

  -- the arguments do not ask for matches
  abbrev pub AskForNone : List (String Z) → Type 0
  AskForNone arguments = asked_by (texts arguments) ≡ None

  -- the same where there may be a failure in the place of arguments
  module _ {A E : Type 0} where
    abbrev pub IfGivenAsked : Result (Vec (String Z) A) E → (Asked → Type 0) → Type 0
    IfGivenAsked given Holds = IfOk given (λ arguments. IfAsked arguments.items Holds)

    abbrev pub IfGivenReplacing : Result (Vec (String Z) A) E → (Replacing → Type 0) → Type 0
    IfGivenReplacing given Holds = IfOk given (λ arguments. IfReplacing arguments.items Holds)

    abbrev pub IfGivenWrong : Result (Vec (String Z) A) E → Type 0 → Type 0
    IfGivenWrong given Holds = IfOk given (λ arguments. AreWrong arguments.items → Holds)
