-- What a visitor of lines takes, and which errors it may give.
use Rattle.std.specs.Prelude.{◌≡◌, ◌⊎◌, ℕ, List, [], ⊤}
use Rattle.aho_core.specs.Occurrence.{Occurrence}
use Rattle.aho_core.specs.declared.error.stream.StreamError.{StreamError}
use Rattle.aho_core.specs.declared.error.stream.StreamError.TheVariants.{Match, Read, Write, WriteZero, Memory, PositionLimit}
use Rattle.secret_rules.specs.Writing.{LieFrom}

-- the runs lie in the line, one behind another, or the line has no bytes
abbrev pub CanBeVisited : List ℕ → List Occurrence → Type 0
CanBeVisited line runs = LieFrom line 0 runs ⊎ (line ≡ [])

-- an error that a visit can give: a device to which it writes failed, or memory ran out
abbrev pub IsVisitRefusal : StreamError → Type 0
IsVisitRefusal (Match cause) = ⊥
IsVisitRefusal (Read fault) = ⊥
IsVisitRefusal (Write fault) = ⊤
IsVisitRefusal WriteZero = ⊤
IsVisitRefusal Memory = ⊤
IsVisitRefusal PositionLimit = ⊥
