-- What a call of the program asks for, and what it writes.
use Rattle.std.specs.Prelude.{◌≡◌, ℕ, ◌++◌, Bool, true, not, List, [], ◌∷◌, codes, Option, None, if◌then◌else◌, ⊤}
use Rattle.std.specs.Io.KnownBytes.{Appends}
use Rattle.std.specs.Str.{bytes_eq}
use Rattle.std.specs.declared.io.traits.Write.{Ghosts as Writers}
use Rattle.aho_devices.specs.Counts.{AppendsBeginning}
use Rattle.aho_devices.specs.declared.adapters.FromWrite.{FromWrite}
use Rattle.tool_parts.specs.Arguments.{find_by}
use Rattle.tool_parts.specs.Asked.{Asked}
use Rattle.tool_parts.specs.Failures.{LeavesPrinting}
use Rattle.tool_parts.specs.Streams.{output_bytes}
use Rattle.tool_parts.specs.declared.failure.Failure.{Failure}

-- [-u] KIND [-i] PATTERN..: the automaton that is drawn
abbrev pub drawing_by : List (List ℕ) → Option Asked
drawing_by [] = None
drawing_by (first ∷ rest) = if bytes_eq first (codes "-u") then find_by rest else find_by (first ∷ rest)

-- its anchored start is drawn, where the first argument is not `-u`
abbrev pub draws_anchored : List (List ℕ) → Bool
draws_anchored [] = true
draws_anchored (first ∷ rest) = not (bytes_eq first (codes "-u"))

-- the line that tells of wrong arguments
abbrev pub usage_line : List ℕ
usage_line = codes "usage: acdraw [-u] KIND [-i] PATTERN..\n"

-- a text of the dot language that was not cut off: it ends with its last brace
abbrev pub IsWhole : List ℕ → Type 0
IsWhole text = (front : List ℕ) × (text ≡ front ++ codes "}\n")

-- a whole text is written and nothing else
abbrev pub Draws : Option (List ℕ) → Option (List ℕ) → Type 0
Draws old new = (text : List ℕ) × IsWhole text × Appends old new text

-- a beginning of one is
abbrev pub BeginsDrawing : Option (List ℕ) → Option (List ℕ) → Type 0
BeginsDrawing old new = (text : List ℕ) × IsWhole text × AppendsBeginning old new text

-- what each failure leaves of an output: nothing is written, but for a beginning where a write failed
abbrev pub LeavesDrawing : {W : Type 0} → Writers W → FromWrite W → FromWrite W → Failure → Type 0
LeavesDrawing Writes old new = LeavesPrinting ⊤ (new ≡ old) (BeginsDrawing (output_bytes Writes old) (output_bytes Writes new))
