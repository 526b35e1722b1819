-- What is written of a line.
use Rattle.std.specs.Prelude.{◌≤◌, ℕ, List, [], ◌∷◌, ◌++◌, length}
use Rattle.aho_core.specs.Occurrence.{Occurrence}
use Rattle.aho_core.specs.Replacement.{replaced_by}
use Rattle.aho_cover.specs.Pieces.{PieceRule, piece_in}
use Rattle.secret_rules.specs.Lines.{Line}

-- some runs lie in a text, from a place on, one behind another
abbrev pub LieFrom : List ℕ → ℕ → List Occurrence → Type 0
LieFrom text at [] = at ≤ length text
LieFrom text at (run ∷ runs) = (at ≤ run.start) × (run.start ≤ run.end) × LieFrom text run.end runs

-- a line with the piece of each run in its place, and with its end
abbrev pub line_cover : PieceRule → Line → List Occurrence → List ℕ
line_cover rule line runs = replaced_by line.bytes runs (piece_in rule line.bytes) ++ line.end
