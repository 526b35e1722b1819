-- The lines of a text.
use Rattle.std.specs.Prelude.{ℕ, ◌==◌, List, [], ◌∷◌, ◌++◌, if◌then◌else◌}

-- the bytes of a line, and its end: the byte 10, or nothing at the end of the text
pub record Line : Type 0 where
  pub bytes : List ℕ
  pub end : List ℕ

-- bytes with an end, as a line: with a line end, and as the last line
abbrev pub line_with : List ℕ → List ℕ → Line
line_with bytes end = record { bytes = bytes; end = end }

abbrev pub ended_line : List ℕ → Line
ended_line bytes = line_with bytes (10 ∷ [])

abbrev pub last_line : List ℕ → Line
last_line bytes = line_with bytes []

-- the lines of a text of which some bytes of the first were read; what stands behind the last line end is the last line
abbrev pub lines_from : List ℕ → List ℕ → List Line
lines_from read [] = last_line read ∷ []
lines_from read (byte ∷ bytes) =
    if byte == 10 then ended_line read ∷ lines_from [] bytes else lines_from (read ++ byte ∷ []) bytes

-- the lines of a text
abbrev pub stream_lines : List ℕ → List Line
stream_lines text = lines_from [] text
