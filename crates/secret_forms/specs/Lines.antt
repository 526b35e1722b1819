-- The lines of a secret that has several.
use Rattle.std.specs.Prelude.{ℕ, Bool, ◌==◌, List, [], ◌∷◌, flat_map, length, nat_lt, if◌then◌else◌}
use Rattle.std.specs.List.{list_any, slice_split}
use Rattle.std.specs.Str.Lines.{strip_carriage_return}
use Rattle.secret_forms.specs.Law.{HidesEach}

-- whether a byte ends a line
abbrev pub ends_line : ℕ → Bool
ends_line byte = byte == 10

-- a line, unless it has fewer than eight bytes: what stands between two line ends, with no carriage return at its end
abbrev pub long_line : List ℕ → List (List ℕ)
long_line part = let line = strip_carriage_return part in if nat_lt (length line) 8 then [] else line ∷ []

-- the lines of eight bytes or more of a secret that has a line end
abbrev pub line_patterns : List ℕ → List (List ℕ)
line_patterns secret = if list_any ends_line secret then flat_map long_line (slice_split ends_line secret) else []

-- no character of a line is outside the patterns, wherever the line stands
abbrev pub HidesLine : List (List ℕ) → List ℕ → Type 0
HidesLine patterns line = HidesEach (λ byte. byte ∷ []) patterns line
