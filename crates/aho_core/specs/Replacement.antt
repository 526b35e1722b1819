-- A haystack with its matches replaced.
use Rattle.std.specs.Prelude.{ℕ, Bool, ◌&&◌, ◌||◌, List, [], ◌∷◌, ◌++◌, drop, filter, length, map, nat_le, nat_lt, slice_index, slice_index_or, slice_range}
use Rattle.std.specs.Borrow.{Bor}
use Rattle.aho_core.specs.Occurrence.{Occurrence}

-- the bytes from a place on, with a piece in the place of each match's range
abbrev pub replaced_from : List ℕ → ℕ → List Occurrence → (Occurrence → List ℕ) → List ℕ
replaced_from haystack at [] piece = drop at haystack
replaced_from haystack at (m ∷ ms) piece = slice_range haystack at m.start ++ (piece m ++ replaced_from haystack m.end ms piece)

abbrev pub replaced_by : List ℕ → List Occurrence → (Occurrence → List ℕ) → List ℕ
replaced_by haystack ms piece = replaced_from haystack 0 ms piece

-- with one piece for each pattern
abbrev pub replaced : List ℕ → List Occurrence → List (List ℕ) → List ℕ
replaced haystack ms pieces = replaced_by haystack ms (λ m. slice_index_or pieces m.pattern [])

-- the pieces of these slices, by their places
abbrev pub pieces_of : List (Bor (List ℕ)) → List (List ℕ)
pieces_of slices = map (λ piece. piece.now) slices

-- whether a character of the text begins at a place, or the text ends there: the test of std's `IsCharBoundary`
abbrev pub is_char_boundary : List ℕ → ℕ → Bool
is_char_boundary text at = nat_le at (length text) && (nat_le (length text) at || (nat_lt (slice_index text at) 128 || nat_le 192 (slice_index text at)))

-- whether a match starts and ends at character boundaries
abbrev pub is_on_boundaries : List ℕ → Occurrence → Bool
is_on_boundaries text m = is_char_boundary text m.start && is_char_boundary text m.end

-- of the matches of a text those that are replaced: the others are skipped, and their bytes stay
abbrev pub on_boundaries : List ℕ → List Occurrence → List Occurrence
on_boundaries text ms = filter (is_on_boundaries text) ms
