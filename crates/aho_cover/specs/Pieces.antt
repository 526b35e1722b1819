-- The piece of a run, made of the number of its pattern and of its bytes.
use Rattle.std.specs.Prelude.{◌≡◌, ℕ, Bool, List, [], ◌∷◌, ◌++◌, slice_index_or, slice_range}
use Rattle.std.specs.Io.{StartsWith}
use Rattle.aho_core.specs.Occurrence.{Occurrence}
use Rattle.aho_core.specs.Patterns.{Patterns}
use Rattle.aho_core.specs.Replacement.{replaced_by}
use Rattle.aho_cover.specs.Words.{AreRunsWith, all_runs}

-- what makes pieces
abbrev pub PieceRule : Type 0
PieceRule = ℕ → List ℕ → List ℕ

-- the piece of a run of these bytes
abbrev pub piece_in : PieceRule → List ℕ → Occurrence → List ℕ
piece_in rule haystack run = rule run.pattern (slice_range haystack run.start run.end)

-- one piece for each pattern, whatever the bytes of a run are
abbrev pub fixed_rule : List (List ℕ) → PieceRule
fixed_rule pieces number bytes = slice_index_or pieces number []

-- the bytes up to the end of the last of some runs, with a piece in the place of each
abbrev pub covered_through : List ℕ → ℕ → List Occurrence → (Occurrence → List ℕ) → List ℕ
covered_through haystack at [] piece = []
covered_through haystack at (run ∷ runs) piece = slice_range haystack at run.start ++ (piece run ++ covered_through haystack run.end runs piece)

-- of a cover these first runs were written with their pieces, and nothing behind the piece of the run that follows them
pub record EndsAmong (haystack : List ℕ) (piece : Occurrence → List ℕ) (first later : List Occurrence) (written : List ℕ) : Type 0 where
  pub whole : StartsWith written (covered_through haystack 0 first piece)
  pub no_more : (next : Occurrence) (rest : List Occurrence) → later ≡ next ∷ rest
      → StartsWith (covered_through haystack 0 (first ++ next ∷ []) piece) written

-- the cover of a text: each run is replaced by the piece that is made of it. Of all that occurs, or of the words alone
abbrev pub IsCoverWith : (words : Bool) → Patterns → List ℕ → PieceRule → List ℕ → Type 0
IsCoverWith words p haystack rule output =
    (runs : List Occurrence) × AreRunsWith words p haystack runs × (output ≡ replaced_by haystack runs (piece_in rule haystack))

-- as it is computed
abbrev pub cover_with : (words : Bool) → Patterns → List ℕ → PieceRule → List ℕ
cover_with words p haystack rule = replaced_by haystack (all_runs words p haystack) (piece_in rule haystack)
