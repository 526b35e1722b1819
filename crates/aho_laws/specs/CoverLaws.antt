-- What the laws of a cover say of runs, of kept bytes and of pieces.
use Rattle.std.specs.Prelude.{◌≡◌, ◌⊎◌, ℕ, zero, suc, ◌+◌, ◌<◌, ◌≤◌, Bool, not, ◌&&◌, nat_le, nat_lt, if◌then◌else◌, List, [], ◌∷◌, ◌++◌, filter, length, map, slice_index, slice_index_or}
use Rattle.std.specs.List.{list_any, range_with_len}
use Rattle.aho_core.specs.declared.search.MatchKind.TheVariants.{LeftmostLongest}
use Rattle.aho_core.specs.Cover.{AreRuns, IsCovered}
use Rattle.aho_core.specs.Listing.{IsListedBy, IsMember}
use Rattle.aho_core.specs.Occurrence.{Occurrence}
use Rattle.aho_core.specs.Occurs.{OccursIn}
use Rattle.aho_core.specs.Overlapping.{all_occurrences, occurrences_ending}
use Rattle.aho_core.specs.Patterns.{Patterns}
use Rattle.aho_core.specs.Replacement.{replaced_by}
use Rattle.aho_core.specs.Search.{plain_search}
use Rattle.aho_laws.specs.CutLaws.{NoneHolds, Piece}

-- some byte lies between the first and the second
abbrev pub StandApart : Occurrence → Occurrence → Type 0
StandApart one other = one.end < other.start

-- runs that stand apart and in order, each with a byte at least, and end at a place or before
pub record AreInOrder (runs : List Occurrence) (upto : ℕ) : Type 0 where
  pub in_order : IsListedBy StandApart runs
  pub full : (x : Occurrence) → IsMember runs x → x.start < x.end
  pub within : (x : Occurrence) → IsMember runs x → x.end ≤ upto

-- each of them ends before a place
abbrev pub EndBefore : List Occurrence → ℕ → Type 0
EndBefore runs place = (x : Occurrence) → IsMember runs x → x.end < place

-- a run and an occurrence that touches it and ends behind it, as one run
abbrev pub extended : Occurrence → Occurrence → Occurrence
extended run m = if nat_lt run.start m.start then record { pattern = run.pattern; start = run.start; end = m.end } else m

-- runs in order, and an occurrence that ends behind them: all that it touches become one with it
abbrev pub joined_runs : List Occurrence → Occurrence → List Occurrence
joined_runs [] m = m ∷ []
joined_runs (run ∷ runs) m = if nat_lt run.end m.start then run ∷ joined_runs runs m else extended run m ∷ []

-- the same with the first of what ends at one place, where that is not empty
abbrev pub joined_first : List Occurrence → List Occurrence → List Occurrence
joined_first runs [] = runs
joined_first runs (m ∷ ms) = if nat_lt m.start m.end then joined_runs runs m else runs

-- the runs of what ends up to a place
abbrev pub runs_upto : Patterns → List ℕ → ℕ → List Occurrence
runs_upto p haystack zero = []
runs_upto p haystack (suc at) = joined_first (runs_upto p haystack at) (occurrences_ending p haystack 0 (suc at))

-- whether some occurrence of the text holds the byte at a place
abbrev pub is_covered : Patterns → List ℕ → ℕ → Bool
is_covered p haystack at = list_any (λ (m : Occurrence). nat_le m.start at && nat_lt at m.end) (all_occurrences p haystack 0 (length haystack))

-- the bytes that no occurrence holds
abbrev pub uncovered : Patterns → List ℕ → List ℕ
uncovered p haystack = map (λ at. slice_index haystack at) (filter (λ at. not (is_covered p haystack at)) (range_with_len 0 (length haystack)))

-- what is left of a text without its runs
abbrev pub kept : List ℕ → List Occurrence → List ℕ
kept haystack runs = replaced_by haystack runs (λ run. [])

-- one run holds the whole occurrence, and no other run any byte of it
pub record LiesInOneRun (runs : List Occurrence) (m : Occurrence) : Type 0 where
  pub run : Occurrence
  pub member : IsMember runs run
  pub after_start : run.start ≤ m.start
  pub before_end : m.end ≤ run.end
  pub only : (other : Occurrence) → IsMember runs other → other.start < m.end → m.start < other.end → other ≡ run

-- a find begins where the run does, ends in it, and is of the pattern that names its piece
pub record BeginsWithFind (finds : List Occurrence) (run : Occurrence) : Type 0 where
  pub find : Occurrence
  pub member : IsMember finds find
  pub starts : find.start ≡ run.start
  pub before_end : find.end ≤ run.end
  pub named : find.pattern ≡ run.pattern

-- the same patterns, of which the leftmost-longest is found
abbrev pub by_longest : Patterns → Patterns
by_longest p = record p { kind = LeftmostLongest }

-- nothing occurs in the piece, nor does any pattern hold its first or its last byte
pub record IsCleanPiece (p : Patterns) (piece : List ℕ) : Type 0 where
  pub some : 0 < length piece
  pub first : (byte : ℕ) (rest : List ℕ) → piece ≡ byte ∷ rest → NoneHolds p byte
  pub last : (byte : ℕ) (front : List ℕ) → piece ≡ front ++ byte ∷ [] → NoneHolds p byte
  pub none : (m : Occurrence) → OccursIn p (plain_search piece) m → ⊥

-- each pattern's piece is clean
abbrev pub AreClean : Patterns → List (List ℕ) → Type 0
AreClean p pieces = (number : ℕ) → number < length p.words → IsCleanPiece p (slice_index_or pieces number [])

-- of the two bytes beside a place one lies in no occurrence of the text
abbrev pub IsBare : Patterns → List ℕ → ℕ → Type 0
IsBare p haystack place =
    ((at : ℕ) → at + 1 ≡ place → IsCovered (OccursIn p (plain_search haystack)) at → ⊥)
    ⊎ (IsCovered (OccursIn p (plain_search haystack)) place → ⊥)

-- what was found in each piece are its runs, as a text of its own
abbrev pub AreCovered : Patterns → List Piece → Type 0
AreCovered p pieces = (piece : Piece) → IsMember pieces piece → AreRuns p piece.bytes piece.found
