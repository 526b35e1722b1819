-- Why a cover is refused, when a run is settled, and what an iterator over runs gives.
use Rattle.std.specs.Prelude.{◌≡◌, ℕ, ◌+◌, ◌<◌, ◌≤◌, nat_eq, if◌then◌else◌, true, List, ◌∷◌, ◌++◌, length, Option, Some, None, Result, Ok, Err}
use Rattle.std.specs.Iterator.Runs.{EachRunFrom}
use Rattle.aho_core.specs.declared.error.MatchErrorKind.{MatchErrorKind}
use Rattle.aho_core.specs.declared.error.MatchErrorKind.TheVariants.{UnsupportedEmpty, UnsupportedOverlapping}
use Rattle.aho_core.specs.declared.error.replace.ReplaceError.{ReplaceError}
use Rattle.aho_core.specs.declared.error.replace.ReplaceError.TheVariants.{Match}
use Rattle.aho_core.specs.declared.search.MatchKind.{MatchKind}
use Rattle.aho_core.specs.declared.search.MatchKind.TheVariants.{Standard, LeftmostFirst, LeftmostLongest}
use Rattle.aho_core.specs.Cover.{AreRuns}
use Rattle.aho_core.specs.Laws.{shortest}
use Rattle.aho_core.specs.Occurrence.{Occurrence}
use Rattle.aho_core.specs.Patterns.{Patterns}
use Rattle.aho_core.specs.Replacement.{replaced}
use Rattle.aho_laws.specs.CoverLaws.{runs_upto}

-- why an automaton covers nothing, by its kind, its lengths and its start, in this order; none where it does
abbrev pub start_refusal : Result ℕ MatchErrorKind → Option MatchErrorKind
start_refusal (Ok sid) = None
start_refusal (Err reason) = Some reason

abbrev pub cover_refusal : MatchKind → List ℕ → Result ℕ MatchErrorKind → Option MatchErrorKind
cover_refusal Standard lengths start = if nat_eq (shortest lengths) 0 then Some UnsupportedEmpty else start_refusal start
cover_refusal LeftmostFirst lengths start = Some (UnsupportedOverlapping LeftmostFirst)
cover_refusal LeftmostLongest lengths start = Some (UnsupportedOverlapping LeftmostLongest)

-- it is refused for this reason where there is one, and for no other
pub record RefusesCover {T : Type 0} (refusal : Option MatchErrorKind) (result : Result T ReplaceError) : Type 0 where
  pub refused : (reason : MatchErrorKind) → refusal ≡ Some reason → result ≡ Err (Match reason)
  pub only : (reason : MatchErrorKind) → result ≡ Err (Match reason) → refusal ≡ Some reason

-- the runs of a haystack
abbrev pub runs_in : Patterns → List ℕ → List Occurrence
runs_in p haystack = runs_upto p haystack (length haystack)

-- the haystack with a piece for each run
abbrev pub cover_in : Patterns → List ℕ → List (List ℕ) → List ℕ
cover_in p haystack pieces = replaced haystack (runs_in p haystack) pieces

-- the first run in hand is settled: it ends further than the longest pattern before the place, so that nothing later touches it
pub record FirstIsSettled (far at : ℕ) (hand : List Occurrence) : Type 0 where
  pub run : Occurrence
  pub rest : List Occurrence
  pub first : hand ≡ run ∷ rest
  pub settled : run.end + far ≤ at

-- it is not, if there is one
abbrev pub FirstIsOpen : ℕ → ℕ → List Occurrence → Type 0
FirstIsOpen far at hand = (run : Occurrence) (rest : List Occurrence) → hand ≡ run ∷ rest → at < run.end + far

-- an iterator whose calls give these gives all runs of a haystack, once it has come to its end
abbrev pub GivesRuns : {S : Type 0} → (S → Option Occurrence → S → Type 0) → Patterns → List ℕ → S → Type 0
GivesRuns gives p haystack it = EachRunFrom gives it (λ run. run.whole ≡ true → AreRuns p haystack run.items)

-- and at any time the first of them
abbrev pub GivesFirstRuns : {S : Type 0} → (S → Option Occurrence → S → Type 0) → Patterns → List ℕ → S → Type 0
GivesFirstRuns gives p haystack it = EachRunFrom gives it (λ run. (rest : List Occurrence) × AreRuns p haystack (run.items ++ rest))
