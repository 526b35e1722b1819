-- What a cover of a text replaces: each byte that lies in some occurrence. Said of any set of occurrences, by its members.
use Rattle.std.specs.Prelude.{◌≡◌, ◌↔◌, ℕ, ◌+◌, ◌<◌, ◌≤◌, List}
use Rattle.aho_core.specs.declared.search.MatchKind.TheVariants.{LeftmostLongest}
use Rattle.aho_core.specs.Best.{IsBest}
use Rattle.aho_core.specs.Listing.{IsListedBy, IsMember}
use Rattle.aho_core.specs.Occurrence.{Occurrence}
use Rattle.aho_core.specs.Occurs.{OccursIn}
use Rattle.aho_core.specs.Patterns.{Patterns}
use Rattle.aho_core.specs.Replacement.{replaced}
use Rattle.aho_core.specs.Search.{plain_search}

-- the byte at this place lies in some member
pub record IsCovered (Member : Occurrence → Type 0) (at : ℕ) : Type 0 where
  pub found : Occurrence
  pub member : Member found
  pub after_start : found.start ≤ at
  pub before_end : at < found.end

-- a maximal stretch of covered bytes: those beside it are not covered
pub record IsStretch (Member : Occurrence → Type 0) (start end : ℕ) : Type 0 where
  pub some : start < end
  pub covered : (at : ℕ) → start ≤ at → at < end → IsCovered Member at
  pub begins : (at : ℕ) → at + 1 ≡ start → IsCovered Member at → ⊥
  pub ends : IsCovered Member end → ⊥

-- of the members that begin at a place the longest, and of equally long ones the first by number
abbrev pub IsLongestFrom : (Occurrence → Type 0) → ℕ → Occurrence → Type 0
IsLongestFrom Member at m = IsBest LeftmostLongest (λ other. Member other × (other.start ≡ at)) m

-- a run: the range of a maximal stretch, and the pattern of the longest member that begins where it does
pub record IsRunOf (Member : Occurrence → Type 0) (run : Occurrence) : Type 0 where
  pub stretch : IsStretch Member run.start run.end
  pub longest : Occurrence
  pub longest_is : IsLongestFrom Member run.start longest
  pub named : run.pattern ≡ longest.pattern

-- all runs and nothing else, each once and in order: some byte that is not covered lies between two of them
pub record AreRunsOf (Member : Occurrence → Type 0) (runs : List Occurrence) : Type 0 where
  pub in_order : IsListedBy (λ (one other : Occurrence). one.end < other.start) runs
  pub members : (run : Occurrence) → (IsMember runs run ↔ IsRunOf Member run)

-- the runs of a text: of all that occurs in it
abbrev pub AreRuns : Patterns → List ℕ → List Occurrence → Type 0
AreRuns p haystack runs = AreRunsOf (OccursIn p (plain_search haystack)) runs

-- the cover of a text: each run is replaced by the piece of its pattern
abbrev pub IsCover : Patterns → List ℕ → List (List ℕ) → List ℕ → Type 0
IsCover p haystack pieces output = (runs : List Occurrence) × AreRuns p haystack runs × (output ≡ replaced haystack runs pieces)
