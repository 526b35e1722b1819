-- How far an overlapping search is: what an `OverlappingState` is seen as, and when it fits a search of which n were found.
use Rattle.std.specs.Prelude.{◌≡◌, ℕ, ◌<◌, ◌≤◌, List, ◌++◌, filter, take, length, Option, Some, None, nat_eq, nat_lt, slice_range}
use Rattle.aho_core.specs.declared.search.Anchored.{Anchored}
use Rattle.aho_core.specs.declared.search.Anchored.TheVariants.{No, Yes}
use Rattle.aho_core.specs.declared.search.MatchKind.{MatchKind}
use Rattle.aho_core.specs.declared.search.MatchKind.TheVariants.{Standard, LeftmostFirst, LeftmostLongest}
use Rattle.aho_core.specs.Occurrence.{Occurrence}
use Rattle.aho_core.specs.Occurs.{Occurs}
use Rattle.aho_core.specs.Overlapping.{overlapping}
use Rattle.aho_core.specs.Patterns.{Patterns}
use Rattle.aho_core.specs.Search.{Search}

-- the last match; the number of the state, none before the search has begun; the place after the bytes that were read; and
-- how many of those that end there were given, none once the search is spent
pub record Progress : Type 0 where
  pub mat : Option Occurrence
  pub id : Option ℕ
  pub at : ℕ
  pub next_match_index : Option ℕ

-- no search has begun
abbrev pub fresh : Progress
fresh = record { mat = None; id = None; at = 0; next_match_index = None }

-- the same without its match
abbrev pub without_match : Progress → Progress
without_match progress = record progress { mat = None }

-- of what an overlapping search lists, what ends before a place, and what ends there
abbrev pub listed_before : Patterns → Search → ℕ → List Occurrence
listed_before p search at = filter (λ (m : Occurrence). nat_lt m.end at) (overlapping p search)

abbrev pub listed_at : Patterns → Search → ℕ → List Occurrence
listed_at p search at = filter (λ (m : Occurrence). nat_eq m.end at) (overlapping p search)

-- the number is that of a state held after the bytes from an origin to a place of the span. Whatever occurs and starts before
-- the origin ends before it; the origin of an anchored search is its start
pub record StandsAt (valid : ℕ → Type 0) (held : Anchored → List ℕ → ℕ → Type 0) (p : Patterns) (search : Search) (sid at : ℕ) : Type 0 where
  pub origin : ℕ
  pub after_start : search.start ≤ origin
  pub before_place : origin ≤ at
  pub in_span : at ≤ search.end
  pub from_start : search.anchored ≡ Yes → origin ≡ search.start
  pub apart : (m : Occurrence) → Occurs p No search.haystack search.start search.end m → m.start < origin → m.end < origin
  pub is_state : valid sid
  pub is_held : held search.anchored (slice_range search.haystack origin at) sid

-- and n were found: those that end before the place, and as many of those that end there as the index says
pub record IsPartWay (valid : ℕ → Type 0) (held : Anchored → List ℕ → ℕ → Type 0) (p : Patterns) (search : Search) (sid at index n : ℕ) : Type 0 where
  pub stands : StandsAt valid held p search sid at
  pub counted : index ≤ length (listed_at p search at)
  pub within : n ≤ length (overlapping p search)
  pub given : take n (overlapping p search) ≡ listed_before p search at ++ take index (listed_at p search at)

-- before the first call none was found, and a spent search found all
abbrev pub FitsFrom : (ℕ → Type 0) → (Anchored → List ℕ → ℕ → Type 0) → Patterns → Search → Option ℕ → ℕ → Option ℕ → ℕ → Type 0
FitsFrom valid held p search None at index n = n ≡ 0
FitsFrom valid held p search (Some sid) at None n = n ≡ length (overlapping p search)
FitsFrom valid held p search (Some sid) at (Some index) n = IsPartWay valid held p search sid at index n

-- a leftmost kind finds none, whatever the state
abbrev pub FitsBy : MatchKind → (ℕ → Type 0) → (Anchored → List ℕ → ℕ → Type 0) → Patterns → Search → Progress → ℕ → Type 0
FitsBy Standard valid held p search progress n = FitsFrom valid held p search progress.id progress.at progress.next_match_index n
FitsBy LeftmostFirst valid held p search progress n = n ≡ 0
FitsBy LeftmostLongest valid held p search progress n = n ≡ 0

-- the state fits a search of which n were found, by the numbers of an automaton's states and what they are held after
abbrev pub FitsSearch : (ℕ → Type 0) → (Anchored → List ℕ → ℕ → Type 0) → Patterns → Search → Progress → ℕ → Type 0
FitsSearch valid held p search progress n = FitsBy p.kind valid held p search progress n
