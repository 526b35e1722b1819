-- What a search tells by a number and a match.
use Rattle.std.specs.Prelude.{◌≤◌, ℕ, zero, suc, List, Bool, true, false, None, Some, length}
use Rattle.aho_core.specs.Answer.{IsAnswer}
use Rattle.aho_core.specs.Occurrence.{Occurrence}
use Rattle.aho_core.specs.Patterns.{Patterns}
use Rattle.aho_core.specs.Search.{Search, plain_search, search_of}
use Rattle.aho_core.specs.declared.search.Anchored.{Anchored}
use Rattle.aho_core.specs.declared.search.Anchored.TheVariants.{No, Yes}
use Rattle.chromesquid_c.specs.declared.options.CsMatch.{CsMatch}

-- what a match in C's form says
abbrev pub occurrence_told : CsMatch → Occurrence
occurrence_told m = record { pattern = m.pattern; start = m.start; end = m.end }

-- 0 tells that the search finds nothing, 1 that it finds this match; another number tells of no search
abbrev pub Tells : Patterns → Search → ℕ → CsMatch → Type 0
Tells p search zero found = IsAnswer p search None
Tells p search (suc zero) found = IsAnswer p search (Some (occurrence_told found))
Tells p search (suc (suc n)) found = Unit {0}

-- 0 tells that the search finds nothing, 1 that it finds something
abbrev pub TellsIf : Patterns → Search → ℕ → Type 0
TellsIf p search zero = IsAnswer p search None
TellsIf p search (suc zero) = (found : Occurrence) × IsAnswer p search (Some found)
TellsIf p search (suc (suc n)) = Unit {0}

-- the search of a haystack for what ends first
abbrev pub earliest_in : List ℕ → Search
earliest_in haystack = record (plain_search haystack) { earliest = true }

-- the anchoring by C's word for it
abbrev pub anchoring_by : Bool → Anchored
anchoring_by true = Yes
anchoring_by false = No

-- the search of a span by C's words
abbrev pub search_between : ℕ → ℕ → Bool → Bool → List ℕ → Search
search_between start end anchored earliest haystack =
    search_of haystack (record { start = start; end = end }) (anchoring_by anchored) earliest

-- the haystack has this span
abbrev pub IsSpan : ℕ → ℕ → List ℕ → Type 0
IsSpan start end haystack = (start ≤ end) × (end ≤ length haystack)
