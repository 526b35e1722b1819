-- How a walk ends that may wait for a candidate. An answer waits for nothing, and a walk that waits has no answer yet.
use Rattle.std.specs.Prelude.{◌≡◌, ℕ, ◌+◌, ◌<◌, ◌≤◌, List, Option, None, true, Bool}
use Rattle.aho_core.specs.Answer.{IsAnswer}
use Rattle.aho_core.specs.Occurrence.{Occurrence}
use Rattle.aho_core.specs.Occurs.{Occurs}
use Rattle.aho_core.specs.Patterns.{Patterns}
use Rattle.aho_core.specs.Search.{Search}
use Rattle.aho_core.specs.declared.search.Anchored.TheVariants.{No}
use Rattle.aho_core.specs.declared.search.Span.{Span}
use Rattle.aho_prefilter.specs.Candidate.{NoneStartsBefore}
use Rattle.aho_automaton.specs.declared.find.WalkEnd.{WalkEnd}
use Rattle.aho_automaton.specs.declared.find.WalkEnd.TheVariants.{Answer, Waits}

-- where none of the part from `at` on starts before a place, none of the span does: all before `at` is done with
abbrev pub Carries : Patterns → List ℕ → ℕ → ℕ → ℕ → Type 0
Carries p haystack start end at = (place : ℕ) → NoneStartsBefore p haystack at end place → NoneStartsBefore p haystack start end place

-- nothing that occurs in the span is longer than so many bytes
abbrev pub NoneLonger : Patterns → List ℕ → ℕ → ℕ → ℕ → Type 0
NoneLonger p haystack start end reach = (m : Occurrence) → Occurs p No haystack start end m → m.end ≤ m.start + reach

-- a walk that goes on behind a place may wait and has found nothing, what starts there or before has ended, and nothing starts between
pub record ResumesBehind (p : Patterns) (haystack : List ℕ) (may_wait : Bool) (best : Option Occurrence) (reach last at end place : ℕ) : Type 0 where
  pub waits : may_wait ≡ true
  pub none : best ≡ None
  pub ended : last + reach ≤ at
  pub within : place ≤ end
  pub behind : NoneStartsBefore p haystack (last + 1) end place

-- what is still to be read of a span begins where the walk has come to
abbrev pub ResumesAt : Patterns → List ℕ → Bool → Option Occurrence → ℕ → ℕ → Span → ℕ → Type 0
ResumesAt p haystack may_wait best reach last rest place =
    rest.start ≤ place → ResumesBehind p haystack may_wait best reach last rest.start rest.end place

-- an answer is that of the search
abbrev pub AnswersSearch : Patterns → Search → WalkEnd → Type 0
AnswersSearch p search (Answer m) = IsAnswer p search m
AnswersSearch p search (Waits walked at) = Unit {0}

-- it waits only where it may
abbrev pub WaitsOnlyIf : Bool → WalkEnd → Type 0
WaitsOnlyIf may_wait (Answer m) = Unit {0}
WaitsOnlyIf may_wait (Waits walked at) = may_wait ≡ true

-- it waits at a place past the span's start, and has read nothing from there on
abbrev pub WaitsWithin : ℕ → ℕ → ℕ → WalkEnd → Type 0
WaitsWithin start end next (Answer m) = Unit {0}
WaitsWithin start end next (Waits walked at) = (start < at) × (at ≤ end) × (next ≤ at)

-- and there the search goes on as if it began there
abbrev pub WaitsFor : Patterns → List ℕ → ℕ → ℕ → WalkEnd → Type 0
WaitsFor p haystack start end (Answer m) = Unit {0}
WaitsFor p haystack start end (Waits walked at) = Carries p haystack start end at
