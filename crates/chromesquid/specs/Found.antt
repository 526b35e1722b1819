-- What searches answer that may be refused, and how much at most.
use Rattle.std.specs.Prelude.{◌≡◌, ◌≢◌, ◌≤◌, ◌*◌, ℕ, Option, Result, Err, IsOk}
use Rattle.std.specs.Iterator.{Count, UpTo}
use Rattle.aho_core.specs.Occurrence.{Occurrence}
use Rattle.aho_core.specs.Search.{Search}
use Rattle.aho_core.specs.declared.error.MatchErrorKind.{MatchErrorKind}
use Rattle.aho_core.specs.declared.error.MatchErrorKind.TheVariants.{InvalidInputAnchored, InvalidInputUnanchored, UnsupportedOverlapping}
use Rattle.aho_core.specs.declared.search.Anchored.TheVariants.{No, Yes}
use Rattle.aho_core.specs.declared.search.MatchKind.TheVariants.{Standard}
use Rattle.aho_automaton.specs.Finding.{span_places}
use Rattle.aho_automaton.specs.Fused.{IsFused}
use Rattle.aho_automaton.specs.Overlaps.{ListsAll, ListsFirst}
use Rattle.chromesquid.specs.Searcher.{Answers, ForItsPatterns, RefusesSearch, Searcher, match_kind_of, patterns_len_of, why_refused}

-- what a searcher was not built for is refused, but where the span starts above its end
abbrev pub RefusesUnlessDone : Searcher → Search → Result (Option Occurrence) MatchErrorKind → Type 0
RefusesUnlessDone searcher search result = RefusesSearch searcher search.anchored → search.start ≤ search.end → result ≡ Err (why_refused search.anchored)

-- how many matches overlapping search lists at most: each pattern once at each place of the span
abbrev pub most_listed : Searcher → Search → ℕ
most_listed searcher search = patterns_len_of searcher * span_places search

-- when a list of all occurrences is refused, and for which reason
pub record AnswersListing {A : Type 0} (searcher : Searcher) (search : Search) (result : Result A MatchErrorKind) : Type 0 where
  pub unsupported : match_kind_of searcher ≢ Standard → result ≡ Err (UnsupportedOverlapping (match_kind_of searcher))
  pub anchored : match_kind_of searcher ≡ Standard → search.anchored ≡ Yes → result ≡ Err InvalidInputAnchored
  pub refused : match_kind_of searcher ≡ Standard → search.anchored ≡ No → RefusesSearch searcher No → result ≡ Err InvalidInputUnanchored
  pub ok : match_kind_of searcher ≡ Standard → search.anchored ≡ No → Answers searcher No → IsOk result

-- an iterator with these members lists all occurrences of the span
pub record ListsFor {I : Type 0} (can : I → Type 0) (gives : I → Option Occurrence → I → Type 0) (remaining : I → Count) (searcher : Searcher) (search : Search) (it : I) : Type 0 where
  pub ready : can it
  pub lists : ForItsPatterns searcher (λ p. ListsAll gives p search it)
  pub first : ForItsPatterns searcher (λ p. ListsFirst gives p search it)
  pub bound : UpTo (remaining it) (most_listed searcher search)
  pub fused : IsFused gives it
