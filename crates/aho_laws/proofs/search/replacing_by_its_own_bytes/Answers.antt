use Rattle.std.proofs.Common.{◌≡◌, ◌∙◌, None, List, false}
use Rattle.std.specs.Prelude.{slice_range}
use Rattle.aho_core.specs.Iteration.{AreFinds}
use Rattle.aho_core.specs.Listing.{IsMember}
use Rattle.aho_core.specs.Occurrence.{Occurrence}
use Rattle.aho_core.specs.Patterns.{Patterns, pattern_at}
use Rattle.aho_core.specs.Replacement.{is_on_boundaries, on_boundaries, replaced_by}
use Rattle.aho_core.specs.Search.{Search}
use Rattle.aho_laws.specs.SearchLaws.{EndsBefore}
use Rattle.aho_laws.proofs.Iterations.{finds-apart, finds-occur, finds-ordered}
use Rattle.aho_laws.proofs.Members.{listed-filter, member-of_filter}
use Rattle.aho_laws.proofs.Replacements.{bytes_of_match, replaced_by-own, replaced_from-same}
use Rattle.aho_laws.proofs.search.replacing_by_its_own_bytes.Goals as goal

finds-own : (p : Patterns) (search : Search) (ms : List Occurrence) → AreFinds p search None ms → replaced_by search.haystack ms (λ m. slice_range search.haystack m.start m.end) ≡ search.haystack
finds-own p search ms finds = replaced_by-own search.haystack ms (finds-apart p ms search None finds) (finds-ordered p ms search None finds)

text-own : (p : Patterns) (search : Search) (ms : List Occurrence) → AreFinds p search None ms → replaced_by search.haystack (on_boundaries search.haystack ms) (λ m. slice_range search.haystack m.start m.end) ≡ search.haystack
text-own p search ms finds =
    replaced_by-own search.haystack (on_boundaries search.haystack ms) (listed-filter EndsBefore (is_on_boundaries search.haystack) ms (finds-apart p ms search None finds))
    (λ m in_ms. finds-ordered p ms search None finds m (member-of_filter (is_on_boundaries search.haystack) ms m in_ms).1)

match-bytes : (p : Patterns) (search : Search) (ms : List Occurrence) → p.ignore_case ≡ false → AreFinds p search None ms → (m : Occurrence) → IsMember ms m → pattern_at p m.pattern ≡ slice_range search.haystack m.start m.end
match-bytes p search ms plain finds m in_ms = bytes_of_match p search.haystack search.start search.end m plain (finds-occur p ms search None m finds in_ms)

pub returns-clause-ranges : goal.returns-clause-ranges
returns-clause-ranges c = λ haystack ms ranges. replaced_by-own haystack ms ranges.apart ranges.ordered

pub returns-clause-finds : goal.returns-clause-finds
returns-clause-finds c = finds-own

pub returns-clause-finds_of_text : goal.returns-clause-finds_of_text
returns-clause-finds_of_text c = text-own

pub returns-clause-patterns : goal.returns-clause-patterns
returns-clause-patterns c = λ p search ms plain finds.
    replaced_from-same search.haystack ms 0 (λ m. pattern_at p m.pattern) (λ m. slice_range search.haystack m.start m.end) (match-bytes p search ms plain finds)
    ∙ finds-own p search ms finds

pub returns-clause-patterns_of_text : goal.returns-clause-patterns_of_text
returns-clause-patterns_of_text c = λ p search ms plain finds.
    replaced_from-same search.haystack (on_boundaries search.haystack ms) 0 (λ m. pattern_at p m.pattern) (λ m. slice_range search.haystack m.start m.end)
    (λ m in_ms. match-bytes p search ms plain finds m (member-of_filter (is_on_boundaries search.haystack) ms m in_ms).1)
    ∙ text-own p search ms finds
