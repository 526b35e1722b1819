-- All occurrences of a span in order, and those that an anchored overlapping search lists.
use Rattle.std.specs.Prelude.{ℕ, ◌+◌, ◌-◌, Bool, List, map, filter, flat_map, slice_range}
use Rattle.std.specs.List.{list_any, range_with_len}
use Rattle.aho_core.specs.declared.search.Anchored.{Anchored}
use Rattle.aho_core.specs.declared.search.Anchored.TheVariants.{No, Yes}
use Rattle.aho_core.specs.Bytes.{folded_word, is_same_word}
use Rattle.aho_core.specs.Occurrence.{Occurrence, occurrence}
use Rattle.aho_core.specs.Patterns.{Patterns, pattern_at, numbers}
use Rattle.aho_core.specs.Search.{Search}
use Rattle.aho_core.specs.Trie.{begins, pattern_word}

-- the places from one to another, both among them
abbrev pub places : ℕ → ℕ → List ℕ
places start end = range_with_len start (end + 1 - start)

-- the occurrences at one range, by number
abbrev pub occurrences_at : Patterns → List ℕ → ℕ → ℕ → List Occurrence
occurrences_at p haystack start end =
    map (occurrence start end) (filter (λ number. is_same_word p (pattern_at p number) (slice_range haystack start end)) (numbers p))

-- those that end at one place, by start, then number
abbrev pub occurrences_ending : Patterns → List ℕ → ℕ → ℕ → List Occurrence
occurrences_ending p haystack start end = flat_map (λ at. occurrences_at p haystack at end) (places start end)

-- all occurrences of a span, by end, then start, then number
abbrev pub all_occurrences : Patterns → List ℕ → ℕ → ℕ → List Occurrence
all_occurrences p haystack start end = flat_map (occurrences_ending p haystack start) (places start end)

-- whether the word begins some pattern
abbrev pub begins_some : Patterns → List ℕ → Bool
begins_some p word = list_any (λ number. begins (folded_word p word) (pattern_word p number)) (numbers p)

-- those that end where the bytes from the span's start on begin some pattern
abbrev pub anchored_occurrences : Patterns → List ℕ → ℕ → ℕ → List Occurrence
anchored_occurrences p haystack start end =
    filter (λ m. begins_some p (slice_range haystack start m.end)) (all_occurrences p haystack start end)

-- what an overlapping search lists
abbrev pub overlapping_by : Anchored → Patterns → List ℕ → ℕ → ℕ → List Occurrence
overlapping_by No p haystack start end = all_occurrences p haystack start end
overlapping_by Yes p haystack start end = anchored_occurrences p haystack start end

abbrev pub overlapping : Patterns → Search → List Occurrence
overlapping p search = overlapping_by search.anchored p search.haystack search.start search.end
