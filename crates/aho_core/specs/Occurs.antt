-- Where a pattern occurs in a span.
use Rattle.std.specs.Prelude.{◌≡◌, ℕ, ◌+◌, ◌<◌, ◌≤◌, List, length, slice_range}
use Rattle.aho_core.specs.declared.search.Anchored.{Anchored}
use Rattle.aho_core.specs.declared.search.Anchored.TheVariants.{Yes}
use Rattle.aho_core.specs.Bytes.{IsSameWord}
use Rattle.aho_core.specs.Occurrence.{Occurrence}
use Rattle.aho_core.specs.Patterns.{Patterns, pattern_at}
use Rattle.aho_core.specs.Search.{Search}

-- m is a pattern at a range of the span from `start` up to `end`, and the range's bytes are the same as the pattern's
pub record Occurs (p : Patterns) (anchored : Anchored) (haystack : List ℕ) (start end : ℕ) (m : Occurrence) : Type 0 where
  -- there is a pattern of this number
  pub numbered : m.pattern < length p.words
  -- the range lies in the span
  pub after_start : start ≤ m.start
  pub before_end : m.end ≤ end
  -- the range is as long as the pattern
  pub sized : m.start + length (pattern_at p m.pattern) ≡ m.end
  -- the bytes are the same, one by one
  pub same : IsSameWord p (pattern_at p m.pattern) (slice_range haystack m.start m.end)
  -- an anchored search admits only what starts at the span's start
  pub admitted : anchored ≡ Yes → m.start ≡ start

-- m occurs in what is searched
abbrev pub OccursIn : Patterns → Search → Occurrence → Type 0
OccursIn p search m = Occurs p search.anchored search.haystack search.start search.end m
