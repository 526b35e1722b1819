-- What is searched, and how: what an `Input` is seen as.
use Rattle.std.specs.Prelude.{ℕ, List, Bool, false, length}
use Rattle.aho_core.specs.declared.search.Anchored.{Anchored}
use Rattle.aho_core.specs.declared.search.Anchored.TheVariants.{No}
use Rattle.aho_core.specs.declared.search.Span.{Span}

-- the haystack with its span from `start` up to `end`; whether an occurrence has to start at the span's start; and whether
-- the earliest match is wanted
pub record Search : Type 0 where
  pub haystack : List ℕ
  pub start : ℕ
  pub end : ℕ
  pub anchored : Anchored
  pub earliest : Bool

-- the search of a span of a haystack
abbrev pub search_of : List ℕ → Span → Anchored → Bool → Search
search_of haystack span anchored earliest = record { haystack = haystack; start = span.start; end = span.end; anchored = anchored; earliest = earliest }

-- the plain search of a whole haystack
abbrev pub plain_search : List ℕ → Search
plain_search haystack = record { haystack = haystack; start = 0; end = length haystack; anchored = No; earliest = false }
