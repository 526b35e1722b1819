-- The iterator over the runs of a cover: over the searcher itself, or over the rows that it holds.
use Rattle.std.specs.Prelude.{ℕ, List}
use Rattle.aho_automaton.specs.CoverIters.{haystack_in, look_ups_in}
use Rattle.chromesquid.specs.declared.cover_iter.CoverIter.{CoverIter}
use Rattle.either.specs.Either.{either}

-- the haystack that it reads
abbrev pub haystack_of : CoverIter → List ℕ
haystack_of it = either haystack_in haystack_in it.by

-- the look-ups of its walk
abbrev pub look_ups_of : CoverIter → ℕ
look_ups_of it = either look_ups_in look_ups_in it.by
