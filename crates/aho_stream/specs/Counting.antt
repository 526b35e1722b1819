-- What a count of all matches of a stream answers.
use Rattle.std.specs.Prelude.{◌≡◌, ℕ, true, List, [], Result, IfOk, None, length}
use Rattle.std.specs.Io.KnownBytes.{Consumes}
use Rattle.aho_core.specs.Iteration.{AreFinds}
use Rattle.aho_core.specs.Occurrence.{Occurrence}
use Rattle.aho_core.specs.Patterns.{Patterns}
use Rattle.aho_core.specs.Search.{plain_search}
use Rattle.aho_core.specs.declared.error.stream.StreamError.{StreamError}
use Rattle.aho_devices.specs.declared.device.Source.{Ghosts as SourceGhosts}
use Rattle.aho_automaton.specs.declared.automaton.Automaton.{Ghosts}
use Rattle.aho_stream.specs.Iterators.{HasGiven, automaton_of}
use Rattle.aho_stream.specs.declared.chunks.StreamChunkIter.{StreamChunkIter}

-- these bytes are read; where they are counted the end was seen, and the number is that of the matches in all of them
pub record CountsAll {A R : Type 0} (G : Ghosts A) (S : SourceGhosts R) (it it' : StreamChunkIter A R) (result : Result ℕ StreamError) : Type 0 where
  pub bytes : List ℕ
  pub read : Consumes (S.remaining it.source.now) (S.remaining it'.source.now) bytes
  pub ended : IfOk result (λ count. it'.progress.ended ≡ true)
  pub counts : IfOk result (λ count. (p : Patterns) → G.is_of (automaton_of it) p → HasGiven G it p []
      → (ms : List Occurrence) → AreFinds p (plain_search bytes) None ms → count ≡ length ms)
