-- What one read adds to a cover of a stream.
use Rattle.std.specs.Prelude.{◌≡◌, ℕ, ◌+◌, Bool, false, List, ◌++◌, Option, Result, Ok, Err, length}
use Rattle.std.specs.Io.KnownBytes.{Consumes}
use Rattle.aho_core.specs.declared.error.stream.StreamError.{StreamError}
use Rattle.aho_stream.specs.After.{EndsWith}
use Rattle.aho_cover.specs.declared.progress.CoverProgress.{CoverProgress}

-- whether a read saw the end
abbrev pub sees_end : Result Bool StreamError → Bool
sees_end (Ok ended) = ended
sees_end (Err error) = false

-- some bytes were given, and the buffer holds them behind those that it kept. Nothing else has changed
pub record TakesIn (s s' : CoverProgress) (before after : Option (List ℕ)) : Type 0 where
  pub bytes : List ℕ
  pub given : Consumes before after bytes
  pub count : s'.read ≡ s.read + length bytes
  pub last : (given : List ℕ) → EndsWith given s.buffer.bytes → EndsWith (given ++ bytes) s'.buffer.bytes
  pub others : s' ≡ record s { buffer = s'.buffer; read = s'.read }
  pub least : s'.buffer.least ≡ s.buffer.least
