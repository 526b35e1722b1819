-- What a refill of the buffer changes.
use Rattle.std.specs.Prelude.{◌≡◌, ℕ, ◌+◌, ◌≤◌, min, Bool, true, false, List, ◌++◌, Option, Result, Ok, Err, length}
use Rattle.std.specs.Io.KnownBytes.{Consumes}
use Rattle.aho_core.specs.declared.error.stream.StreamError.{StreamError}
use Rattle.aho_core.specs.declared.error.stream.StreamError.TheVariants.{Match, Read, Write, WriteZero, Memory, PositionLimit}
use Rattle.aho_stream.specs.After.{EndsWith}
use Rattle.aho_stream.specs.declared.progress.StreamProgress.{StreamProgress}

-- whether the answer is that the position limit was met
abbrev pub is_limit : {A : Type 0} → Result A StreamError → Bool
is_limit (Ok x) = false
is_limit (Err (Match cause)) = false
is_limit (Err (Read fault)) = false
is_limit (Err (Write fault)) = false
is_limit (Err WriteZero) = false
is_limit (Err Memory) = false
is_limit (Err PositionLimit) = true

-- bytes were read behind those that are kept, and the patience is renewed; nothing else moved
pub record Refills (s s' : StreamProgress) (before after : Option (List ℕ)) : Type 0 where
  pub bytes : List ℕ
  pub given : Consumes before after bytes
  pub others : s' ≡ record s { buffer = s'.buffer; read = s'.read; patience = s'.patience; ended = s'.ended; refused = s'.refused }
  pub count : s'.read ≡ s.read + length bytes
  pub limited : s'.read ≤ s.limit
  pub least : s'.buffer.least ≡ s.buffer.least
  pub size : s'.buffer.size ≡ s.buffer.size
  pub last : (given : List ℕ) → EndsWith given s.buffer.bytes → EndsWith (given ++ bytes) s'.buffer.bytes
  -- the bytes stand behind the last ones that were held, all of them or as many as a roll keeps
  pub kept : length s'.buffer.bytes ≡ min s.buffer.least (length s.buffer.bytes) + length bytes
