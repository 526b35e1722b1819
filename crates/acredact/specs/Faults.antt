-- Why the redaction of a stream or of all files ends early.
use Rattle.acredact.specs.Common.{Memory, PositionLimit, Read, ReadFault, Reason, StreamError, TooLong}
use Rattle.std.specs.Prelude.{Bool, true, false, Option, Some, None, Result, Ok, Err}
use Rattle.aho_core.specs.declared.error.stream.StreamError.TheVariants.{Match, Write, WriteZero}

-- a stream's: a device fails, it is too long, or memory runs out
abbrev pub IsStreamEnd : StreamError → Type 0
IsStreamEnd (Match cause) = ⊥
IsStreamEnd other = Unit {0}

-- that of all files: the output fails, or memory runs out
abbrev pub IsOutputEnd : StreamError → Type 0
IsOutputEnd (Write fault) = Unit {0}
IsOutputEnd WriteZero = Unit {0}
IsOutputEnd Memory = Unit {0}
IsOutputEnd other = ⊥

-- what an end of a stream means for its file: a file that cannot be read is told, and anything else ends the program
abbrev pub reading_of : Result (Unit {0}) StreamError → Result (Option Reason) StreamError
reading_of (Ok x) = Ok None
reading_of (Err (Read fault)) = Ok (Some ReadFault)
reading_of (Err PositionLimit) = Ok (Some TooLong)
reading_of (Err error) = Err error

-- the reasons for which a file is not read to its end
abbrev pub IsReadReason : Reason → Type 0
IsReadReason TooLong = Unit {0}
IsReadReason ReadFault = Unit {0}
IsReadReason other = ⊥

-- whether a read failed
abbrev pub is_unread : Result (Option Reason) StreamError → Bool
is_unread (Ok (Some ReadFault)) = true
is_unread other = false
