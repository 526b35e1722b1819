-- What a failure is told by: its status and its text.
use Rattle.std.specs.Prelude.{◌≡◌, ℕ, Bool, true, false, List, ◌++◌, codes, Result, Ok, Err, ⊤}
use Rattle.aho_core.specs.declared.error.stream.StreamError.{StreamError}
use Rattle.aho_core.specs.declared.error.stream.StreamError.TheVariants.{Match as Refused, Read as ReadFailed, Write as WriteFailed, WriteZero as TookNothing, Memory, PositionLimit as LimitMet}
use Rattle.aho_core.specs.Texts.{build_error_text, match_error_text}
use Rattle.tool_parts.specs.declared.failure.Failure.{Failure}
use Rattle.tool_parts.specs.declared.failure.Failure.TheVariants.{Usage, Build, Search, OutOfMemory, PositionLimit, Read, Write, WriteZero}

-- 3 where a device fails, and else 2
abbrev pub status_of_failure : Failure → ℕ
status_of_failure Usage = 2
status_of_failure (Build error) = 2
status_of_failure (Search error) = 2
status_of_failure OutOfMemory = 2
status_of_failure PositionLimit = 2
status_of_failure Read = 3
status_of_failure Write = 3
status_of_failure WriteZero = 3

-- whether it is that of a read
abbrev pub is_of_read : Failure → Bool
is_of_read Usage = false
is_of_read (Build error) = false
is_of_read (Search error) = false
is_of_read OutOfMemory = false
is_of_read PositionLimit = false
is_of_read Read = true
is_of_read Write = false
is_of_read WriteZero = false

-- whether it is that of a write or a flush that failed
abbrev pub is_of_write : Failure → Bool
is_of_write Usage = false
is_of_write (Build error) = false
is_of_write (Search error) = false
is_of_write OutOfMemory = false
is_of_write PositionLimit = false
is_of_write Read = false
is_of_write Write = true
is_of_write WriteZero = false

-- whether it is that of a write that took no bytes
abbrev pub is_of_empty_write : Failure → Bool
is_of_empty_write Usage = false
is_of_empty_write (Build error) = false
is_of_empty_write (Search error) = false
is_of_empty_write OutOfMemory = false
is_of_empty_write PositionLimit = false
is_of_empty_write Read = false
is_of_empty_write Write = false
is_of_empty_write WriteZero = true

-- whether a call fails with such a failure
abbrev pub fails_by : {A : Type 0} → (Failure → Bool) → Result A Failure → Bool
fails_by of (Ok x) = false
fails_by of (Err failure) = of failure

-- this is its status
abbrev pub HasStatus : ℕ → Failure → Type 0
HasStatus status failure = status ≡ status_of_failure failure

-- what `{}` writes of a failure
abbrev pub failure_text : Failure → List ℕ
failure_text Usage = codes "usage: acfind find KIND [-i] PATTERN.. | overlap PATTERN.. | replace P R .."
failure_text (Build error) = build_error_text error
failure_text (Search error) = match_error_text error
failure_text OutOfMemory = codes "out of memory"
failure_text PositionLimit = codes "position limit reached"
failure_text Read = codes "read fault"
failure_text Write = codes "write fault"
failure_text WriteZero = codes "write took no bytes"

-- the line that tells it
abbrev pub line_of_failure : Failure → List ℕ
line_of_failure failure = failure_text failure ++ codes "\n"

-- what each failure leaves: none at all where the arguments are wrong
pub record Left : Type 1 where
  pub build : Type 0
  pub search : Type 0
  pub memory : Type 0
  pub limit : Type 0
  pub read : Type 0
  pub write : Type 0

abbrev pub Leaves : Left → Failure → Type 0
Leaves left Usage = ⊥
Leaves left (Build error) = left.build
Leaves left (Search error) = left.search
Leaves left OutOfMemory = left.memory
Leaves left PositionLimit = left.limit
Leaves left Read = left.read
Leaves left Write = left.write
Leaves left WriteZero = left.write

-- where matches are printed a refused build leaves all unread, and only a write's failure something written
abbrev pub LeavesPrinting : (unread unwritten begun : Type 0) → Failure → Type 0
LeavesPrinting unread unwritten begun = Leaves (record {
  build = unread × unwritten;
  search = ⊥;
  memory = unwritten;
  limit = ⊥;
  read = unwritten;
  write = begun;
})

-- the failure is that of a write or a flush
abbrev pub IsOfWrite : Failure → Type 0
IsOfWrite = LeavesPrinting ⊥ ⊥ ⊤

-- where a replacement is written what is refused leaves all untouched, any other failure something written, and one of reading most,
-- and the input has given so much where its limit was met
abbrev pub LeavesReplacing : (untouched begun most given : Type 0) → Failure → Type 0
LeavesReplacing untouched begun most given = Leaves (record {
  build = untouched;
  search = untouched;
  memory = untouched;
  limit = begun × most × given;
  read = begun × most;
  write = begun;
})

-- the failure of a stream's error
abbrev pub failure_of_stream : StreamError → Failure
failure_of_stream (Refused error) = Search error
failure_of_stream (ReadFailed fault) = Read
failure_of_stream (WriteFailed fault) = Write
failure_of_stream TookNothing = WriteZero
failure_of_stream Memory = OutOfMemory
failure_of_stream LimitMet = PositionLimit
