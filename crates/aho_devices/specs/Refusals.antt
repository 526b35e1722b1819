-- Which error a call of a stream's devices answered.
use Rattle.std.specs.Prelude.{Bool, true, false, Result, Ok, Err, ⊤}
use Rattle.aho_core.specs.declared.error.stream.StreamError.{StreamError}
use Rattle.aho_core.specs.declared.error.stream.StreamError.TheVariants.{Match, Read, Write, WriteZero, Memory, PositionLimit}

-- the source failed
abbrev pub is_read_fault : {A : Type 0} → Result A StreamError → Bool
is_read_fault (Ok x) = false
is_read_fault (Err (Match cause)) = false
is_read_fault (Err (Read fault)) = true
is_read_fault (Err (Write fault)) = false
is_read_fault (Err WriteZero) = false
is_read_fault (Err Memory) = false
is_read_fault (Err PositionLimit) = false

-- the sink failed
abbrev pub is_write_fault : {A : Type 0} → Result A StreamError → Bool
is_write_fault (Ok x) = false
is_write_fault (Err (Match cause)) = false
is_write_fault (Err (Read fault)) = false
is_write_fault (Err (Write fault)) = true
is_write_fault (Err WriteZero) = false
is_write_fault (Err Memory) = false
is_write_fault (Err PositionLimit) = false

-- the sink took no byte of a nonempty piece
abbrev pub is_write_of_nothing : {A : Type 0} → Result A StreamError → Bool
is_write_of_nothing (Ok x) = false
is_write_of_nothing (Err (Match cause)) = false
is_write_of_nothing (Err (Read fault)) = false
is_write_of_nothing (Err (Write fault)) = false
is_write_of_nothing (Err WriteZero) = true
is_write_of_nothing (Err Memory) = false
is_write_of_nothing (Err PositionLimit) = false

-- an error that a write can give
abbrev pub IsWriteRefusal : StreamError → Type 0
IsWriteRefusal (Match cause) = ⊥
IsWriteRefusal (Read fault) = ⊥
IsWriteRefusal (Write fault) = ⊤
IsWriteRefusal WriteZero = ⊤
IsWriteRefusal Memory = ⊥
IsWriteRefusal PositionLimit = ⊥

-- an error that a fill can give
abbrev pub IsFillRefusal : StreamError → Type 0
IsFillRefusal (Match cause) = ⊥
IsFillRefusal (Read fault) = ⊤
IsFillRefusal (Write fault) = ⊥
IsFillRefusal WriteZero = ⊥
IsFillRefusal Memory = ⊥
IsFillRefusal PositionLimit = ⊤
