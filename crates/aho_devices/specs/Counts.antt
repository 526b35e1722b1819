-- How a device counts its calls, and what a call moves.
use Rattle.std.specs.Prelude.{ℕ, ◌+◌, ◌%◌, ◌^◌, ◌≤◌, ◌<◌, ◌≡◌, ◌&&◌, ◌==◌, Bool, false, not, List, Option, Result, Ok, Err, length, take, if◌then◌else◌}
use Rattle.std.specs.Io.KnownBytes.{Appends}

-- a count that wraps at 2^64, after a call that raises it or not
abbrev pub counted : Bool → ℕ → ℕ
counted rises count = if rises then (count + 1) % 2 ^ 64 else count

-- whether a call that did not fail moved no byte
abbrev pub moves_nothing : {E : Type 0} → Result ℕ E → Bool
moves_nothing (Ok count) = count == 0
moves_nothing (Err fault) = false

-- whether a read that had room gave nothing
abbrev pub is_empty_read : {E : Type 0} → Result ℕ E → List ℕ → Bool
is_empty_read (Ok count) buf = count == 0 && not (length buf == 0)
is_empty_read (Err fault) buf = false

-- whether a write of a nonempty piece took nothing
abbrev pub is_empty_write : {E : Type 0} → Result ℕ E → List ℕ → Bool
is_empty_write (Ok count) piece = count == 0 && not (length piece == 0)
is_empty_write (Err fault) piece = false

-- a beginning of the piece was taken after what was taken before
abbrev pub AppendsBeginning : Option (List ℕ) → Option (List ℕ) → List ℕ → Type 0
AppendsBeginning old new piece = (count : ℕ) × (count ≤ length piece) × Appends old new (take count piece)

-- a source asks its reader: no read before gave nothing, and there is room
abbrev pub Asks : ℕ → List ℕ → Type 0
Asks empty_reads buf = (empty_reads ≡ 0) × (0 < length buf)
