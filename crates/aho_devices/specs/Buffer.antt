-- What a buffer of fixed length holds, and how a fill and a roll change it.
use Rattle.std.specs.Prelude.{◌≡◌, ℕ, ◌*◌, ◌-◌, max, Bool, false, List, ◌++◌, Option, Result, Ok, Err, length, drop}
use Rattle.std.specs.Io.KnownBytes.{Consumes}
use Rattle.aho_devices.specs.declared.buffer.Filled.{Filled}

pub record Buffered : Type 0 where
  -- the bytes that were read and not rolled away
  pub bytes : List ℕ
  -- how many of them a roll keeps
  pub least : ℕ
  -- how many it can hold, which is all the memory that it has: the capacity of its `Vec`
  pub size : ℕ

-- the least size of a buffer, in bytes
abbrev pub default_capacity : ℕ
default_capacity = 65536

-- the size of a buffer, by how many bytes a roll keeps
abbrev pub capacity_for : ℕ → ℕ
capacity_for least = max (8 * least) default_capacity

-- the source gave some bytes, and they are held behind those that were
pub record Gains (old new : Buffered) (before after : Option (List ℕ)) : Type 0 where
  pub bytes : List ℕ
  pub given : Consumes before after bytes
  pub held : new.bytes ≡ old.bytes ++ bytes
  pub least : new.least ≡ old.least
  pub size : new.size ≡ old.size

-- the last bytes alone are held
abbrev pub rolled : Buffered → Buffered
rolled held = record held { bytes = drop (length held.bytes - held.least) held.bytes }

-- a read of the fill was empty
abbrev pub saw_end : {E : Type 0} → Result Filled E → Bool
saw_end (Ok filled) = filled.ended
saw_end (Err error) = false
