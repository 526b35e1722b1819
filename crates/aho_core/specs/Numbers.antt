-- The greatest of the numbers that patterns, states and indexes of tables have.
use Rattle.std.specs.Prelude.{ℕ}

-- the greatest number of a pattern or a state, and the greatest index: what each `MAX` is
abbrev pub greatest_index : ℕ
greatest_index = 2147483646
