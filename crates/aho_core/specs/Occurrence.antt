-- A pattern's number with a range: what a `Match` is seen as.
use Rattle.std.specs.Prelude.{ℕ}

-- the range is half open: from `start` up to, and without, `end`
pub record Occurrence : Type 0 where
  pub pattern : ℕ
  pub start : ℕ
  pub end : ℕ

-- the occurrence of a pattern of this number at a range
abbrev pub occurrence : ℕ → ℕ → ℕ → Occurrence
occurrence start end number = record { pattern = number; start = start; end = end }
