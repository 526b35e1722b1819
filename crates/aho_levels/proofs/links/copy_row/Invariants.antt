use Rattle.std.proofs.Common.{◌≡◌, ℕ, ◌+◌, ◌<◌, get_or, length}
use Rattle.aho_levels.specs.Linking.{IsLonger}
use Rattle.aho_levels.proofs.links.copy_row.Given as goal

abbrev pub invariant-loop-byte : goal.invariant-loop-byte
invariant-loop-byte l = record {
  longer : IsLonger l.fn.rows.items l.rows.items l.byte;
  entries : (byte : ℕ) → byte < l.byte → get_or l.rows.items (length l.fn.rows.items + byte) 0 ≡ get_or l.fn.rows.items (l.from + byte) 0;
}
