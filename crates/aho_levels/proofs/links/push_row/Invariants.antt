use Rattle.std.proofs.Common.{◌≡◌, ℕ, ◌+◌, ◌<◌, get_or, length}
use Rattle.aho_levels.specs.Linking.{IsLonger}
use Rattle.aho_levels.proofs.links.push_row.Given as goal

abbrev pub invariant-loop : goal.invariant-loop
invariant-loop l = record {
  longer : IsLonger l.fn.rows.items l.rows.items l.counter;
  entries : (byte : ℕ) → byte < l.counter → get_or l.rows.items (length l.fn.rows.items + byte) 0 ≡ l.sid;
}
