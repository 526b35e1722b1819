use Rattle.std.proofs.Common.{◌≡◌, ◌+◌}
use Rattle.aho_hybrid.proofs.rows.add_looks.Given as goal

-- each turn counts one look-up
abbrev pub invariant-loop : goal.invariant-loop
invariant-loop l = l.work ≡ l.fn.work + l.counter
