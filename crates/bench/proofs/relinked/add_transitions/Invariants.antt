use Rattle.std.proofs.Common.{◌≡◌, length}
use Rattle.bench.proofs.Relinking.{with_transitions}
use Rattle.bench.proofs.relinked.add_transitions.Given as goal

abbrev pub invariant-loop-byte : goal.invariant-loop-byte
invariant-loop-byte l = l.table ≡ record l.fn.table { states = with_transitions l.fn.table.states l.sid l.fn.transitions (length l.yielded); rows = l.table.rows }
