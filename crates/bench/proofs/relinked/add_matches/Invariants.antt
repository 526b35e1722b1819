use Rattle.std.proofs.Common.{◌≡◌, length}
use Rattle.bench.proofs.Relinking.{with_matches}
use Rattle.bench.proofs.relinked.add_matches.Given as goal

abbrev pub invariant-loop-pattern : goal.invariant-loop-pattern
invariant-loop-pattern l = l.table ≡ record l.fn.table { states = with_matches l.fn.table.states l.sid l.fn.matches (length l.yielded) }
