-- What came so far.
use Rattle.std.proofs.Common.{◌≡◌, map}
use Rattle.bench.proofs.callers.ends_of_all.Given as goal

abbrev pub invariant-loop-m : goal.invariant-loop-m
invariant-loop-m l = l.ends.items ≡ map (λ m. m.end) l.yielded
