use Rattle.std.proofs.Common.{◌≡◌}
use Rattle.bench.proofs.callers.each_match.Given as goal

abbrev pub invariant-loop-m : goal.invariant-loop-m
invariant-loop-m g l = l.found.items ≡ l.yielded
