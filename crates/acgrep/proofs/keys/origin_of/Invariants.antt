-- The pattern is none of those of the sources so far.
use Rattle.std.proofs.Common.{◌+◌, ◌≡◌}
use Rattle.acgrep.specs.Origins.{count_up_to}
use Rattle.acgrep.proofs.keys.origin_of.Given as goal

abbrev pub invariant-loop-source : goal.invariant-loop-source
invariant-loop-source l = count_up_to l.fn.keys l.source + l.left ≡ l.fn.number
