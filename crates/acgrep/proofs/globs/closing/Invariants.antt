-- What is left decides.
use Rattle.std.proofs.Common.{◌+◌, ◌≡◌, length}
use Rattle.acgrep.specs.Globs.{closes_at, closing}
use Rattle.acgrep.proofs.globs.closing.Given as goal

abbrev pub invariant-loop-first : goal.invariant-loop-first
invariant-loop-first l = record {
  closes : closing l.fn.items ≡ closes_at l.passed 0 l.rest;
  within : l.passed + length l.rest ≡ length l.fn.items;
}

abbrev pub decreases-loop-first : goal.decreases-loop-first
decreases-loop-first l = length l.rest
