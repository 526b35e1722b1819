-- What is left decides.
use Rattle.std.proofs.Common.{◌≡◌, length}
use Rattle.acgrep.specs.Globs.{has_behind}
use Rattle.acgrep.proofs.globs.has_behind.Given as goal

abbrev pub invariant-loop-first : goal.invariant-loop-first
invariant-loop-first l = has_behind 0 l.fn.items l.fn.byte ≡ has_behind 0 l.rest l.fn.byte

abbrev pub decreases-loop-first : goal.decreases-loop-first
decreases-loop-first l = length l.rest
