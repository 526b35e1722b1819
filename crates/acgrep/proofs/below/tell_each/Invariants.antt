-- Where the names that are left are told, all are.
use Rattle.acgrep.proofs.Common.{Errors}
use Rattle.std.proofs.Common.{length}
use Rattle.acgrep.specs.Folders.{missed_of}
use Rattle.acgrep.proofs.Reaching.{EachTold}
use Rattle.acgrep.proofs.below.tell_each.Given as goal

abbrev pub invariant-loop-first : goal.invariant-loop-first
invariant-loop-first g l = (after : Errors _) → EachTold g.E.Sink (missed_of l.rest) l.errors after → EachTold g.E.Sink (missed_of l.fn.unread) l.initial.errors after

abbrev pub decreases-loop-first : goal.decreases-loop-first
decreases-loop-first g l = length l.rest
