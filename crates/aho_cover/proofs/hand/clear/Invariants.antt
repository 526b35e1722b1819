-- The loop takes one run after another, and keeps the room.
use Rattle.std.proofs.Common.{◌≡◌, length}
use Rattle.std.specs.VecDeque.{deque_capacity}
use Rattle.aho_cover.proofs.hand.clear.Given as goal

abbrev pub invariant-loop-run : goal.invariant-loop-run
invariant-loop-run l = deque_capacity l.runs.runs ≡ deque_capacity l.fn.runs.runs

abbrev pub decreases-loop-run : goal.decreases-loop-run
decreases-loop-run l = length l.runs.runs.items
