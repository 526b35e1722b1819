use Rattle.std.proofs.Common.{◌≡◌, length}
use Rattle.secret_rules.proofs.rules.room_for.Given as goal

abbrev pub invariant-loop-number : goal.invariant-loop-number
invariant-loop-number l = length l.room.items ≡ l.number
