use Rattle.std.proofs.Common.{take}
use Rattle.secret_rules.proofs.Joined.{WereJoined}
use Rattle.secret_rules.proofs.joining.join.Given as goal

abbrev pub invariant-loop-m : goal.invariant-loop-m
invariant-loop-m l = WereJoined (take l.m-index l.m-items) l.runs.items l.hand
