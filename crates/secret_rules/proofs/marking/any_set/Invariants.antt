use Rattle.std.proofs.Common.{◌≡◌, drop, false}
use Rattle.secret_rules.specs.Markers.{NoneIsSet}
use Rattle.secret_rules.proofs.marking.any_set.Given as goal

abbrev pub invariant-loop-flag : goal.invariant-loop-flag
invariant-loop-flag l = l.set ≡ false → NoneIsSet (drop l.flag-index l.flags) → NoneIsSet l.flags
