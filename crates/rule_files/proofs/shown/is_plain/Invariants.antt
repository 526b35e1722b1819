-- The bytes so far are as_shown as they are.
use Rattle.std.proofs.Common.{◌≡◌, ℕ, List, ◌++◌, length}
use Rattle.rule_files.specs.Messages.{as_shown}
use Rattle.rule_files.proofs.shown.is_plain.Given as goal

abbrev pub invariant-loop-rest : goal.invariant-loop-rest
invariant-loop-rest l = (done : List ℕ) × (l.fn.name ≡ done ++ l.rest) × (as_shown l.fn.name ≡ done ++ as_shown l.rest)

abbrev pub decreases-loop-rest : goal.decreases-loop-rest
decreases-loop-rest l = length l.rest
