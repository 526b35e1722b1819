-- The bytes so far are written.
use Rattle.std.proofs.Common.{◌≡◌, ℕ, List, ◌++◌, length}
use Rattle.tool_parts.specs.Telling.{TellsBytes}
use Rattle.rule_files.specs.Messages.{as_shown}
use Rattle.rule_files.proofs.shown.write_shown.Given as goal

abbrev pub invariant-loop-rest : goal.invariant-loop-rest
invariant-loop-rest g l = (done : List ℕ) × (as_shown l.fn.name ≡ done ++ as_shown l.rest) × TellsBytes g.E.Sink l.initial.errors l.errors done

abbrev pub decreases-loop-rest : goal.decreases-loop-rest
decreases-loop-rest g l = length l.rest
