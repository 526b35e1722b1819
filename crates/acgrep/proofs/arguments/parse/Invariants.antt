-- What is left of the arguments says what all of them do, and its first mistake is theirs.
use Rattle.std.proofs.Common.{◌≡◌, drop}
use Rattle.acgrep.specs.Arguments.{arguments_by, said, said_by}
use Rattle.acgrep.specs.Listed.{listed_bytes}
use Rattle.acgrep.specs.Mistakes.{mistake_by, wrong_from}
use Rattle.acgrep.proofs.arguments.parse.Given as goal

abbrev pub invariant-loop-argument : goal.invariant-loop-argument
invariant-loop-argument l = record {
  read : arguments_by l.awaited (listed_bytes (drop l.argument-index l.fn.arguments)) (said l.given) ≡ said_by (listed_bytes l.fn.arguments);
  mistake : wrong_from l.awaited (listed_bytes (drop l.argument-index l.fn.arguments)) (said l.given) ≡ mistake_by (listed_bytes l.fn.arguments);
}
