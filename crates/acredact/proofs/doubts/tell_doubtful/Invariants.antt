-- Of the patterns so far it is told.
use Rattle.acredact.proofs.Common.{all_given, concat, drop, secrets_of}
use Rattle.acredact.specs.Doubts.{list_doubt_lines}
use Rattle.acredact.proofs.Doubting.{ToldSoFar}
use Rattle.acredact.proofs.doubts.tell_doubtful.Given as goal

abbrev pub invariant-loop-rule : goal.invariant-loop-rule
invariant-loop-rule g l =
    let lines = list_doubt_lines (all_given l.fn.given) in
    ToldSoFar g.E.Sink l.initial.errors l.errors (concat (lines (secrets_of l.fn.rules))) (concat (lines (secrets_of (drop l.rule-index l.fn.rules))))
