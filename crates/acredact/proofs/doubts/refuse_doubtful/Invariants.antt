-- The first that is doubtful is the first of what is left.
use Rattle.acredact.proofs.Common.{drop, secrets_of, ◌≡◌}
use Rattle.acredact.specs.Doubts.{first_doubt}
use Rattle.acredact.proofs.doubts.refuse_doubtful.Given as goal

abbrev pub invariant-loop-rule : goal.invariant-loop-rule
invariant-loop-rule l = first_doubt (secrets_of (drop l.rule-index l.fn.rules)) ≡ first_doubt (secrets_of l.fn.rules)
