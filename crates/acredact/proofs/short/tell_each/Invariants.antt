-- Of the patterns so far it is told.
use Rattle.acredact.proofs.Common.{concat, drop, secrets_of, ◌+◌, ◌≡◌}
use Rattle.acredact.specs.Short.{short_lines}
use Rattle.acredact.proofs.Doubting.{ToldSoFar}
use Rattle.acredact.proofs.short.tell_each.Given as goal

abbrev pub invariant-loop-rule : goal.invariant-loop-rule
invariant-loop-rule g l = record {
  count : l.number ≡ l.rule-index + 1;
  so_far : ToldSoFar g.E.Sink l.initial.errors l.errors (concat (short_lines 1 (secrets_of l.fn.rules))) (concat (short_lines l.number (secrets_of (drop l.rule-index l.fn.rules))));
}
