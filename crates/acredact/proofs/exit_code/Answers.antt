-- The status is that of the call, but for what was told of names.
use Rattle.acredact.proofs.Common.{sym, ◌∙◌}
use Rattle.acredact.proofs.exit_code.Goals as goal

pub returns-in-Ok-clause-flushed : goal.returns-in-Ok-clause-flushed
returns-in-Ok-clause-flushed g c =
    rw c.in-Ok.is
    (λ unchecked zero. (rw c.as_slice.ensures.value at c.run-status.ensures.flushed) unchecked (c.status_behind.ensures.zero (sym c.from.ensures ∙ zero)))

pub returns-in-Ok-clause-wrong : goal.returns-in-Ok-clause-wrong
returns-in-Ok-clause-wrong g c =
    rw c.in-Ok.is
    (λ mistaken. c.from.ensures ∙ c.status_behind.ensures.two ((rw c.as_slice.ensures.value at c.run-status.ensures.wrong) mistaken))

pub returns-in-Ok-clause-unmatched : goal.returns-in-Ok-clause-unmatched
returns-in-Ok-clause-unmatched g c =
    rw c.in-Ok.is
    (λ given is asks zero. (rw c.as_slice.ensures.value at c.run-status.ensures.unmatched) given is asks (c.status_behind.ensures.zero (sym c.from.ensures ∙ zero)))

pub returns-in-Ok-clause-rules_unmatched : goal.returns-in-Ok-clause-rules_unmatched
returns-in-Ok-clause-rules_unmatched g c =
    rw c.in-Ok.is
    (λ given is asks zero. (rw c.as_slice.ensures.value at c.run-status.ensures.rules_unmatched) given is asks (c.status_behind.ensures.zero (sym c.from.ensures ∙ zero)))
