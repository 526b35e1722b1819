-- A line tells it.
use Rattle.acredact.proofs.Common.{append-nil, secret_of, sym, true, ◌∙◌, ◌≡◌}
use Rattle.acredact.specs.Short.{is_formless}
use Rattle.acredact.proofs.short.tell_if_short.Goals as goal

pub returns-then-is_formless : goal.returns-then-is_formless
returns-then-is_formless g c =
    let is : is_formless (secret_of c.args.rule.now) ≡ true = sym c.is_formless.ensures.short ∙ c.if-is_formless.true in
    record { told = rw (is, append-nil) c.tell_short.ensures.told }
