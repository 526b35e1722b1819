-- One rule more.
use Rattle.acredact.proofs.Common.{PieceRule, ap, append_assoc, named_secret, secret_of, secrets_of, ◌∙◌}
use Rattle.std.proofs.lemmas.List.{map-append}
use Rattle.acredact.proofs.Doubting.{secrets_cut}
use Rattle.acredact.proofs.named.named_rules.Goals as goal

pub loop-rule-preserved : goal.loop-rule-preserved
loop-rule-preserved c =
    let made = c.in_ok-named_rule.ensures.named ∙ ap (λ (f : PieceRule). named_secret f (secrets_of c.args.rules.now) (secret_of c.rule-item.result)) c.new-pieces.ensures.rule in
    let cut = secrets_cut c.args.rules.now c.loop-rule.rule-index c.rule-item.result c.loop-rule-test.true c.rule-item.is in
    rw (c.in_ok-push.ensures.items, map-append, made, append_assoc) (rw cut at c.loop-rule.invariant)
