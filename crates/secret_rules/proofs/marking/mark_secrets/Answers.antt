use Rattle.std.proofs.Common.{IsTrue}
use Rattle.secret_rules.proofs.Marked.{secrets-added}
use Rattle.secret_rules.proofs.marking.mark_secrets.Goals as goal

pub returns-in_ok-push_secrets-clause-marks : goal.returns-in_ok-push_secrets-clause-marks
returns-in_ok-push_secrets-clause-marks c = λ rule at.
    secrets-added c.args.turn.number rule c.args.line.now (IsTrue c.args.turn.goes_on) c.args.turn.applies c.args.marks.now.items c.push_secrets.new.marks.items
    (c.requires.none rule at) c.if-turn.true (c.requires.applies rule at) (c.in_ok-push_secrets.ensures.marks rule at)
