use Rattle.std.proofs.Common.{IsTrue}
use Rattle.secret_rules.specs.MarkLists.{LeavesOpen}
use Rattle.secret_rules.proofs.Turns.{begun-told}
use Rattle.secret_rules.proofs.marking.mark_begun.Goals as goal

pub returns-then-turn-clause-goes_on : goal.returns-then-turn-clause-goes_on
returns-then-turn-clause-goes_on c = λ rule at.
    begun-told c.push_onward.result (IsTrue c.args.turn.applies) (LeavesOpen rule c.args.text.now c.args.line.now) c.if-turn.true (c.push_onward.ensures.goes_on rule at)
