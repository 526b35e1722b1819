use Rattle.std.proofs.Common.{ap}
use Rattle.secret_rules.specs.declared.rule.Rule.{Rule}
use Rattle.secret_rules.proofs.Placed.{read-is}
use Rattle.secret_rules.proofs.rules.Rules.new.Goals as goal

pub returns-in-Some-clause-refused : goal.returns-in-Some-clause-refused
returns-in-Some-clause-refused c =
    let told = rw c.in-Some.is at c.in_ok-number.ensures in
    let first = rw c.deref.ensures.value at told in
    record {
      rule = first.rule;
      numbered = first.numbered;
      named = ap (λ (r : Rule). r.id) (read-is c.args.rules.items c.in-Some.number first.rule c.swap_remove-id.result c.swap_remove-id.ensures.value first.numbered);
      wrong = first.wrong;
      before = first.before;
    }
