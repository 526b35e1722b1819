-- What is left gives the other forms.
use Rattle.acredact.proofs.Common.{asked_forms, drop, forms_from, secrets_of, ◌++◌, ◌≡◌}
use Rattle.acredact.proofs.forms.forms_of_rules.Given as goal

abbrev pub invariant-loop-number : goal.invariant-loop-number
invariant-loop-number l = secrets_of l.more.items ++ forms_from (asked_forms l.fn.asked) l.number (secrets_of (drop l.number l.fn.rules))
    ≡ forms_from (asked_forms l.fn.asked) 0 (secrets_of l.fn.rules)
