-- Where no text is left no rule is.
use Rattle.acgrep.proofs.Common.{nil_from_length}
use Rattle.std.proofs.Common.{◌++◌, ◌∙◌, ap, append-nil, sym}
use Rattle.acgrep.specs.Listed.{listed_bytes}
use Rattle.acgrep.specs.Rules.{rules_said}
use Rattle.acgrep.proofs.RuleTexts.{expanded_none}
use Rattle.acgrep.proofs.excluded.expanded.Goals as goal

pub returns-in_default : goal.returns-in_default
returns-in_default c =
    let none = ap listed_bytes (nil_from_length c.loop-rule.left.now c.in_default.ensures.cases) in
    record { expanded = sym (append-nil _) ∙ ap (λ l. rules_said c.loop-rule.all.items ++ l) (sym (expanded_none _)) ∙ (rw none at c.loop-rule.invariant) }
