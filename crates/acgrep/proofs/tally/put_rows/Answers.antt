-- Where no count is left no row is.
use Rattle.acgrep.proofs.Common.{nil_from_length}
use Rattle.std.proofs.Common.{◌++◌, ◌∙◌, ap, append-nil, sym}
use Rattle.acgrep.proofs.Tallied.{rows-end}
use Rattle.acgrep.proofs.tally.put_rows.Goals as goal

pub returns-in_default : goal.returns-in_default
returns-in_default c =
    let none = nil_from_length c.loop-pattern.left.now c.in_default.ensures.cases in
    record { put = sym (append-nil _) ∙ ap (λ l. c.loop-pattern.text.items ++ l) (sym (rows-end _ _)) ∙ (rw none at c.loop-pattern.invariant.rows) }
