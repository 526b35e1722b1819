-- A line in which a pattern occurs matches or not, and by that it is selected or not.
use Rattle.acgrep.proofs.Common.{Appends-nil}
use Rattle.std.proofs.Common.{◌∙◌, Some, refl, sym}
use Rattle.acgrep.proofs.Tellings.{all_passed, passed_by, selected_by}
use Rattle.acgrep.proofs.select.take_matched.Goals as goal

pub returns-then-selects-clause-takes : goal.returns-then-selects-clause-takes
returns-then-selects-clause-takes c = λ p is has.
    c.take_selected.ensures.takes p is (selected_by p _ _ c.in_ok-matched.matched _ (c.in_ok-matched.ensures.matched p is has) (sym c.selects.ensures.selects ∙ c.if-selects.true))

pub returns-clause-takes : goal.returns-clause-takes
returns-clause-takes c = λ p is has.
    all_passed p _ _ _ _ _ _ (passed_by p _ _ c.in_ok-matched.matched _ (c.in_ok-matched.ensures.matched p is has) (sym c.selects.ensures.selects ∙ c.if-selects.false), tt) refl (Appends-nil (Some c.args.state.now.page.items))
