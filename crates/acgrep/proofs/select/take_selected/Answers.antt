-- What is told of the line is put together, or nothing is told.
use Rattle.acgrep.proofs.Common.{Appends-nil}
use Rattle.std.proofs.Common.{◌∙◌, Some, [], append-nil, inl, inr, refl, sym}
use Rattle.acgrep.proofs.select.take_selected.Goals as goal

pub returns-then-is_full-clause-takes : goal.returns-then-is_full-clause-takes
returns-then-is_full-clause-takes c = λ p is selected. record { bytes = []; told = inl (sym c.is_full.ensures.full ∙ c.if-is_full.true, refl, refl); written = Appends-nil (Some c.args.state.now.page.items) }

pub returns-clause-takes : goal.returns-clause-takes
returns-clause-takes c = λ p is selected.
    let (bytes, shows, put) = c.in_ok-put_shown.ensures.shown p is in
    record { bytes = bytes; told = inr (sym c.is_full.ensures.full ∙ c.if-is_full.false, inl (selected, (bytes, [], shows, (refl, c.saturating_add-state.ensures), sym (append-nil bytes)))); written = put }
