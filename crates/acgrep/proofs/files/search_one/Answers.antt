-- What was searched of the reader, and what is asked of the file as a whole.
use Rattle.std.proofs.Common.{◌∙◌, ◌≡◌, Bool, ap, sym}
use Rattle.std.specs.Prelude.{◌||◌}
use Rattle.acgrep.specs.Binary.{is_guarded, takes_text}
use Rattle.acgrep.proofs.FilesBegun.{file_begins, file_grown}
use Rattle.acgrep.proofs.InTurn.{if_broken, if_searched, on_broken}
use Rattle.acgrep.proofs.TextAlone.{ends_begun, ends_searched}
use Rattle.acgrep.proofs.files.search_one.Given.{Over}
use Rattle.acgrep.proofs.files.search_one.Goals.{After-takes_text-alone}
use Rattle.acgrep.proofs.files.search_one.Goals as goal

-- whether the lines with a zero byte are searched too
known_text : (g : Over) (c : After-takes_text-alone g) → (is_guarded c.args.query.now.job || takes_text c.args.query.now.job) ≡ c.takes_text-alone.result
known_text g c = ap (λ (b : Bool). b || takes_text c.args.query.now.job) (sym c.is_guarded.ensures.guarded ∙ c.if-is_guarded.false) ∙ sym c.takes_text-alone.ensures.text

pub returns-in-Ok-search_front-clause-searched : goal.returns-in-Ok-search_front-clause-searched
returns-in-Ok-search_front-clause-searched g c = λ p is plain.
    if_searched c.end_file.result _ _
    (ends_searched p _ _ _ _ _ _ _ _ c.begin.ensures.begin (sym c.takes_text-alone.ensures.text) (sym c.is_guarded.ensures.guarded ∙ c.if-is_guarded.false) _ _ (c.in-Ok-search_front.ensures.front p is plain) _)
    c.end_file.ensures.ended

pub returns-in-Ok-search_front-clause-begun : goal.returns-in-Ok-search_front-clause-begun
returns-in-Ok-search_front-clause-begun g c = λ p is plain.
    if_broken c.end_file.result
    (file_begins p _ _ (known_text g (goal.at.returns-in-Ok-search_front-clause-begun g c).After-takes_text-alone) _ _ _ _ _ _ c.begin.ensures.begin
    (ends_begun p _ _ _ _ _ _ _ _ _ _ (c.in-Ok-search_front.ensures.front p is plain)))
    c.end_file.ensures.begun

pub returns-in-Err-search_front-clause-begun : goal.returns-in-Err-search_front-clause-begun
returns-in-Err-search_front-clause-begun g c = λ p is plain.
    on_broken c.break_off-in-Err-search_front.result
    (file_begins p _ _ (known_text g (goal.at.returns-in-Err-search_front-clause-begun g c).After-takes_text-alone) _ _ _ _ _ _ c.begin.ensures.begin
    (c.in-Err-search_front.ensures.begun p is plain) c.break_off-in-Err-search_front.ensures.begun)

pub returns-in-Err-clause-begun : goal.returns-in-Err-clause-begun
returns-in-Err-clause-begun g c = λ p is plain.
    on_broken c.break_off.result
    (file_grown p _ (sym c.is_guarded.ensures.guarded ∙ c.if-is_guarded.true) _ _ _ _ c.search_guarded.new.state.selected (c.in-Err.ensures.begun p is plain) c.break_off.ensures.begun)
