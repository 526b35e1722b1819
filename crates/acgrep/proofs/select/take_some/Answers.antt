-- The lines before the one that was found have no match, and it has one.
use Rattle.std.proofs.Common.{◌++◌, ◌+◌, ◌∙◌, ◌∷◌, List, ap, sym, take, ℕ}
use Rattle.std.specs.Prelude.{slice_range}
use Rattle.acgrep.specs.Lines.{lines}
use Rattle.acgrep.specs.Selected.{IsFirstWith}
use Rattle.acgrep.proofs.LineLists.{cut_lines, first_has, front_ends, front_lines, none_in_lines}
use Rattle.acgrep.proofs.Tellings.{searches_line}
use Rattle.acgrep.proofs.select.take_some.Goals as goal

pub returns-clause-takes : goal.returns-clause-takes
returns-clause-takes c = λ p is plain.
    let ending = c.args.query.now.job.style.ending in
    let text = c.args.text.now in
    let line = c.in-Some.line in
    let first : IsFirstWith p ending text line = rw c.in-Some.is at c.in_ok-line.ensures.next p is plain in
    let cut = cut_lines ending p plain text line first c.requires.some ∙ ap (λ (l : List ℕ). lines ending (take line.start text) ++ (slice_range text line.start line.end ∷ lines ending l)) (sym c.behind.ensures.rest) in
    let matched = c.in_ok-take_matched.ensures in
    searches_line p _ _ _ _ _ _ _ text _ _ _ (line.end + 1) cut c.behind.ensures.rest (c.in_ok-take_others-2.ensures.takes p is (front_lines ending p plain text line first))
    (front_ends ending p plain text line first) (matched.takes p is (first_has ending p plain text line first)) matched.placed

pub returns-in_default-clause-takes : goal.returns-in_default-clause-takes
returns-in_default-clause-takes c = λ p is plain.
    c.in_ok-take_others.ensures.takes p is (none_in_lines _ p _ (λ some. rw c.in_default.is at c.in_ok-line.ensures.next p is plain))
