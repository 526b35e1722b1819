use Rattle.acgrep.proofs.Common.{common_steps, pieces_of}
use Rattle.std.proofs.Common.{◌++◌, ◌<◌, ◌∙◌, ◌∷◌, ◌≡◌, add-one, ap, arith, drop, length, suc, sym, take}
use Rattle.acgrep.specs.Lines.{lines}
use Rattle.acgrep.proofs.FirstLines.{lines_first, pieces_more}
use Rattle.acgrep.proofs.patterns.lines_of.Goals as goal

pub loop-rest-preserved : goal.loop-rest-preserved
loop-rest-preserved c =
    let rest = c.loop-rest.rest.now in
    let end = c.line_end-end.result in
    let full : 0 < length rest = grind (arith, common_steps, c.is_empty.ensures, c.loop-rest-test.true) in
    let first = lines_first 10 rest end full c.line_end-end.ensures.within c.line_end-end.ensures.none c.line_end-end.ensures.ends in
    let left : c.behind-rest.result.now ≡ drop (suc end) rest = c.behind-rest.ensures.rest ∙ ap (λ n. drop n rest) (add-one end) in
    ap (λ l. pieces_of l ++ lines 10 c.behind-rest.result.now) c.in_ok-push.ensures.items
    ∙ pieces_more c.loop-rest.lines.items _ (lines 10 c.behind-rest.result.now)
    ∙ ap (λ l. pieces_of c.loop-rest.lines.items ++ (take end rest ∷ lines 10 l)) left
    ∙ ap (λ l. pieces_of c.loop-rest.lines.items ++ l) (sym first)
    ∙ c.loop-rest.invariant
