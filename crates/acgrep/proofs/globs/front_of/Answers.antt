-- A part more fits.
use Rattle.acgrep.proofs.Common.{take_rest}
use Rattle.std.proofs.Common.{◌∙◌, ◌∷◌, ◌≡◌, rules, sym}
use Rattle.acgrep.proofs.Globbed.{read_more}
use Rattle.acgrep.proofs.globs.front_of.Goals as goal

pub loop-first-preserved : goal.loop-first-preserved
loop-first-preserved c =
    let behind = c.in-Some.behind.now in
    let rest : c.loop-first.rest.now ≡ c.in-Some.first.now ∷ behind = search rules in
    let left : c.loop-first.left.now ≡ c.in-Some-split_first.byte.now ∷ c.in-Some-split_first.other.now = search rules in
    let stands = sym c.stands_for.ensures.stands ∙ c.if-not-stands_for.false in
    rw (take_rest behind c.part_len.result, c.part_len.ensures.len) (read_more _ _ _ behind _ _ c.if-first-eq42.false stands (rw (rest, left) at c.loop-first.invariant))
