use Rattle.std.proofs.Common.{◌<◌, arith}
use Rattle.aho_levels.proofs.Adding.{head-more}
use Rattle.aho_levels.proofs.order.head_of.Goals.{then-index-word, else-index-word}
use Rattle.aho_levels.proofs.order.head_of.Goals as goal

pub overflow_mul-head : goal.overflow_mul-head
overflow_mul-head c =
    let fits = head-more c.loop-index.index c.loop-index.head 0 (omega (arith, c.loop-index-test.true)) c.loop-index.invariant (omega arith) in
    omega (arith, fits.0, fits.1)

pub overflow_add-head : goal.overflow_add-head
overflow_add-head c =
    let small : c.if-index-word.byte < 256 = elim c.if-index-word.branch [ then-index-word w ↦ omega (arith, w.byte-is, w.folded-byte.type_inv) | else-index-word w ↦ omega (arith, w.byte-is) ] in
    let fits = head-more c.loop-index.index c.loop-index.head c.if-index-word.byte (omega (arith, c.loop-index-test.true)) c.loop-index.invariant small in
    omega (arith, fits.0, fits.1)

pub loop-index-preserved : goal.loop-index-preserved
loop-index-preserved c =
    let small : c.if-index-word.byte < 256 = elim c.if-index-word.branch [ then-index-word w ↦ omega (arith, w.byte-is, w.folded-byte.type_inv) | else-index-word w ↦ omega (arith, w.byte-is) ] in
    (head-more c.loop-index.index c.loop-index.head c.if-index-word.byte (omega (arith, c.loop-index-test.true)) c.loop-index.invariant small).0
