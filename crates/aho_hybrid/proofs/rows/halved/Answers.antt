use Rattle.std.proofs.Common.{◌≡◌, ◌+◌, ◌-◌, ◌*◌, ◌/◌, ◌<◌, ℕ, length, get_or, refl, arith}
use Rattle.std.proofs.lemmas.List.{get_or_read_under}
use Rattle.aho_hybrid.proofs.Among.{from-middle, to-middle}
use Rattle.aho_hybrid.proofs.rows.halved.Goals as goal

pub loop-high-preserved-then-as_usize-byte : goal.loop-high-preserved-then-as_usize-byte
loop-high-preserved-then-as_usize-byte c =
    let moves = c.args.moves.now in
    let is = c.loop-high.invariant in
    let middle : ℕ = c.loop-high.low + (c.loop-high.high - c.loop-high.low) / 2 in
    let less : middle < c.loop-high.high = omega (arith, c.loop-high-test.true) in
    let read : c.index-moves-middle.result ≡ get_or moves (2 * middle) 0 =
    get_or_read_under moves (2 * middle) (length moves) c.index-moves-middle.result 0 c.index-moves-middle.is (omega (arith, less, is.within)) refl in
    from-middle moves c.requires.rising c.args.byte c.loop-high.low c.loop-high.high middle is less (omega (arith, read, c.as_usize.ensures.value, c.if-as_usize-byte.true))

pub loop-high-preserved : goal.loop-high-preserved
loop-high-preserved c =
    let moves = c.args.moves.now in
    let is = c.loop-high.invariant in
    let middle : ℕ = c.loop-high.low + (c.loop-high.high - c.loop-high.low) / 2 in
    let less : middle < c.loop-high.high = omega (arith, c.loop-high-test.true) in
    let read : c.index-moves-middle.result ≡ get_or moves (2 * middle) 0 =
    get_or_read_under moves (2 * middle) (length moves) c.index-moves-middle.result 0 c.index-moves-middle.is (omega (arith, less, is.within)) refl in
    to-middle moves c.requires.rising c.args.byte c.loop-high.low c.loop-high.high middle is (omega arith) less
    (omega (arith, read, c.as_usize.ensures.value, c.if-as_usize-byte.false))
