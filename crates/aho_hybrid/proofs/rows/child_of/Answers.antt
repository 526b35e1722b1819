use Rattle.std.proofs.Common.{◌≡◌, ◌∙◌, ◌+◌, ◌*◌, ◌/◌, ◌<◌, ◌≤◌, ℕ, length, drop, get_or, refl, sym, ap, arith}
use Rattle.std.proofs.lemmas.List.{get_or_read_under}
use Rattle.aho_hybrid.specs.Layout.{child_of}
use Rattle.aho_hybrid.proofs.Moves.{child-next, child-none, child-past}
use Rattle.aho_hybrid.proofs.rows.child_of.Goals as goal

pub loop-index-init : goal.loop-index-init
loop-index-init c =
    let among = c.narrowed-low.ensures.among in
    child-past c.args.moves.now 0 c.narrowed-low.result.0 c.args.byte (omega arith) (omega (arith, among.ordered, among.within)) (λ i from less. among.before i less)

pub loop-index-preserved : goal.loop-index-preserved
loop-index-preserved c =
    let moves = c.args.moves.now in
    let at : ℕ = 2 * c.loop-index.index in
    let within : at + 1 < length moves = omega (arith, c.loop-index-test.true, c.loop-index.auto.index-end, c.narrowed-low.ensures.among.within) in
    let next : at + 1 + 1 ≡ 2 * (c.loop-index.index + 1) = omega arith in
    let read : c.index-moves-index.result ≡ get_or moves at 0 =
    get_or_read_under moves at (length moves) c.index-moves-index.result 0 c.index-moves-index.is (omega (arith, within)) refl in
    ap (λ (n : ℕ). child_of (drop n moves) c.args.byte) (sym next)
    ∙ sym (child-next moves at c.args.byte within (λ e. omega (arith, e, c.if-as_usize-byte.false, c.as_usize.ensures.value, read)))
    ∙ c.loop-index.invariant

pub returns : goal.returns
returns c =
    let moves = c.args.moves.now in
    let among = c.narrowed-low.ensures.among in
    let past : c.narrowed-low.result.1 ≤ c.loop-index.index = omega (arith, c.loop-index-test.false, c.loop-index.auto.index-end) in
    let inside : 2 * c.loop-index.index ≤ length moves = omega (arith, c.loop-index.auto.index-end, among.within, among.ordered) in
    record {
      child =
          sym
          (child-none moves c.loop-index.index (length moves / 2) c.args.byte (omega (arith, inside)) (omega arith) (omega arith)
          (λ i from below. among.behind i (omega (arith, past, from)) (omega (arith, below))))
          ∙ c.loop-index.invariant;
    }
