use Rattle.std.proofs.Common.{◌≡◌, ◌+◌, ◌<◌, ◌≤◌, ◌∙◌, ℕ, length, drop, ap, sym, arith}
use Rattle.aho_levels.specs.Layout.{position_of}
use Rattle.aho_levels.proofs.Positions.{position-next, position-none_from, position-past}
use Rattle.aho_levels.proofs.child.child_of.Goals as goal

pub loop-index-init : goal.loop-index-init
loop-index-init c =
    let among = c.narrowed-low.ensures.among in
    position-past c.narrowed-low.result.0 c.args.bytes.now c.args.byte c.args.at (omega (arith, among.ordered, among.within)) (λ i less. among.before i less)

pub loop-index-preserved : goal.loop-index-preserved
loop-index-preserved c =
    let xs = c.args.bytes.now in
    let index : ℕ = c.loop-index.index in
    let within : index < length xs = omega (arith, c.loop-index-test.true, c.loop-index.auto.index-end, c.narrowed-low.ensures.among.within) in
    let next : c.args.at + (index + 1) ≡ c.args.at + index + 1 = omega arith in
    ap (position_of (drop (index + 1) xs) c.args.byte) next
    ∙ sym (position-next xs index c.args.byte (c.args.at + index) within (λ e. omega (arith, e, c.if-bytes-index.false)))
    ∙ c.loop-index.invariant

pub returns : goal.returns
returns c =
    let xs = c.args.bytes.now in
    let index : ℕ = c.loop-index.index in
    let past : c.narrowed-low.result.1 ≤ index = omega (arith, c.loop-index-test.false, c.loop-index.auto.index-end) in
    record {
      child =
          sym (position-none_from xs index c.args.byte (c.args.at + index) (λ i from below. c.narrowed-low.ensures.among.behind i (omega (arith, past, from)) below))
          ∙ c.loop-index.invariant;
    }
