use Rattle.std.proofs.Common.{◌≡◌, ◌+◌, ◌*◌, ap, subst, arith}
use Rattle.std.specs.Prelude.{None, Some}
use Rattle.memchr.specs.Find.{IsFirst}
use Rattle.aho_prefilter.specs.Strided.{AreSoundMarks, HasMark, Marks, head_hash}
use Rattle.aho_prefilter.specs.declared.strided.sizes.Sizes.{Sizes}
use Rattle.aho_prefilter.proofs.Strides.{IsFirst-turn, Nowhere-turn, Nowhere-turns}
use Rattle.aho_prefilter.proofs.strided.Strided.find_in_turns.Goals as goal

pub returns-in_default : goal.returns-in_default
returns-in_default c =
    let sound = subst AreSoundMarks c.self.view_is c.self.invariant in
    record { first = Nowhere-turns c.args.self.now c.args.bytes.now c.loop.from c.args.turns sound.sizes.steps c.loop.invariant.2 c.in_default.ensures.next }

pub returns-in-Some-find_head : goal.returns-in-Some-find_head
returns-in-Some-find_head c =
    let marks = c.args.self.now in
    let bytes = c.args.bytes.now in
    let turn = c.in-Some.turn in
    let place = c.in-Some-find_head.place in
    let sound = subst AreSoundMarks c.self.view_is c.self.invariant in
    let sizes : c.self.inside.sizes ≡ marks.sizes = ap (λ (m : Marks). m.sizes) c.self.view_is in
    let head =
    subst (λ (s : Sizes). IsFirst (λ at. HasMark marks.heads (head_hash marks.sizes bytes at)) (turn * s.stride) (turn * s.stride + marks.sizes.stride) (Some place)) sizes
    c.in-Some-find_head.ensures.first in
    record { first = IsFirst-turn marks bytes c.loop.from c.args.turns sound.sizes.steps c.loop.invariant.2 turn c.in-Some.ensures.next place head }

pub loop-preserved : goal.loop-preserved
loop-preserved c =
    let marks = c.args.self.now in
    let bytes = c.args.bytes.now in
    let turn = c.in-Some.turn in
    let sound = subst AreSoundMarks c.self.view_is c.self.invariant in
    let sizes : c.self.inside.sizes ≡ marks.sizes = ap (λ (m : Marks). m.sizes) c.self.view_is in
    let none =
    subst (λ (s : Sizes). IsFirst (λ at. HasMark marks.heads (head_hash marks.sizes bytes at)) (turn * s.stride) (turn * s.stride + marks.sizes.stride) None) sizes
    c.in_default-find_head.ensures.first in (
      omega (arith, c.loop.invariant.0, c.in-Some.ensures.next.0.low),
      omega (arith, c.in-Some.ensures.next.0.high),
      Nowhere-turn marks bytes c.loop.from c.args.turns sound.sizes.steps c.loop.invariant.2 turn c.in-Some.ensures.next none,
    )
