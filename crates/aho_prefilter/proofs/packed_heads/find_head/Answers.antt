use Rattle.std.proofs.Common.{arith, refl, true, false, ◌≡◌}
use Rattle.aho_prefilter.proofs.Told.{AreLeft-all, AreLeft-next, IsFirst-next, Nowhere-left, Nowhere-turns, next_within}
use Rattle.aho_prefilter.proofs.packed_heads.find_head.Goals as goal

pub loop-init : goal.loop-init
loop-init c = AreLeft-all c.args.heads.now c.args.bytes.now c.args.at c.args.met (omega (arith, c.ranges.met.fits))

pub returns-then-left-eq0 : goal.returns-then-left-eq0
returns-then-left-eq0 c = record { first = Nowhere-left c.args.heads.now c.args.bytes.now c.args.at c.args.met c.loop.left c.loop.place _ c.loop.invariant c.if-left-eq0.true }

pub overflow_add-place : goal.overflow_add-place
overflow_add-place c = record { fits = omega (arith, c.requires.within, next_within c.args.heads.now c.args.bytes.now c.args.at c.args.met c.loop.left c.loop.place _ c.loop.invariant c.requires.few c.if-left-eq0.false) }

pub stands_at-requires : goal.stands_at-requires
stands_at-requires c = record { within = omega (arith, c.requires.within, next_within c.args.heads.now c.args.bytes.now c.args.at c.args.met c.loop.left c.loop.place _ c.loop.invariant c.requires.few c.if-left-eq0.false) }

pub returns-then-stands_at : goal.returns-then-stands_at
returns-then-stands_at c = record {
  first =
      IsFirst-next c.args.heads.now c.args.bytes.now c.args.at c.args.met c.loop.left c.loop.place _ c.loop.invariant c.requires.few c.if-left-eq0.false
      (c.if-stands_at.ensures.stands.0 refl);
}

pub overflow_add-place-in-loop : goal.overflow_add-place-in-loop
overflow_add-place-in-loop c = record { fits = omega (arith, c.requires.within, next_within c.args.heads.now c.args.bytes.now c.args.at c.args.met c.loop.left c.loop.place _ c.loop.invariant c.requires.few c.if-left-eq0.false) }

pub loop-preserved : goal.loop-preserved
loop-preserved c =
    AreLeft-next c.args.heads.now c.args.bytes.now c.args.at c.args.met c.loop.left c.loop.place _ c.loop.invariant c.requires.few c.if-left-eq0.false
    (λ stands. let e : false ≡ true = c.if-stands_at.ensures.stands.1 stands in cc)

pub returns : goal.returns
returns c = record { first = Nowhere-turns c.args.heads.now c.args.bytes.now c.args.at c.args.met c.loop.left c.loop.place _ c.loop.invariant (omega (arith, c.loop-test.false)) }
