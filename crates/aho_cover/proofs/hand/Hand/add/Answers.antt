-- The runs behind the first are in order too.
use Rattle.std.proofs.Common.{subst, arith, inl, refl}
use Rattle.aho_laws.specs.CoverLaws.{AreInOrder}
use Rattle.aho_laws.proofs.CoverRuns.{in_order-rest}
use Rattle.aho_cover.specs.Hand.{runs_from}
use Rattle.aho_cover.proofs.hand.Hand.add.Goals as goal

pub add-requires-clause-in_order : goal.add-requires-clause-in_order
add-requires-clause-in_order c =
    let rest = c.args.self.now.rest.runs.items in
    in_order-rest c.in-Some.run' rest c.args.m.end
    (subst (λ first. AreInOrder (runs_from first rest) c.args.m.end) c.in-Some.is c.requires.in_order)

pub grown-requires : goal.grown-requires
grown-requires c =
    let rest = c.args.self.now.rest.runs.items in
    let ordered = subst (λ first. AreInOrder (runs_from first rest) c.args.m.end) c.in-Some.is c.requires.in_order in
    record { ordered = omega (arith, ordered.full c.in-Some.run' (inl refl), ordered.within c.in-Some.run' (inl refl)) }
