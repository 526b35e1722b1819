use Rattle.aho_hybrid.specs.Layout.{IsStateIn, depth_below_rows}
use Rattle.aho_hybrid.specs.Reading.{dead-next, held-next, next-paid, next-state}
use Rattle.std.proofs.Common.{◌<◌, ◌∙◌, ℕ, ap, arith, nat_eq, subst, sym}
use Rattle.aho_hybrid.proofs.hybrid.HybridAutomaton.step.Goals as goal

pub returns-clause-valid : goal.returns-clause-valid
returns-clause-valid c =
    let rows = c.args.self.now.rows in
    let small : c.args.byte < 256 = omega (arith, c.ranges.byte) in
    subst (IsStateIn rows) (sym c.step.ensures.next) (next-state rows c.args.self.now.sound c.args.sid c.args.byte small c.requires.valid)

pub returns-clause-goes_on : goal.returns-clause-goes_on
returns-clause-goes_on c p of word held =
    held-next c.args.self.now.rows c.args.self.now.sound p c.args.self.now.match_kind c.args.self.now.pattern_lens.items of.0 c.args._anchored word c.args.sid c.args.byte c.step.result (omega (arith, c.ranges.byte)) c.step.ensures.next held

pub returns-clause-dead_stays : goal.returns-clause-dead_stays
returns-clause-dead_stays c dead = ap (λ (n : ℕ). nat_eq n 0) c.step.ensures.next ∙ dead-next c.args.self.now.rows c.args.self.now.sound c.args.sid c.args.byte dead

pub returns-clause-cost : goal.returns-clause-cost
returns-clause-cost c =
    let rows = c.args.self.now.rows in
    let small : c.args.byte < 256 = omega (arith, c.ranges.byte) in
    omega (arith, c.step.ensures.counted, next-paid rows c.args.self.now.sound c.args.sid c.args.byte small c.requires.valid, ap (depth_below_rows rows) c.step.ensures.next)
