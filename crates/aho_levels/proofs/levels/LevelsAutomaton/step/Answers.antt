use Rattle.aho_levels.specs.Layout.{IsStateNumber, depth_at}
use Rattle.aho_levels.specs.Reading.{held-looks, held-next}
use Rattle.aho_levels.specs.Stepping.{dead-next, next-paid}
use Rattle.std.proofs.Common.{◌+◌, ◌<◌, ◌∙◌, ℕ, ap, arith, length, nat_eq, subst, sym}
use Rattle.aho_levels.proofs.levels.LevelsAutomaton.step.Goals as goal

pub returns-clause-valid : goal.returns-clause-valid
returns-clause-valid c =
    let t = c.args.self.now.states in
    let small : c.args.byte < 256 = omega (arith, c.ranges.byte) in
    let there : c.args.sid < length t.fails = omega (arith, c.requires.valid, c.args.self.now.sound.fails) in
    subst (IsStateNumber t) (sym c.next.ensures.next) (next-paid t c.args.self.now.sound.steps c.args.anchored c.args.sid c.args.byte small there).0

pub returns-clause-goes_on : goal.returns-clause-goes_on
returns-clause-goes_on c p of word held =
    held-next c.args.self.now.states c.args.self.now.sound p c.args.anchored word c.args.sid c.args.byte c.next.result (omega (arith, c.ranges.byte)) c.requires.valid c.next.ensures.next held

pub returns-clause-dead_stays : goal.returns-clause-dead_stays
returns-clause-dead_stays c dead =
    ap (λ (n : ℕ). nat_eq n 0) c.next.ensures.next
    ∙ dead-next c.args.self.now.states c.args.self.now.sound.steps c.args.anchored c.args.sid c.args.byte (omega (arith, c.ranges.byte)) dead

pub returns-clause-cost : goal.returns-clause-cost
returns-clause-cost c =
    let t = c.args.self.now.states in
    let small : c.args.byte < 256 = omega (arith, c.ranges.byte) in
    let there : c.args.sid < length t.fails = omega (arith, c.requires.valid, c.args.self.now.sound.fails) in
    omega (arith, c.next.ensures.counted, (next-paid t c.args.self.now.sound.steps c.args.anchored c.args.sid c.args.byte small there).1, ap (depth_at t) c.next.ensures.next)

pub returns-clause-counted : goal.returns-clause-counted
returns-clause-counted c p word of held =
    c.next.ensures.counted
    ∙ ap (λ (n : ℕ). c.args.work.now + n)
    (held-looks c.args.self.now.states c.args.self.now.sound p c.args.self.now.match_kind c.args.self.now.pattern_lens.items of.0 c.args.anchored word c.args.sid c.args.byte held)
