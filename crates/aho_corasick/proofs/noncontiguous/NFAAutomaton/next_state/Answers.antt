use Rattle.std.proofs.Common.{◌∙◌, ap, arith, nat_eq}
use Rattle.aho_build.proofs.AutomatonLaws.{goes_on_of}
use Rattle.aho_build.proofs.StepResults.{dead-stays}
use Rattle.aho_corasick.proofs.noncontiguous.NFAAutomaton.next_state.Goals as goal

pub step-requires-clause-room : goal.step-requires-clause-room
step-requires-clause-room c = omega (arith, c.args.self.now.sound.shallow c.args.sid c.requires.valid, c.new-work.ensures.none)

pub returns-clause-goes_on : goal.returns-clause-goes_on
returns-clause-goes_on c p of word held = goes_on_of p c.args.self.now.special c.args.self.now.table.states c.args.anchored word c.args.byte c.args.sid c.step.result held c.step.ensures.follows

pub returns-clause-dead_stays : goal.returns-clause-dead_stays
returns-clause-dead_stays c dead = ap (λ n. nat_eq n 0) c.step.ensures.next ∙ dead-stays c.args.self.now.table.states c.args.byte c.args.anchored c.args.sid c.args.self.now.sound (omega arith) dead
