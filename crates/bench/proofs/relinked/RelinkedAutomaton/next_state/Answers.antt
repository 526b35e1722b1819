use Rattle.aho_build.proofs.AutomatonLaws.{goes_on_of}
use Rattle.bench.proofs.relinked.RelinkedAutomaton.next_state.Goals as goal

pub returns-clause-goes_on : goal.returns-clause-goes_on
returns-clause-goes_on c p of word held = goes_on_of p c.args.self.now.special c.args.self.now.table.states c.args.anchored word c.args.byte c.args.sid c.step.result held c.step.ensures.follows
