use Rattle.chromesquid.proofs.automaton.AhoCorasickAutomaton.step.Goals as goal

pub returns-clause-goes_on : goal.returns-clause-goes_on
returns-clause-goes_on c = λ p built. rw (← c.automaton.ensures.same) (c.step.ensures.goes_on p (rw c.automaton.ensures.same built.reads))
