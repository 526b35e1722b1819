use Rattle.aho_build.proofs.EmptyPatterns.{IsInOrder-empty}
use Rattle.aho_corasick.proofs.noncontiguous.NFA.special.Goals as goal

pub returns-clause-order : goal.returns-clause-order
returns-clause-order c p is =
    let nfa = c.args.self.now in
    IsInOrder-empty _ nfa.special p is.0.names nfa.table.states is.0.automaton nfa.numbered.order
