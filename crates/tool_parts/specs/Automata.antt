-- The automaton of some patterns that is built.
use Rattle.aho_core.specs.Patterns.{Patterns}
use Rattle.aho_corasick.specs.contracts.noncontiguous.NFAAutomaton.TheImpl.{ghosts as of_nfa}
use Rattle.aho_corasick.specs.declared.noncontiguous.NFA.{NFA}

-- the automaton is of these patterns
abbrev pub IsNFAFor : Patterns → NFA → Type 0
IsNFAFor p nfa = of_nfa.is_of nfa p
