-- The state that is held is one of the automaton.
use Rattle.library_tests.proofs.automata.state_after.Given as goal

abbrev pub invariant-loop-byte : goal.invariant-loop-byte
invariant-loop-byte g l = g.A.Automaton.valid l.automaton l.sid
