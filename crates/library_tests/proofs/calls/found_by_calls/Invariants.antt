-- The state that is held is one of the automaton.
use Rattle.library_tests.proofs.calls.found_by_calls.Given as goal

abbrev pub invariant-loop-at : goal.invariant-loop-at
invariant-loop-at g l = g.A.Automaton.valid l.automaton l.sid
