-- The state that is held is one of the automaton.
use Rattle.refused_memory.proofs.searching.steps.Given as goal

abbrev pub invariant-loop-byte : goal.invariant-loop-byte
invariant-loop-byte g l = g.A.Automaton.valid l.automaton l.sid
