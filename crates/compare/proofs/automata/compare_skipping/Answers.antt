-- The automaton that skips is of what the `NFA` is of.
use Rattle.compare.proofs.automata.compare_skipping.Goals as goal

pub compare_two-requires-clause-first : goal.compare_two-requires-clause-first
compare_two-requires-clause-first c = (c.requires.of.0, c.new-skipping.ensures.of c.requires.of.0 c.requires.of.1 c.requires.of.2)

pub compare_calls-requires : goal.compare_calls-requires
compare_calls-requires c = record { of = (c.requires.of.0, c.new-skipping.ensures.of c.requires.of.0 c.requires.of.1 c.requires.of.2) }
