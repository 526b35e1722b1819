-- The automaton that counts is of what the `NFA` is of.
use Rattle.library_tests.proofs.overlaps.listed_and_read.Goals as goal

pub found_by_iterator-requires : goal.found_by_iterator-requires
found_by_iterator-requires g c = record { of = (c.nfa_with.ensures.of.0, c.new-tally.ensures.of c.nfa_with.ensures.of.0 c.nfa_with.ensures.of.1) }
