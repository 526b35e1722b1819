-- The automaton that counts is of what the `NFA` is of.
use Rattle.library_tests.proofs.lookups.row_steps.Goals as goal

pub try_find-requires : goal.try_find-requires
try_find-requires g c =
    let of = c.requires.of in
    record { of = (of.0, c.new-tally.ensures.of of.0 of.1) }
