-- The automaton that counts is of what the `NFA` is of.
use Rattle.library_tests.proofs.stream.stream_finds.is_stepped_once.Goals as goal

pub walks_all-requires : goal.walks_all-requires
walks_all-requires g c =
    let of = c.nfa_with-nfa.ensures.of in
    record { of = (of.0, c.new-tally.ensures.of of.0 of.1) }
