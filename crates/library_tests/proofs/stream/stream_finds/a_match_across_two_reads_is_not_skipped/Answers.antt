-- The automaton is of what the `NFA` is of.
use Rattle.std.proofs.lemmas.Result.{IfOk-at_ok}
use Rattle.library_tests.proofs.stream.stream_finds.a_match_across_two_reads_is_not_skipped.Goals as goal

pub is_told_across_a_read-requires : goal.is_told_across_a_read-requires
is_told_across_a_read-requires g c =
    let of = c.nfa_of-nfa.ensures.of in
    record { of = (of.0, IfOk-at_ok _ c.expect-hybrid.ensures c.from_nfa.ensures.of of.0 of.1) }
