-- The automaton is of what the `NFA` is of.
use Rattle.std.proofs.lemmas.Result.{IfOk-at_ok}
use Rattle.library_tests.proofs.stream.stream_finds.skipped_bytes_are_not_walked.Goals as goal

pub told_at_once-requires : goal.told_at_once-requires
told_at_once-requires g c =
    let of = c.nfa_of-nfa.ensures.of in
    record { of = (of.0, IfOk-at_ok _ c.expect-hybrid.ensures c.from_nfa.ensures.of of.0 of.1) }
