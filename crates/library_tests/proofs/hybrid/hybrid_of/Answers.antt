-- The automaton is of what the `NFA` is of.
use Rattle.std.proofs.lemmas.Result.{IfOk-at_ok}
use Rattle.library_tests.proofs.hybrid.hybrid_of.Goals as goal

pub returns : goal.returns
returns g c =
    let of = c.nfa_with-nfa.ensures.of in
    record { of = (of.0, IfOk-at_ok _ c.expect.ensures c.with_budget.ensures.of of.0 of.1) }
