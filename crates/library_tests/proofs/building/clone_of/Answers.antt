-- The clone is of the patterns of its original.
use Rattle.std.proofs.lemmas.Result.{IfOk-at_ok}
use Rattle.library_tests.proofs.building.clone_of.Goals as goal

pub returns : goal.returns
returns g c = record { of = (_, ((IfOk-at_ok _ c.expect-clone.ensures c.try_clone.ensures.same).same_patterns _).0 c.nfa_of-nfa.ensures.of.1) }
