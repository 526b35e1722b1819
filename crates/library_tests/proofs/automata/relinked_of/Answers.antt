use Rattle.std.proofs.lemmas.Result.{IfOk-at_ok}
use Rattle.library_tests.proofs.automata.relinked_of.Goals as goal

pub returns : goal.returns
returns g c = record { of = (c.requires.of.0, IfOk-at_ok _ c.expect.ensures c.new.ensures.of c.requires.of.0 c.requires.of.1) }
