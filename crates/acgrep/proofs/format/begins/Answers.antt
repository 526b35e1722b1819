-- What begins with a text is it and what follows.
use Rattle.std.proofs.Common.{sym}
use Rattle.std.proofs.lemmas.Bool.Decides.{Decides-eqb}
use Rattle.std.proofs.lemmas.Slice.Eq.{starts_is}
use Rattle.acgrep.proofs.format.begins.Goals as goal

pub returns-clause-cut : goal.returns-clause-cut
returns-clause-cut c = λ is. sym ((starts_is Decides-eqb c.args.rest.now c.args.text.now _ c.starts_with.ensures.value).0 is)
