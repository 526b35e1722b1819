use Rattle.std.proofs.Common.{rules, subst}
use Rattle.aho_core.specs.Answer.{IsAnswer}
use Rattle.aho_core.specs.Search.{Search}
use Rattle.chromesquid.proofs.iter.FindIter.search_further.Goals as goal

pub returns-clause-found : goal.returns-clause-found
returns-clause-found c = λ p of. subst (λ (s : Search). IsAnswer p s c.search.result) (search rules) (c.search.ensures.found p of)
