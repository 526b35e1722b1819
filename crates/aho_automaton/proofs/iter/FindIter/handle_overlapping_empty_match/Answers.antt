use Rattle.std.proofs.Common.{rules, subst}
use Rattle.aho_core.specs.Answer.{IsAnswer}
use Rattle.aho_core.specs.Search.{Search}
use Rattle.aho_automaton.proofs.iter.FindIter.handle_overlapping_empty_match.Goals as goal

pub returns-clause-found : goal.returns-clause-found
returns-clause-found g c = λ p of. subst (λ (s : Search). IsAnswer p s c.search.result) (search rules) (c.search.ensures.found p of)
