use Rattle.std.proofs.lemmas.Result.{IfOk-weaker}
use Rattle.chromesquid.proofs.searcher.AhoCorasick.try_find_overlapping_iter.Goals as goal

pub returns-clause-lists : goal.returns-clause-lists
returns-clause-lists g c = rw (← c.into_input.ensures.same) (λ p built. IfOk-weaker c.of.result _ _ (λ it has. has.lists p built) c.of.ensures.lists)

pub returns-clause-first : goal.returns-clause-first
returns-clause-first g c = rw (← c.into_input.ensures.same) (λ p built. IfOk-weaker c.of.result _ _ (λ it has. has.first p built) c.of.ensures.lists)
