-- What is held is lent.
use Rattle.std.proofs.Common.{◌∙◌, ap}
use Rattle.chromesquid.proofs.Held.{lent_back}
use Rattle.chromesquid.proofs.searcher.AhoCorasick.backward.Goals as goal

pub returns-clause-same : goal.returns-clause-same
returns-clause-same c = c.as_ref.ensures.value ∙ ap (λ s. s.backward) c.self.view_is

pub returns-clause-of : goal.returns-clause-of
returns-clause-of c = λ p built. lent_back p c.args.self.now.backward c.as_ref.result (c.as_ref.ensures.value ∙ ap (λ s. s.backward) c.self.view_is) built.walks_back
