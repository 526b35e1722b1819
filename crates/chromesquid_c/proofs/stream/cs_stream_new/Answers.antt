-- The stream is one of the searcher to which the handle leads.
use Rattle.std.proofs.Common.{◌≡◌, ◌∙◌, ap, subst}
use Rattle.chromesquid.specs.Searcher.{Searcher}
use Rattle.chromesquid_c.specs.Streaming.{HasBegun}
use Rattle.chromesquid_c.specs.declared.inner.Inner.{Inner}
use Rattle.chromesquid_c.proofs.stream.cs_stream_new.Goals as goal

pub returns-then-searcher-clause-begun : goal.returns-then-searcher-clause-begun
returns-then-searcher-clause-begun c = λ owner holds done.
    let value = c.get.ensures.value in
    let held = holds.held in
    let same : c.get.result.now ≡ holds.one = cc in
    let begun = c.begin_stream.ensures.begun done in
    (begun.0, begun.1, subst (λ (s : Searcher). HasBegun s begun.0) (ap (λ (i : Inner). i.searcher.value) same ∙ holds.same) begun.2)
