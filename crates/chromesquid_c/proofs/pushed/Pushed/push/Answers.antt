-- Where all was searched through, as many bytes are taken as there is room for.
use Rattle.std.proofs.Common.{◌≡◌, ◌∙◌, false, sym, subst}
use Rattle.chromesquid_c.specs.Streaming.{FillsRoom, PushedStream}
use Rattle.chromesquid_c.proofs.pushed.Pushed.push.Goals as goal

pub returns-clause-filled : goal.returns-clause-filled
returns-clause-filled c = λ done.
    let going : c.self.inside.progress.ended ≡ false = sym c.has_ended.ensures.ended ∙ c.if-has_ended.false in
    subst (λ (s : PushedStream). FillsRoom s c.args.bytes.now c.push.result) c.self.view_is
    (λ searched. (rw c.deref-searcher.ensures at c.push.ensures.filled) searched going)
