use Rattle.std.proofs.Common.{ap}
use Rattle.aho_stream.specs.declared.progress.StreamProgress.{StreamProgress}
use Rattle.aho_stream.proofs.Reported.{told_from_option}
use Rattle.aho_stream.proofs.pieces.next_piece.Goals as goal

pub returns-clause-tells : goal.returns-clause-tells
returns-clause-tells g c p given of a =
    let others = c.search.ensures.others in
    told_from_option p _ _ _ given _ (ap (λ (s : StreamProgress). s.reported) others) (ap (λ (s : StreamProgress). s.from) others)
    ((rw c.search.ensures.same at c.piece.ensures.tells) p given of (c.search.ensures.after p given of a))
