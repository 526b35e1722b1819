-- What makes pseudonyms does so by the same key.
use Rattle.acredact.proofs.Common.{refl}
use Rattle.acredact.proofs.run_pieces.RunPiecesPieces.end.Goals as goal

pub returns-in-Some-clause-same : goal.returns-in-Some-clause-same
returns-in-Some-clause-same c = rw (c.in-Some.is, c.end.ensures.same) refl
