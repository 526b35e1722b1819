use Rattle.aho_laws.proofs.JoinedPieces.{replaced-lines, replaced-pieces}
use Rattle.aho_laws.proofs.cuts.replaces_in_pieces.Goals as goal

pub returns-clause-pieces : goal.returns-clause-pieces
returns-clause-pieces c = replaced-pieces

pub returns-clause-lines : goal.returns-clause-lines
returns-clause-lines c = λ p byte pieces ms texts lines. replaced-lines p byte pieces ms texts lines.full lines.none lines.cut lines.each
