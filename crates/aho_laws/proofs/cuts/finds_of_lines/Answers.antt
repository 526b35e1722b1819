use Rattle.aho_laws.proofs.JoinedPieces.{clear_behind, finds-pieces}
use Rattle.aho_laws.proofs.cuts.finds_of_lines.Goals as goal

pub returns-clause-clear : goal.returns-clause-clear
returns-clause-clear c = clear_behind

pub returns-clause-finds : goal.returns-clause-finds
returns-clause-finds c = λ p byte pieces lines. finds-pieces p pieces byte lines.full lines.none lines.cut lines.each
