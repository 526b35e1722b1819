use Rattle.aho_laws.proofs.CoverParts.{cover-pieces, runs-pieces}
use Rattle.aho_laws.proofs.cover.covers_of_lines.Goals as goal

pub returns-clause-runs : goal.returns-clause-runs
returns-clause-runs c = λ p byte pieces. runs-pieces p pieces byte

pub returns-clause-covers : goal.returns-clause-covers
returns-clause-covers c = λ p byte pieces replacements. cover-pieces p pieces byte replacements
