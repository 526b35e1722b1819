use Rattle.aho_laws.proofs.CoverParts.{covers-joined_texts, runs-joined}
use Rattle.aho_laws.proofs.cover.covers_at_bare_cuts.Goals as goal

pub returns-clause-runs : goal.returns-clause-runs
returns-clause-runs c = λ p left right xs ys bare. runs-joined p left right bare xs ys

pub returns-clause-covers : goal.returns-clause-covers
returns-clause-covers c = λ p left right one other pieces. covers-joined_texts p left right pieces one other
