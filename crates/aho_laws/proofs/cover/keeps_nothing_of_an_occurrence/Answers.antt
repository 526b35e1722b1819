use Rattle.aho_laws.proofs.CoverKept.{is_covered-tells, kept-uncovered, runs-cover}
use Rattle.aho_laws.proofs.cover.keeps_nothing_of_an_occurrence.Goals as goal

pub returns-clause-test : goal.returns-clause-test
returns-clause-test c = is_covered-tells

pub returns-clause-kept : goal.returns-clause-kept
returns-clause-kept c = kept-uncovered

pub returns-clause-places : goal.returns-clause-places
returns-clause-places c = λ p haystack runs at h. let covers = runs-cover p haystack runs h in (covers.only at, covers.has at)
