use Rattle.std.specs.Prelude.{length}
use Rattle.aho_core.specs.Occurs.{OccursIn}
use Rattle.aho_core.specs.Search.{plain_search}
use Rattle.aho_laws.specs.CoverLaws.{runs_upto}
use Rattle.aho_laws.proofs.CoverRuns.{runs-unique}
use Rattle.aho_laws.proofs.TextRuns.{runs-made}
use Rattle.aho_laws.proofs.cover.has_one_list_of_runs.Goals as goal

pub returns-clause-exists : goal.returns-clause-exists
returns-clause-exists c = λ p haystack. (runs_upto p haystack (length haystack), runs-made p haystack)

pub returns-clause-unique : goal.returns-clause-unique
returns-clause-unique c = λ p haystack xs ys h k. runs-unique (OccursIn p (plain_search haystack)) xs ys h k
