use Rattle.aho_laws.proofs.Answers.{IsAnswer-some, IsAnswer-exists}
use Rattle.aho_laws.proofs.search.answers_where_something_occurs.Goals as goal

pub returns-clause-some : goal.returns-clause-some
returns-clause-some c = λ p search m within occurs. IsAnswer-some p search m within occurs

pub returns-clause-exists : goal.returns-clause-exists
returns-clause-exists c = λ p search within. IsAnswer-exists p search within
