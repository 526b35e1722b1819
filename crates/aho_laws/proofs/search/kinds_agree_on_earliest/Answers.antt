use Rattle.aho_laws.proofs.Answers.{IsAnswer-of_kind, IsAnswer-standard}
use Rattle.aho_laws.proofs.search.kinds_agree_on_earliest.Goals as goal

pub returns-clause-any_kind : goal.returns-clause-any_kind
returns-clause-any_kind c = λ p kind search answer earliest h. IsAnswer-of_kind p kind search answer earliest h

pub returns-clause-standard : goal.returns-clause-standard
returns-clause-standard c = λ p search answer earliest h. IsAnswer-standard p search answer earliest h
