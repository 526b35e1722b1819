use Rattle.aho_laws.proofs.Answers.{IsAnswer-unique}
use Rattle.aho_laws.proofs.search.has_one_answer.Goals as goal

pub returns : goal.returns
returns c = record { unique = IsAnswer-unique }
