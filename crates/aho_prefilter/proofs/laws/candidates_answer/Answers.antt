use Rattle.aho_prefilter.proofs.Skips.{NothingOccurs-answer}
use Rattle.aho_prefilter.proofs.laws.candidates_answer.Goals as goal

pub returns : goal.returns
returns c = record { whole = λ p haystack start end m is. is.best; nothing = NothingOccurs-answer }
