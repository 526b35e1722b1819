-- A match anywhere is enough, or has to stand alone, or to be the line.
use Rattle.acgrep.proofs.select.is_match.Goals as goal

pub returns-in-AnyPart-clause-matched : goal.returns-in-AnyPart-clause-matched
returns-in-AnyPart-clause-matched c = λ p is has. rw c.in-AnyPart.is has

pub returns-in-WholeWord-clause-matched : goal.returns-in-WholeWord-clause-matched
returns-in-WholeWord-clause-matched c = λ p is has. rw c.in-WholeWord.is (c.has_alone.ensures.alone p is)

pub returns-in-WholeLine-clause-matched : goal.returns-in-WholeLine-clause-matched
returns-in-WholeLine-clause-matched c = λ p is has. rw c.in-WholeLine.is (c.is_whole.ensures.whole p is)
