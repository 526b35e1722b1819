-- The bytes of the words before the place of the loop are marked.
use Rattle.acredact.proofs.Common.{AllWithin, IsMarked, length, ◌≡◌}
use Rattle.acredact.proofs.clean.marks_of.Given as goal

abbrev pub invariant-loop-word : goal.invariant-loop-word
invariant-loop-word l = (length l.marks ≡ 256) × AllWithin (λ word. IsMarked l.fn.ignore_case word.now l.marks) l.fn.words 0 l.word-index
