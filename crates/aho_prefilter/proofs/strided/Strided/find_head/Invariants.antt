-- None of the places before that of the loop has the bit of its head set.
use Rattle.memchr.specs.Find.{Nowhere}
use Rattle.aho_prefilter.specs.Strided.{HasMark, head_hash}
use Rattle.aho_prefilter.proofs.strided.Strided.find_head.Given as goal

abbrev pub invariant-loop-place : goal.invariant-loop-place
invariant-loop-place l = Nowhere (λ at. HasMark l.self.heads (head_hash l.self.sizes l.bytes at)) l.fn.from l.place
