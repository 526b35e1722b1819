-- No gram of the strides before that of the loop has its bits set.
use Rattle.memchr.specs.Find.{Nowhere}
use Rattle.aho_prefilter.specs.Strided.{HasGramIn}
use Rattle.aho_prefilter.proofs.strided.Strided.next_by.Given as goal

abbrev pub invariant-loop-turn : goal.invariant-loop-turn
invariant-loop-turn l = Nowhere (HasGramIn l.self l.bytes) l.fn.from l.turn
