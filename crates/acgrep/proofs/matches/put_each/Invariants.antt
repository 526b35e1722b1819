-- The matches that came so far were written.
use Rattle.acgrep.proofs.Coloring.{PutSoFar}
use Rattle.acgrep.proofs.matches.put_each.Given as goal

abbrev pub invariant-loop-found : goal.invariant-loop-found
invariant-loop-found g l = record {
  can_next : (goal.iterator-loop-found g).can_next l.found-iterator;
  is_finite : (goal.iterator-loop-found g).is_finite l.found-iterator;
  put : PutSoFar l.fn.shape l.fn.style l.fn.place l.fn.line l.yielded l.at (g.W.Write.contents l.initial.output) (g.W.Write.contents l.output);
}
