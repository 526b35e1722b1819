-- The runs that came so far were written.
use Rattle.acgrep.proofs.Common.{Appends}
use Rattle.std.proofs.Common.{take}
use Rattle.acgrep.specs.Marked.{ruled_objects}
use Rattle.acgrep.specs.Printed.{matches_by}
use Rattle.acgrep.proofs.marking.put_marked.Given as goal

abbrev pub invariant-loop-run : goal.invariant-loop-run
invariant-loop-run g l = Appends (g.W.Write.contents l.initial.output) (g.W.Write.contents l.output) (matches_by l.fn.style l.fn.place l.fn.line (take l.run-index l.fn.runs))

abbrev pub invariant-loop-found : goal.invariant-loop-found
invariant-loop-found g l = Appends (g.W.Write.contents l.initial.output) (g.W.Write.contents l.output) (ruled_objects l.fn.style l.fn.rules l.fn.place l.fn.line (take l.found-index l.fn.runs))
