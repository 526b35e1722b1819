-- What was written stays as it was, while nothing is taken.
use Rattle.std.specs.Io.KnownBytes.{Keeps}
use Rattle.tool_parts.proofs.patient.PatientWrite.write.Given as goal

abbrev pub invariant-loop-turn : goal.invariant-loop-turn
invariant-loop-turn g l = Keeps (g.W.Write.contents l.initial.self.stream) (g.W.Write.contents l.self.stream)
