-- What is left to read stays as it was, while nothing is given.
use Rattle.std.specs.Io.KnownBytes.{Keeps}
use Rattle.tool_parts.proofs.patient.PatientRead.read.Given as goal

abbrev pub invariant-loop-turn : goal.invariant-loop-turn
invariant-loop-turn g l = Keeps (g.R.Read.remaining l.initial.self.stream) (g.R.Read.remaining l.self.stream)
