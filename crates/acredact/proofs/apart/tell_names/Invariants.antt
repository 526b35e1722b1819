-- The first names are told.
use Rattle.acredact.proofs.Common.{bytes_of_names, drop}
use Rattle.acredact.specs.Apart.{unnamed_lines}
use Rattle.acredact.proofs.Doubting.{ToldSoFar}
use Rattle.acredact.proofs.apart.tell_names.Given as goal

abbrev pub invariant-loop-name : goal.invariant-loop-name
invariant-loop-name g l = ToldSoFar g.E.Sink l.initial.errors l.errors (unnamed_lines (bytes_of_names l.fn.names)) (unnamed_lines (bytes_of_names (drop l.name-index l.fn.names)))
