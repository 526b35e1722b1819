-- The chunks have come so far with some bytes.
use Rattle.aho_stream.specs.Iterators.{CanGoOn}
use Rattle.library_tests.proofs.stream.stream_finds.told_under.Given as goal

abbrev pub invariant-loop : goal.invariant-loop
invariant-loop g l = CanGoOn g.A.Automaton l.chunks
