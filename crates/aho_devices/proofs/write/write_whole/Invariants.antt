-- What is gone from `rest` was taken, no count rose, and the sink is as it was where nothing is gone.
use Rattle.std.proofs.Common.{◌≡◌, length, drop, take, ◌≤◌, ℕ}
use Rattle.std.specs.Io.KnownBytes.{Appends}
use Rattle.aho_devices.proofs.write.write_whole.Given as goal

abbrev pub invariant-loop-rest : goal.invariant-loop-rest
invariant-loop-rest g l =
    (at : ℕ) × (at ≤ length l.initial.rest) × (l.rest ≡ drop at l.initial.rest)
    × Appends (g.W.Sink.taken l.initial.sink) (g.W.Sink.taken l.sink) (take at l.initial.rest)
    × (at ≡ 0 → l.sink ≡ l.initial.sink)
    × (g.W.Sink.failures l.sink ≡ g.W.Sink.failures l.initial.sink)
    × (g.W.Sink.empty_writes l.sink ≡ g.W.Sink.empty_writes l.initial.sink)

abbrev pub decreases-loop-rest : goal.decreases-loop-rest
decreases-loop-rest g l = length l.rest
