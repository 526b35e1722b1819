use Rattle.std.proofs.Common.{◌≡◌, ◌<◌, ◌+◌, ◌-◌, ◌⊎◌, length}
use Rattle.aho_devices.specs.Buffer.{Gains}
use Rattle.aho_devices.proofs.buffer.Buffer.fill.Given as goal

-- What was read since the call began was gained, more is wanted if something was, there is room, and no count rose.
abbrev pub invariant-loop-count : goal.invariant-loop-count
invariant-loop-count g l =
    Gains l.initial.self l.self (g.R.Source.remaining l.initial.source) (g.R.Source.remaining l.source)
    × (length l.self.bytes ≡ length l.initial.self.bytes + l.read)
    × ((l.read ≡ 0) ⊎ (length l.self.bytes < l.self.least))
    × (l.read < l.room)
    × (length l.self.bytes < l.self.size)
    × (g.R.Source.failures l.source ≡ g.R.Source.failures l.initial.source)
    × (g.R.Source.empty_reads l.source ≡ g.R.Source.empty_reads l.initial.source)

abbrev pub decreases-loop-count : goal.decreases-loop-count
decreases-loop-count g l = l.self.size - length l.self.bytes
