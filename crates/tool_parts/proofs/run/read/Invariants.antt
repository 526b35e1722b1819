-- What was read so far is the text, and each turn of the loop makes it longer.
use Rattle.std.proofs.Common.{◌≡◌, ◌-◌, ◌^◌, length}
use Rattle.std.specs.Io.KnownBytes.{Consumes}
use Rattle.tool_parts.specs.Streams.{bytes_left}
use Rattle.tool_parts.proofs.run.read.Given as goal

abbrev pub invariant-loop-text : goal.invariant-loop-text
invariant-loop-text g l = Consumes (bytes_left l.initial.input) (bytes_left l.input) l.text.items
    × (l.input.failures ≡ l.initial.input.failures)

abbrev pub decreases-loop-text : goal.decreases-loop-text
decreases-loop-text g l = 2 ^ 64 - length l.text.items
