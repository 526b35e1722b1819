-- What was read so far is the text, and each turn of the loop makes it longer.
use Rattle.acredact.proofs.Common.{Consumes, bytes_left, length, ◌-◌, ◌≡◌}
use Rattle.std.proofs.Common.{◌^◌}
use Rattle.acredact.proofs.load.read_whole.Given as goal

abbrev pub invariant-loop-text : goal.invariant-loop-text
invariant-loop-text g l = Consumes (bytes_left l.initial.input) (bytes_left l.input) l.text.items
    × (l.input.failures ≡ l.initial.input.failures)

abbrev pub decreases-loop-text : goal.decreases-loop-text
decreases-loop-text g l = 2 ^ 64 - length l.text.items
