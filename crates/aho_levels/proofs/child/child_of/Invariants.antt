-- What is still to be looked through tells the same as all bytes.
use Rattle.std.proofs.Common.{◌≡◌, ◌+◌, drop}
use Rattle.aho_levels.specs.Layout.{position_of}
use Rattle.aho_levels.proofs.child.child_of.Given as goal

abbrev pub invariant-loop-index : goal.invariant-loop-index
invariant-loop-index l = position_of (drop l.index l.bytes) l.byte (l.at + l.index) ≡ position_of l.bytes l.byte l.at
