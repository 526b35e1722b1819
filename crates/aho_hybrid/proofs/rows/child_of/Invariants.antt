use Rattle.std.proofs.Common.{◌≡◌, ◌*◌, drop}
use Rattle.aho_hybrid.specs.Layout.{child_of}
use Rattle.aho_hybrid.proofs.rows.child_of.Given as goal

abbrev pub invariant-loop-index : goal.invariant-loop-index
invariant-loop-index l = child_of (drop (2 * l.index) l.moves) l.byte ≡ child_of l.moves l.byte
