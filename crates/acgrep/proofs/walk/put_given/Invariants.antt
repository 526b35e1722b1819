-- The operands so far were put down.
use Rattle.acgrep.proofs.Common.{name_bytes}
use Rattle.std.proofs.Common.{◌++◌, ◌≡◌, take}
use Rattle.std.specs.Prelude.{map}
use Rattle.acgrep.specs.Folders.{operand, spots_of}
use Rattle.acgrep.proofs.walk.put_given.Given as goal

abbrev pub invariant-loop-operand : goal.invariant-loop-operand
invariant-loop-operand l = spots_of l.pending.items ≡ spots_of l.initial.pending.items ++ map operand (name_bytes (take l.operand-index l.fn.operands))
