-- What is left decides.
use Rattle.std.proofs.Common.{◌≡◌, drop}
use Rattle.acgrep.specs.Colors.{is_code}
use Rattle.acgrep.proofs.colors.is_code.Given as goal

abbrev pub invariant-loop-byte : goal.invariant-loop-byte
invariant-loop-byte l = is_code l.fn.bytes ≡ is_code (drop l.byte-index l.fn.bytes)
