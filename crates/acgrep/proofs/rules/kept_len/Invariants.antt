-- What is left decides.
use Rattle.std.proofs.Common.{◌+◌, ◌≡◌, ◌≤◌, drop}
use Rattle.acgrep.specs.Rules.{kept_len}
use Rattle.acgrep.proofs.rules.kept_len.Given as goal

abbrev pub invariant-loop-byte : goal.invariant-loop-byte
invariant-loop-byte l = record {
  keeps : kept_len 1 1 l.fn.behind ≡ kept_len l.kept l.passed (drop l.byte-index l.fn.behind);
  within : l.kept ≤ l.passed;
  passes : l.passed ≡ l.byte-index + 1;
}
