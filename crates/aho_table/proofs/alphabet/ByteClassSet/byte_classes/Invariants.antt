-- The bytes up to this one have their classes.
use Rattle.std.proofs.Common.{◌≡◌, ℕ, ◌≤◌, length, get_or}
use Rattle.aho_table.specs.Alphabet.{class_of}
use Rattle.aho_table.proofs.alphabet.ByteClassSet.byte_classes.Given as goal

abbrev pub invariant-loop-at : goal.invariant-loop-at
invariant-loop-at l = record {
  sized : length l.classes ≡ 256;
  class : l.class ≡ class_of l.self-inside.borders l.at;
  counted : (byte : ℕ) → byte ≤ l.at → get_or l.classes byte 0 ≡ class_of l.self-inside.borders byte;
}
