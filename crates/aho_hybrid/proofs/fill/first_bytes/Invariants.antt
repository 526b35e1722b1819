use Rattle.std.proofs.Common.{◌≡◌, ℕ, ◌<◌, length, get_or}
use Rattle.aho_table.specs.Alphabet.{class_of}
use Rattle.aho_hybrid.proofs.fill.first_bytes.Given as goal

abbrev pub invariant-loop-index : goal.invariant-loop-index
invariant-loop-index l = record {
  sized : length l.firsts ≡ 256;
  of_class : (b : ℕ) → b < l.index → class_of l.classes (get_or l.firsts (class_of l.classes b) 0) ≡ class_of l.classes b;
}
