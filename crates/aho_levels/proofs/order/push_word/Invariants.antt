use Rattle.std.proofs.Common.{◌≡◌, ◌++◌, map, take}
use Rattle.aho_core.specs.Bytes.{folded_by}
use Rattle.aho_levels.proofs.order.push_word.Given as goal

abbrev pub invariant-loop-byte : goal.invariant-loop-byte
invariant-loop-byte l = l.text.items ≡ l.initial.text.items ++ map (folded_by l.ignore_case) (take l.byte-index l.word)
