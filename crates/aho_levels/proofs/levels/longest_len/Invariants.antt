use Rattle.std.proofs.Common.{◌≡◌, ◌≤◌, drop}
use Rattle.std.specs.Prelude.{max}
use Rattle.aho_core.specs.Laws.{longest}
use Rattle.aho_levels.proofs.levels.longest_len.Given as goal

abbrev pub invariant-loop-len : goal.invariant-loop-len
invariant-loop-len l = record { kept : max l.most (longest (drop l.len-index l.lens)) ≡ longest l.lens; bound : l.most ≤ 2147483646 }
