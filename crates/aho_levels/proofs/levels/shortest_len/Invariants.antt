use Rattle.std.proofs.Common.{◌≡◌, ◌≤◌, drop}
use Rattle.std.specs.Prelude.{min}
use Rattle.aho_core.specs.Laws.{shortest}
use Rattle.aho_levels.proofs.levels.shortest_len.Given as goal

abbrev pub invariant-loop-len : goal.invariant-loop-len
invariant-loop-len l = record { kept : min l.least (shortest (drop l.len-index l.lens)) ≡ shortest l.lens; bound : l.least ≤ 18446744073709551615 }
