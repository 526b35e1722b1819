-- The names behind those that are left were put down.
use Rattle.std.proofs.Common.{◌++◌, ◌≡◌, length}
use Rattle.std.specs.Prelude.{map}
use Rattle.acgrep.specs.Folders.{inside, spots_of}
use Rattle.acgrep.specs.Listed.{listed_bytes}
use Rattle.acgrep.proofs.walk.put_first.Given as goal

abbrev pub invariant-loop-last : goal.invariant-loop-last
invariant-loop-last l = map (inside l.folder) (listed_bytes l.left.items) ++ spots_of l.pending.items ≡ map (inside l.folder) (listed_bytes l.initial.left.items) ++ spots_of l.initial.pending.items

abbrev pub decreases-loop-last : goal.decreases-loop-last
decreases-loop-last l = length l.left.items
