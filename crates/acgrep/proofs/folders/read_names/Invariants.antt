-- What was read so far is what the folder gave.
use Rattle.acgrep.proofs.Common.{Consumes}
use Rattle.std.proofs.Common.{◌<◌, length}
use Rattle.acgrep.proofs.folders.read_names.Given as goal

abbrev pub invariant-loop : goal.invariant-loop
invariant-loop g l = record {
  read : Consumes (g.R.Read.remaining l.fn.folder) (g.R.Read.remaining l.folder) l.text.items;
  room : 0 < length l.room;
}
