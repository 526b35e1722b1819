-- The patterns of the sources so far were read.
use Rattle.std.proofs.Common.{◌≡◌, drop}
use Rattle.acgrep.specs.Lines.{EndsLine, lines}
use Rattle.acgrep.specs.Runs.{AreOf, origins_of}
use Rattle.acgrep.proofs.Gathered.{GaveSoFar}
use Rattle.acgrep.proofs.keys.read_keys.Given as goal

abbrev pub invariant-loop-source : goal.invariant-loop-source
invariant-loop-source g l = record {
  ends : EndsLine 10 l.keys.text.items;
  words : GaveSoFar (AreOf (g.F.Open.holds l.fn.files)) (origins_of l.fn.sources) (g.R.Read.remaining l.initial.input) (origins_of (drop l.source-index l.fn.sources)) (g.R.Read.remaining l.input) (lines 10 l.keys.text.items);
  told : l.errors ≡ l.initial.errors;
}
