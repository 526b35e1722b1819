-- The lines so far are put together.
use Rattle.acgrep.proofs.Common.{Patterns, sum}
use Rattle.std.proofs.Common.{◌≡◌, drop, length}
use Rattle.acgrep.specs.Filled.{cut_by, held_lines}
use Rattle.acgrep.specs.Searchers.{Seeks}
use Rattle.acgrep.proofs.Stepped.{ShowsTo}
use Rattle.acgrep.proofs.context.put_each_line.Given as goal

abbrev pub invariant-loop-index : goal.invariant-loop-index
invariant-loop-index g l = record {
  sized : sum (drop l.index l.fn.held.sizes.items) ≡ length l.rest;
  shown : (p : Patterns) → Seeks l.fn.query p
      → ShowsTo p l.fn.query.job l.fn.first l.place (g.W.Write.contents l.initial.output) (g.W.Write.contents l.output) (held_lines l.fn.held) (cut_by (drop l.index l.fn.held.sizes.items) l.rest);
}
