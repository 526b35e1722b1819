-- What the loop keeps: what was written leads from where it began to where it stands, and no write has failed.
use Rattle.std.proofs.Common.{◌≡◌, ℕ, ◌≤◌, max, length}
use Rattle.aho_cover.specs.Feeds.{Feeding}
use Rattle.aho_cover.specs.Hand.{held_runs}
use Rattle.aho_cover.specs.Progress.{ClearlyCovered, IsSoundCover, KeepsRoom}
use Rattle.aho_cover.specs.Writes.{WritesOn}
use Rattle.aho_cover.proofs.progress.CoverProgress.settle.Given as goal

abbrev pub invariant-loop : goal.invariant-loop
invariant-loop g l = record {
  sound : (at : ℕ) → IsSoundCover l.initial.self at → IsSoundCover l.self at;
  others : l.self ≡ record l.initial.self { copied = l.self.copied; hand = l.self.hand };
  room : KeepsRoom l.initial.self l.self;
  copied : l.self.copied ≤ max l.initial.self.copied l.place;
  rule : g.P.Pieces.rule l.pieces ≡ g.P.Pieces.rule l.initial.pieces;
  writes : (at : ℕ) → WritesOn g.W.Sink l.initial.sink l.sink l.initial.counts l.counts
      (Feeding (g.P.Pieces.holds l.initial.pieces) l.initial.self (ClearlyCovered (g.P.Pieces.rule l.initial.pieces) l.initial.self at l.place))
      (Feeding (g.P.Pieces.holds l.pieces) l.self (ClearlyCovered (g.P.Pieces.rule l.initial.pieces) l.self at l.place));
  failures : g.W.Sink.failures l.sink ≡ g.W.Sink.failures l.initial.sink;
  empty_writes : g.W.Sink.empty_writes l.sink ≡ g.W.Sink.empty_writes l.initial.sink;
}

abbrev pub decreases-loop : goal.decreases-loop
decreases-loop g l = length (held_runs l.self.hand)
