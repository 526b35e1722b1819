-- One run after another.
use Rattle.std.proofs.Common.{◌∙◌, Bool, refl, ap, subst, arith}
use Rattle.aho_cover.specs.declared.progress.CoverProgress.{CoverProgress}
use Rattle.aho_cover.specs.Feeds.{Feeding}
use Rattle.aho_cover.specs.Progress.{ClearlyCovered, IsBeginning}
use Rattle.aho_cover.proofs.Written.{on_err, writes_nothing, writes_still, writes_then}
use Rattle.aho_cover.proofs.progress.CoverProgress.settle.Goals as goal

pub loop-init : goal.loop-init
loop-init g c = record {
  sound = λ at sound. sound;
  others = refl;
  room = record { least = refl; room = refl };
  copied = omega arith;
  rule = refl;
  writes = λ at. writes_nothing g.W.Sink c.args.sink.now c.args.counts.now _ (Feeding (g.P.Pieces.holds c.args.pieces.now) c.args.self.now (ClearlyCovered (g.P.Pieces.rule c.args.pieces.now) c.args.self.now at c.args.place)) (λ p haystack written before. before);
  failures = refl;
  empty_writes = refl;
}

pub settle_one-requires : goal.settle_one-requires
settle_one-requires g c = record { sound = (c.requires.sound.0, c.loop.invariant.sound c.requires.sound.0 c.requires.sound.1) }

pub returns-in_err-settle_one-clause-begins : goal.returns-in_err-settle_one-clause-begins
returns-in_err-settle_one-clause-begins g c =
    on_err c.from_residual.result _
    (λ at. writes_then (c.loop.invariant.writes at)
    (writes_still _ (IsBeginning c.args.self.now.words (g.P.Pieces.rule c.args.pieces.now)) (λ p haystack written before. before)
    (λ p haystack written begins. subst (λ (w : Bool). IsBeginning w (g.P.Pieces.rule c.args.pieces.now) p haystack written) (ap (λ (s : CoverProgress). s.words) c.loop.invariant.others) begins)
    ((rw c.loop.invariant.rule at c.in_err-settle_one.ensures.begins) at)))

pub loop-preserved : goal.loop-preserved
loop-preserved g c =
    let inv = c.loop.invariant in
    let one = c.in_ok-settle_one.ensures in
    let next = c.settle_one.new.self in
    record {
      sound = λ at sound. one.sound at (inv.sound at sound);
      others = one.others ∙ ap (λ (s : CoverProgress). record s { copied = next.copied; hand = next.hand }) inv.others;
      room = record { least = one.room.least ∙ inv.room.least; room = one.room.room ∙ inv.room.room };
      copied = omega (arith, one.copied, inv.copied);
      rule = one.rule ∙ inv.rule;
      writes = λ at. writes_then (inv.writes at) ((rw inv.rule at one.writes) at);
      failures = one.tells.write_failed ∙ inv.failures;
      empty_writes = one.tells.took_nothing ∙ inv.empty_writes;
    }

pub returns-clause-sound : goal.returns-clause-sound
returns-clause-sound g c = λ at sound. c.in_ok-settle_one.ensures.sound at (c.loop.invariant.sound at sound)

pub returns-clause-writes : goal.returns-clause-writes
returns-clause-writes g c = λ at. writes_then (c.loop.invariant.writes at) ((rw c.loop.invariant.rule at c.in_ok-settle_one.ensures.writes) at)
