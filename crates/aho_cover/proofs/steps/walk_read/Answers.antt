-- One match after another, and then what is settled.
use Rattle.std.proofs.Common.{◌≡◌, ℕ, ◌+◌, ◌*◌, ◌≤◌, Bool, refl, sym, ◌∙◌, ap, subst, arith}
use Rattle.aho_cover.specs.declared.progress.CoverProgress.{CoverProgress}
use Rattle.aho_cover.specs.Counting.{put_on}
use Rattle.aho_cover.specs.Feeds.{Feeding}
use Rattle.aho_cover.specs.Pieces.{PieceRule}
use Rattle.aho_cover.specs.Progress.{IsBeginning, IsSoundCover, walk_end}
use Rattle.aho_cover.specs.Steps.{CoversOn}
use Rattle.aho_cover.specs.Writes.{WritesOn}
use Rattle.aho_cover.proofs.Ended.{same-end}
use Rattle.aho_cover.proofs.Sound.{last-waits}
use Rattle.aho_cover.proofs.Written.{if_both, if_err, if_ok, on_err, writes_nothing, writes_still, writes_then}
use Rattle.aho_cover.proofs.steps.walk_read.Given.{Over}
use Rattle.aho_cover.proofs.steps.walk_read.Goals.{After-write_walked}
use Rattle.aho_cover.proofs.steps.walk_read.Goals as goal

pub loop-at-init : goal.loop-at-init
loop-at-init g c = record {
  sound = c.requires.sound;
  within = c.requires.within;
  own = c.requires.own;
  can = c.requires.can;
  rule = refl;
  same = refl;
  bytes = record { read = refl; buffer = refl; words = refl; ended = refl };
  room = record { least = refl; room = refl };
  writes = writes_nothing g.W.Sink c.args.sink.now c.args.counts.now _ _ (λ p haystack written covers. covers);
  failures = refl;
  empty_writes = refl;
}

pub loop-at-preserved : goal.loop-at-preserved
loop-at-preserved g c =
    let inv = c.loop-at.invariant in
    let one = c.in_ok-at.ensures in
    record {
      sound = one.sound;
      within = omega (arith, one.within, same-end c.loop-at.progress c.walk_further.new.progress one.bytes);
      own = one.same ∙ inv.own;
      can = one.can;
      rule = one.rule ∙ inv.rule;
      same = one.same ∙ inv.same;
      bytes = record { read = one.bytes.read ∙ inv.bytes.read; buffer = one.bytes.buffer ∙ inv.bytes.buffer; words = one.bytes.words ∙ inv.bytes.words; ended = one.bytes.ended ∙ inv.bytes.ended };
      room = record { least = one.room.least ∙ inv.room.least; room = one.room.room ∙ inv.room.room };
      writes = writes_then inv.writes (rw inv.rule at (rw inv.same at one.writes));
      failures = one.tells.write_failed ∙ inv.failures;
      empty_writes = one.tells.took_nothing ∙ inv.empty_writes;
    }

pub returns-in_err-at-clause-begins : goal.returns-in_err-at-clause-begins
returns-in_err-at-clause-begins g c =
    on_err c.from_residual.result _
    (writes_then c.loop-at.invariant.writes
    (writes_still _ (IsBeginning c.args.progress.now.words (g.P.Pieces.rule c.args.pieces.now)) (λ p haystack written before. before)
    (λ p haystack written begins. subst (λ (w : Bool). IsBeginning w (g.P.Pieces.rule c.args.pieces.now) p haystack written) c.loop-at.invariant.bytes.words begins)
    (rw c.loop-at.invariant.rule at (rw c.loop-at.invariant.same at c.in_err-at.ensures.begins))))

-- all was walked that may be
all_walked : (g : Over) (c : After-write_walked g) → c.loop-at.at ≡ walk_end c.loop-at.progress
all_walked g c = omega (arith, c.loop-at.invariant.within, c.loop-at-test.false, c.walk_end-end.ensures.end, same-end c.args.progress.now c.loop-at.progress c.loop-at.invariant.bytes)

-- so the place is the end of that
at_end : (g : Over) (c : After-write_walked g)
    → c.write_walked.new.progress ≡ record c.loop-at.progress { copied = c.write_walked.new.progress.copied; hand = c.write_walked.new.progress.hand; since = c.write_walked.new.progress.since }
    → c.loop-at.at ≡ walk_end c.write_walked.new.progress
at_end g c others = all_walked g c ∙ sym (ap walk_end others)

pub returns-clause-sound : goal.returns-clause-sound
returns-clause-sound g c =
    let d = (goal.at.returns-clause-sound g c).After-write_walked in
    let new = c.write_walked.new.progress in
    if_both c.write_walked.result _ _ _ (λ others sound. subst (IsSoundCover new) (at_end g d others) sound) c.write_walked.ensures.others c.write_walked.ensures.sound

pub returns-clause-bytes : goal.returns-clause-bytes
returns-clause-bytes g c =
    let bytes = c.loop-at.invariant.bytes in
    if_ok c.write_walked.result _ _ (λ others. record {
      read = ap (λ (s : CoverProgress). s.read) others ∙ bytes.read;
      buffer = ap (λ (s : CoverProgress). s.buffer) others ∙ bytes.buffer;
      words = ap (λ (s : CoverProgress). s.words) others ∙ bytes.words;
      ended = ap (λ (s : CoverProgress). s.ended) others ∙ bytes.ended;
    }) c.write_walked.ensures.others

pub returns-clause-near : goal.returns-clause-near
returns-clause-near g c =
    let d = (goal.at.returns-clause-near g c).After-write_walked in
    if_both c.write_walked.result _ _ _ (λ others near place low bare.
    let read = ap (λ (s : CoverProgress). s.read) others in
    let least = ap (λ (s : CoverProgress). s.buffer.least) others in
    omega (arith, near place low bare, read, least, all_walked g d, last-waits c.loop-at.progress)) c.write_walked.ensures.others c.write_walked.ensures.near

pub returns-clause-prompt : goal.returns-clause-prompt
returns-clause-prompt g c =
    let d = (goal.at.returns-clause-prompt g c).After-write_walked in
    let automaton = c.loop-at.walk.automaton.now in
    if_both c.write_walked.result _ _ _ (λ others prompt place low bare.
    let read = ap walk_end others in
    let reach = ap (λ (s : CoverProgress). g.A.Automaton.reach automaton s.sid) others in
    omega (arith, prompt place low bare, read, reach, all_walked g d)) c.write_walked.ensures.others c.write_walked.ensures.prompt

pub returns-clause-can : goal.returns-clause-can
returns-clause-can g c =
    let d = (goal.at.returns-clause-can g c).After-write_walked in
    let a = g.A.Automaton in
    let inv = c.loop-at.invariant in
    let new = c.write_walked.new.progress in
    let automaton = c.loop-at.walk.automaton.now in
    if_both c.write_walked.result _ _ _ (λ others writes.
    let place : c.loop-at.at ≡ walk_end new = at_end g d others in
    let sid : c.loop-at.progress.sid ≡ new.sid = sym (ap (λ (s : CoverProgress). s.sid) others) in
    let (p, haystack, written, covers) = inv.can.stands in
    record {
      standard = inv.can.standard;
      no_empty = inv.can.no_empty;
      is_state = subst (a.valid automaton) sid inv.can.is_state;
      cheap = subst (λ (n : ℕ). c.loop-at.walk.work + a.depth automaton n ≤ 2 * walk_end new) sid (omega (arith, inv.can.cheap, place));
      stands = (
        p,
        haystack,
        put_on written writes.bytes writes.runs,
        subst (λ (made : PieceRule). Feeding (g.P.Pieces.holds c.write_walked.new.pieces) new (CoversOn a automaton made new (walk_end new)) p haystack (put_on written writes.bytes writes.runs)) (sym c.write_walked.ensures.rule)
            (subst (λ (n : ℕ). Feeding (g.P.Pieces.holds c.write_walked.new.pieces) new (CoversOn a automaton (g.P.Pieces.rule c.loop-at.pieces) new n) p haystack (put_on written writes.bytes writes.runs)) place (writes.follows p haystack written covers)),
      );
    }) c.write_walked.ensures.others c.write_walked.ensures.writes

pub returns-clause-writes : goal.returns-clause-writes
returns-clause-writes g c =
    let d = (goal.at.returns-clause-writes g c).After-write_walked in
    let a = g.A.Automaton in
    let automaton = c.args.walk.now.automaton.now in
    let rule = g.P.Pieces.rule c.args.pieces.now in
    let new = c.write_walked.new.progress in
    if_both c.write_walked.result _ _ _ (λ others more.
    subst (λ (n : ℕ). WritesOn g.W.Sink c.args.sink.now c.write_walked.new.sink c.args.counts.now c.write_walked.new.counts
    (Feeding (g.P.Pieces.holds c.args.pieces.now) c.args.progress.now (CoversOn a automaton rule c.args.progress.now c.args.from))
    (Feeding (g.P.Pieces.holds c.write_walked.new.pieces) new (CoversOn a automaton rule new n))) (at_end g d others)
    (writes_then c.loop-at.invariant.writes (rw c.loop-at.invariant.rule at (rw c.loop-at.invariant.same at more)))) c.write_walked.ensures.others c.write_walked.ensures.writes

pub returns-clause-begins : goal.returns-clause-begins
returns-clause-begins g c =
    if_err c.write_walked.result _ _
    (λ more. writes_then c.loop-at.invariant.writes
    (writes_still _ (IsBeginning c.args.progress.now.words (g.P.Pieces.rule c.args.pieces.now)) (λ p haystack written before. before)
    (λ p haystack written begins. subst (λ (w : Bool). IsBeginning w (g.P.Pieces.rule c.args.pieces.now) p haystack written) c.loop-at.invariant.bytes.words begins)
    (rw c.loop-at.invariant.rule at (rw c.loop-at.invariant.same at more)))) c.write_walked.ensures.begins
