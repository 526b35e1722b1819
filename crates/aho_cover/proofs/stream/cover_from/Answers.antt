-- One read after another.
use Rattle.std.proofs.Common.{◌≡◌, ℕ, ◌+◌, ◌*◌, ◌≤◌, ◌++◌, List, [], Bool, false, true, Ok, Err, refl, sym, ◌∙◌, ap, subst, arith}
use Rattle.aho_core.specs.Patterns.{Patterns}
use Rattle.aho_core.specs.declared.search.MatchKind.TheVariants.{Standard}
use Rattle.aho_devices.specs.Counts.{counted}
use Rattle.aho_cover.specs.declared.progress.CoverProgress.{CoverProgress}
use Rattle.aho_cover.specs.Counting.{no_output}
use Rattle.aho_cover.specs.Feeds.{Feeding}
use Rattle.aho_cover.specs.Hand.{room_in}
use Rattle.aho_cover.specs.Pieces.{PieceRule}
use Rattle.aho_cover.specs.Progress.{IsSoundCover, waiting, walk_end}
use Rattle.aho_cover.specs.Steps.{CanWalk, CoversOn, CoversToEnd, IsPrompt, MayRoll}
use Rattle.aho_cover.proofs.Copied.{nothing_between}
use Rattle.aho_cover.proofs.Going.{Going, begins_end, begins_more, begins_on, counts_all, counts_end, counts_more, counts_on, covers_all, covers_more, ends_here, err_passed, going_begins, going_counts, going_fed, going_first, going_kept, going_on, going_paid, paid_more, leaves_counts, leaves_ended, leaves_read, leaves_written, limit_more, upto_more}
use Rattle.aho_cover.proofs.Written.{if_err, if_ok}
use Rattle.aho_cover.proofs.stream.cover_from.Given.{Over}
use Rattle.aho_cover.proofs.stream.cover_from.Goals.{After-feed_first, Else-branch, In_ok-refill}
use Rattle.aho_cover.proofs.stream.cover_from.Goals as goal

pub loop-progress-init : goal.loop-progress-init
loop-progress-init g c =
    let unbegun = c.requires.unbegun in
    let s = c.args.progress.now in
    let rule = g.P.Pieces.rule c.args.pieces.now in
    let (p, of) = c.requires.some in
    let place : 0 ≡ walk_end s = omega (arith, unbegun.unread) in
    record {
      going = going_first g.A.Automaton g.R.Source g.W.Sink c.args.walk.now.automaton.now s.words rule c.args.source.now c.args.sink.now c.args.counts.now (g.P.Pieces.holds c.args.pieces.now) s c.requires.unfed unbegun.unfed unbegun.unread refl unbegun.unended (λ p haystack of. unbegun.covers p rule haystack of);
      rule = refl;
      sound = subst (IsSoundCover s) place unbegun.sound;
      near = λ place low bare. omega (arith, unbegun.unread);
      prompt = λ place low bare. omega (arith, unbegun.unread);
      can = record {
        standard = unbegun.standard;
        no_empty = unbegun.no_empty;
        is_state = unbegun.is_state;
        cheap = omega (arith, unbegun.shallow, c.requires.unwalked);
        stands = (
          p,
          [],
          no_output,
          (subst (λ (n : ℕ). CoversOn g.A.Automaton c.args.walk.now.automaton.now rule s n p [] no_output) place (unbegun.covers p rule [] of), subst (g.P.Pieces.holds c.args.pieces.now) (sym (nothing_between [] s.copied s.fed (omega (arith, unbegun.unfed)))) c.requires.unfed),
        );
      };
      own = c.requires.own;
      same = refl;
      room = record { least = refl; room = refl };
      reads = refl;
      writes = refl;
      empty_writes = refl;
    }

-- the sink was flushed, and the first run was fed
fed : (g : Over) (c : After-feed_first g)
    → Going g.A.Automaton g.R.Source g.W.Sink c.args.walk.now.automaton.now c.args.progress.now.words (g.P.Pieces.rule c.args.pieces.now) c.args.source.now c.args.sink.now c.args.counts.now (g.P.Pieces.holds c.feed_first.new.pieces) c.feed_first.new.self c.loop-progress.source c.flush.new.self c.loop-progress.counts
fed g c =
    let s = c.loop-progress.progress in
    let inv = c.loop-progress.invariant in
    let only = c.feed_first.ensures.only in
    let feeds = rw inv.rule at c.feed_first.ensures.feeds in
    going_fed _ _ _ _ _ _ _ _ _ (g.P.Pieces.holds c.feed_first.new.pieces) s c.feed_first.new.self only _ _ _ (going_kept _ _ _ _ _ _ _ _ _ _ _ _ _ _ inv.going c.in_ok-flush.ensures.kept) feeds

-- and the numbers then
sound_now : (g : Over) (c : After-feed_first g) → IsSoundCover c.feed_first.new.self (walk_end c.feed_first.new.self)
sound_now g c = subst (IsSoundCover c.feed_first.new.self) (sym (ap walk_end c.feed_first.ensures.only)) c.feed_first.ensures.sound

near_now : (g : Over) (c : After-feed_first g) → MayRoll c.feed_first.new.self
near_now g c = subst MayRoll (sym c.feed_first.ensures.only) c.loop-progress.invariant.near

prompt_now : (g : Over) (c : After-feed_first g) → IsPrompt g.A.Automaton c.args.walk.now.automaton.now c.feed_first.new.self
prompt_now g c = subst (IsPrompt g.A.Automaton c.args.walk.now.automaton.now) (sym c.feed_first.ensures.only) c.loop-progress.invariant.prompt

pub returns-in_err-flush-clause-leaves : goal.returns-in_err-flush-clause-leaves
returns-in_err-flush-clause-leaves g c =
    let inv = c.loop-progress.invariant in
    rw (err_passed c.from_residual.result c.in_err-flush.field-0.0 c.from_residual.ensures.1)
    (leaves_written _ _ _ _ _ _ _ _ _ _ c.in_err-flush.ensures.only (going_begins _ _ _ _ _ _ _ _ _ _ _ _ _ (going_kept _ _ _ _ _ _ _ _ _ _ _ _ _ _ inv.going c.in_err-flush.ensures.kept) inv.sound))

pub returns-in_err-refill-clause-leaves : goal.returns-in_err-refill-clause-leaves
returns-in_err-refill-clause-leaves g c =
    let d = (goal.at.returns-in_err-refill-clause-leaves g c).After-feed_first in
    let inv = c.loop-progress.invariant in
    let going = fed g d in
    let refilled = c.in_err-refill.ensures in
    let sound = sound_now g d in
    let near = near_now g d in
    let automaton = c.args.walk.now.automaton.now in
    let standard : (p : Patterns) → g.A.Automaton.is_of automaton p → p.kind ≡ Standard = λ p of. sym (g.met.A.Automaton.laws automaton p of).kind_is ∙ c.requires.unbegun.standard in
    rw (err_passed c.from_residual-in_err-refill.result c.in_err-refill.field-0.0 c.from_residual-in_err-refill.ensures.1)
    (leaves_read _ _ _ _ _ _ _ _ _ _ (begins_more _ _ _ _ _ _ _ _ _ _ _ _ _ _ _ going refilled.takes _ going.writes sound refilled.ended) (upto_more _ _ _ _ _ _ _ _ _ _ _ _ _ _ _ going refilled.takes _ going.writes sound near (prompt_now g d) standard (λ p word sid of held. g.met.A.Automaton.reaches automaton p word sid of held) refilled.fails refilled.ended)
    (λ met. limit_more _ _ _ _ _ _ _ _ _ _ _ _ _ _ _ going refilled.takes refilled.fails (refilled.limit met) refilled.ended))

pub returns-then-branch-clause-leaves : goal.returns-then-branch-clause-leaves
returns-then-branch-clause-leaves g c =
    let d = (goal.at.returns-then-branch-clause-leaves g c).After-feed_first in
    let going = fed g d in
    let refilled = c.in_ok-refill.ensures in
    let made = c.feed_first.ensures.rule ∙ c.loop-progress.invariant.rule in
    let ended : c.in_ok-refill.field-0 ≡ true = c.if-branch.true in
    let same = refilled.none (ap Ok ended) in
    let counts = subst (λ (b : Bool). g.R.Source.empty_reads c.refill.new.source ≡ counted b (g.R.Source.empty_reads c.loop-progress.source)) ended refilled.ended in
    leaves_ended _ _ _ _ _ _ _ _ _ c.walk_last.result c.walk_last.ensures.tells.only
    (if_ok c.walk_last.result _ _ (λ writes. covers_all _ _ _ _ _ _ _ _ _ _ _ _ _ _ _ going refilled.takes same counts _ _ writes) (rw c.walk_end-from.ensures.end at (rw made at (rw c.loop-progress.invariant.same at c.walk_last.ensures.covers))))
    (if_err c.walk_last.result _ _ (λ writes. begins_end _ _ _ _ _ _ _ _ _ _ _ _ _ _ _ going refilled.takes same counts _ _ writes) (rw c.walk_end-from.ensures.end at (rw made at (rw c.loop-progress.invariant.same at c.walk_last.ensures.begins))))

-- more was read, and the end was not seen
not_ended : (g : Over) (c : Else-branch g) → g.R.Source.empty_reads c.refill.new.source ≡ counted false (g.R.Source.empty_reads c.loop-progress.source)
not_ended g c = subst (λ (b : Bool). g.R.Source.empty_reads c.refill.new.source ≡ counted b (g.R.Source.empty_reads c.loop-progress.source)) c.if-branch.false c.in_ok-refill.ensures.ended

-- more may be walked
pub walk_read-requires-clause-sound : goal.walk_read-requires-clause-sound
walk_read-requires-clause-sound g c = subst (IsSoundCover c.refill.new.progress) (sym c.walk_end-from.ensures.end) c.in_ok-refill.ensures.sound

further : (g : Over) (c : In_ok-refill g) → c.walk_end-from.result ≤ walk_end c.refill.new.progress
further g c =
    omega (arith, c.walk_end-from.ensures.end, c.in_ok-refill.ensures.takes.count, ap (λ (t : CoverProgress). waiting t.words t.ended) c.in_ok-refill.ensures.takes.others)

pub walk_read-requires-clause-within : goal.walk_read-requires-clause-within
walk_read-requires-clause-within g c = further g (goal.at.walk_read-requires-clause-within g c).In_ok-refill

can_go : (g : Over) (c : In_ok-refill g) (d : After-feed_first g)
    → Going g.A.Automaton g.R.Source g.W.Sink c.args.walk.now.automaton.now c.args.progress.now.words (g.P.Pieces.rule c.args.pieces.now) c.args.source.now c.args.sink.now c.args.counts.now (g.P.Pieces.holds c.feed_first.new.pieces) c.feed_first.new.self c.loop-progress.source c.flush.new.self c.loop-progress.counts
    → CanWalk g.A.Automaton c.loop-progress.walk (g.P.Pieces.rule c.feed_first.new.pieces) (g.P.Pieces.holds c.feed_first.new.pieces) c.refill.new.progress c.walk_end-from.result
can_go g c d going =
    let a = g.A.Automaton in
    let inv = c.loop-progress.invariant in
    let s = c.feed_first.new.self in
    let next = c.refill.new.progress in
    let automaton = c.loop-progress.walk.automaton.now in
    let made = c.feed_first.ensures.rule ∙ inv.rule in
    let end : walk_end c.loop-progress.progress ≡ walk_end s = sym (ap walk_end c.feed_first.ensures.only) in
    let (p, of) = c.requires.some in
    let sid : c.loop-progress.progress.sid ≡ next.sid = sym (ap (λ (t : CoverProgress). t.sid) c.in_ok-refill.ensures.takes.others ∙ ap (λ (t : CoverProgress). t.sid) c.feed_first.ensures.only) in
    let given : List ℕ = (going.given ++ c.in_ok-refill.ensures.takes.bytes) ++ [] in
    subst (CanWalk a c.loop-progress.walk (g.P.Pieces.rule c.feed_first.new.pieces) (g.P.Pieces.holds c.feed_first.new.pieces) next) (sym c.walk_end-from.ensures.end)
    (record {
      standard = inv.can.standard;
      no_empty = inv.can.no_empty;
      is_state = subst (a.valid automaton) sid inv.can.is_state;
      cheap = subst (λ (n : ℕ). c.loop-progress.walk.work + a.depth automaton n ≤ 2 * walk_end s) sid (omega (arith, inv.can.cheap, end));
      stands = (
        p,
        given,
        going.written,
        subst (λ (rule : PieceRule). Feeding (g.P.Pieces.holds c.feed_first.new.pieces) next (CoversOn a automaton rule next (walk_end s)) p given going.written) (sym made)
            (subst (λ x. Feeding (g.P.Pieces.holds c.feed_first.new.pieces) next (CoversOn a x (g.P.Pieces.rule c.args.pieces.now) next (walk_end s)) p given going.written) (sym inv.same) (covers_more _ _ _ _ _ _ _ _ _ _ _ _ _ _ _ going c.in_ok-refill.ensures.takes p [] of)),
      );
    })

pub walk_read-requires-clause-can : goal.walk_read-requires-clause-can
walk_read-requires-clause-can g c =
    let d = (goal.at.walk_read-requires-clause-can g c).After-feed_first in
    can_go g (goal.at.walk_read-requires-clause-can g c).In_ok-refill d (fed g d)

-- and so at the end
pub walk_last-requires-clause-sound : goal.walk_last-requires-clause-sound
walk_last-requires-clause-sound g c = subst (IsSoundCover c.refill.new.progress) (sym c.walk_end-from.ensures.end) c.in_ok-refill.ensures.sound

pub walk_last-requires-clause-can : goal.walk_last-requires-clause-can
walk_last-requires-clause-can g c =
    let d = (goal.at.walk_last-requires-clause-can g c).After-feed_first in
    can_go g (goal.at.walk_last-requires-clause-can g c).In_ok-refill d (fed g d)

pub walk_last-requires-clause-some : goal.walk_last-requires-clause-some
walk_last-requires-clause-some g c =
    let d = (goal.at.walk_last-requires-clause-some g c).After-feed_first in
    let a = g.A.Automaton in
    let inv = c.loop-progress.invariant in
    let s = c.feed_first.new.self in
    let next = c.refill.new.progress in
    let holds = g.P.Pieces.holds c.feed_first.new.pieces in
    let made = c.feed_first.ensures.rule ∙ inv.rule in
    let going = fed g d in
    let (p, of) = c.requires.some in
    let given : List ℕ = going.given ++ c.in_ok-refill.ensures.takes.bytes in
    let ended : c.in_ok-refill.field-0 ≡ true = c.if-branch.true in
    let same = c.in_ok-refill.ensures.none (ap Ok ended) in
    let counts = subst (λ (b : Bool). g.R.Source.empty_reads c.refill.new.source ≡ counted b (g.R.Source.empty_reads c.loop-progress.source)) ended c.in_ok-refill.ensures.ended in (
      p,
      given,
      going.written,
      subst (λ (n : ℕ). CoversToEnd a c.loop-progress.walk.automaton.now (g.P.Pieces.rule c.feed_first.new.pieces) holds next n p given going.written) (sym c.walk_end-from.ensures.end)
          (subst (λ (rule : PieceRule). CoversToEnd a c.loop-progress.walk.automaton.now rule holds next (walk_end s) p given going.written) (sym made)
          (subst (λ x. CoversToEnd a x (g.P.Pieces.rule c.args.pieces.now) holds next (walk_end s) p given going.written) (sym inv.same) (ends_here _ _ _ _ _ _ _ _ _ _ _ _ _ _ _ going c.in_ok-refill.ensures.takes same counts p of))),
    )

pub loop-progress-preserved : goal.loop-progress-preserved
loop-progress-preserved g c =
    let d = (goal.at.loop-progress-preserved g c).After-feed_first in
    let e = (goal.at.loop-progress-preserved g c).Else-branch in
    let inv = c.loop-progress.invariant in
    let going = fed g d in
    let one = c.in_ok-walk_read.ensures in
    let refilled = c.in_ok-refill.ensures in
    record {
      going = going_on _ _ _ _ _ _ _ _ _ _ _ _ _ _ _ going refilled.takes _ _ _ (rw c.walk_end-from.ensures.end at (rw (c.feed_first.ensures.rule ∙ inv.rule) at (rw inv.same at one.writes))) one.bytes (not_ended g e);
      sound = one.sound;
      near = one.near;
      prompt = subst (λ x. IsPrompt g.A.Automaton x c.walk_read.new.progress) (one.same ∙ inv.same) one.prompt;
      can = one.can;
      rule = one.rule ∙ c.feed_first.ensures.rule ∙ inv.rule;
      room = record {
        least = one.room.least ∙ refilled.room.least ∙ ap (λ (s : CoverProgress). s.buffer.least) c.feed_first.ensures.only ∙ inv.room.least;
        room = one.room.room ∙ refilled.room.room ∙ ap (λ (s : CoverProgress). room_in s.hand) c.feed_first.ensures.only ∙ inv.room.room;
      };
      own = one.same ∙ inv.own;
      same = one.same ∙ inv.same;
      reads = refilled.read_failed ∙ inv.reads;
      writes = one.tells.write_failed ∙ c.in_ok-flush.ensures.failures ∙ inv.writes;
      empty_writes = one.tells.took_nothing ∙ c.in_ok-flush.ensures.empty_writes ∙ inv.empty_writes;
    }

pub returns-in_err-walk_read-clause-leaves : goal.returns-in_err-walk_read-clause-leaves
returns-in_err-walk_read-clause-leaves g c =
    let d = (goal.at.returns-in_err-walk_read-clause-leaves g c).After-feed_first in
    let e = (goal.at.returns-in_err-walk_read-clause-leaves g c).Else-branch in
    let inv = c.loop-progress.invariant in
    let going = fed g d in
    rw (err_passed c.from_residual-in_err-walk_read.result c.in_err-walk_read.field-0.0 c.from_residual-in_err-walk_read.ensures.1)
    (leaves_written _ _ _ _ _ _ _ _ _ _ c.in_err-walk_read.ensures.tells.only
    (begins_on _ _ _ _ _ _ _ _ _ _ _ _ _ _ _ going c.in_ok-refill.ensures.takes _ _ (rw c.walk_end-from.ensures.end at (rw (c.feed_first.ensures.rule ∙ inv.rule) at (rw inv.same at c.in_err-walk_read.ensures.begins))) (not_ended g e)))

pub returns-in_err-flush-clause-counted : goal.returns-in_err-flush-clause-counted
returns-in_err-flush-clause-counted g c =
    let inv = c.loop-progress.invariant in
    rw (err_passed c.from_residual.result c.in_err-flush.field-0.0 c.from_residual.ensures.1)
    (leaves_counts _ _ _ _ _ _ _ _ _ _ _ (Err c.in_err-flush.field-0.0) tt (going_counts _ _ _ _ _ _ _ _ _ _ _ _ _ (going_kept _ _ _ _ _ _ _ _ _ _ _ _ _ _ inv.going c.in_err-flush.ensures.kept) inv.sound))

pub returns-in_err-refill-clause-counted : goal.returns-in_err-refill-clause-counted
returns-in_err-refill-clause-counted g c =
    let d = (goal.at.returns-in_err-refill-clause-counted g c).After-feed_first in
    rw (err_passed c.from_residual-in_err-refill.result c.in_err-refill.field-0.0 c.from_residual-in_err-refill.ensures.1)
    (leaves_counts _ _ _ _ _ _ _ _ _ _ _ (Err c.in_err-refill.field-0.0) tt (counts_more _ _ _ _ _ _ _ _ _ _ _ _ _ _ _ (fed g d) c.in_err-refill.ensures.takes _ (fed g d).writes (sound_now g d) c.in_err-refill.ensures.ended))

pub returns-then-branch-clause-counted : goal.returns-then-branch-clause-counted
returns-then-branch-clause-counted g c =
    let d = (goal.at.returns-then-branch-clause-counted g c).After-feed_first in
    let going = fed g d in
    let refilled = c.in_ok-refill.ensures in
    let made = c.feed_first.ensures.rule ∙ c.loop-progress.invariant.rule in
    let ended : c.in_ok-refill.field-0 ≡ true = c.if-branch.true in
    let same = refilled.none (ap Ok ended) in
    let counts = subst (λ (b : Bool). g.R.Source.empty_reads c.refill.new.source ≡ counted b (g.R.Source.empty_reads c.loop-progress.source)) ended refilled.ended in
    leaves_counts _ _ _ _ _ _ _ _ _ _ _ c.walk_last.result
    (if_ok c.walk_last.result _ _ (λ writes. counts_all _ _ _ _ _ _ _ _ _ _ _ _ _ _ _ going refilled.takes same counts _ _ writes) (rw c.walk_end-from.ensures.end at (rw made at (rw c.loop-progress.invariant.same at c.walk_last.ensures.covers))))
    (if_err c.walk_last.result _ _ (λ writes. counts_end _ _ _ _ _ _ _ _ _ _ _ _ _ _ _ going refilled.takes same counts _ _ writes) (rw c.walk_end-from.ensures.end at (rw made at (rw c.loop-progress.invariant.same at c.walk_last.ensures.begins))))

pub returns-in_err-walk_read-clause-counted : goal.returns-in_err-walk_read-clause-counted
returns-in_err-walk_read-clause-counted g c =
    let d = (goal.at.returns-in_err-walk_read-clause-counted g c).After-feed_first in
    let e = (goal.at.returns-in_err-walk_read-clause-counted g c).Else-branch in
    rw (err_passed c.from_residual-in_err-walk_read.result c.in_err-walk_read.field-0.0 c.from_residual-in_err-walk_read.ensures.1)
    (leaves_counts _ _ _ _ _ _ _ _ _ _ _ (Err c.in_err-walk_read.field-0.0) tt
    (counts_on _ _ _ _ _ _ _ _ _ _ _ _ _ _ _ (fed g d) c.in_ok-refill.ensures.takes _ _ (rw c.walk_end-from.ensures.end at (rw (c.feed_first.ensures.rule ∙ c.loop-progress.invariant.rule) at (rw c.loop-progress.invariant.same at c.in_err-walk_read.ensures.begins))) (not_ended g e)))

-- the look-ups, by how it ended
pub returns-in_err-flush-clause-two_look_ups_a_byte : goal.returns-in_err-flush-clause-two_look_ups_a_byte
returns-in_err-flush-clause-two_look_ups_a_byte g c =
    let inv = c.loop-progress.invariant in
    going_paid _ _ _ _ _ _ _ _ _ _ _ _ _ inv.going c.loop-progress.walk.work (omega (arith, inv.can.cheap))

pub returns-in_err-refill-clause-two_look_ups_a_byte : goal.returns-in_err-refill-clause-two_look_ups_a_byte
returns-in_err-refill-clause-two_look_ups_a_byte g c =
    let d = (goal.at.returns-in_err-refill-clause-two_look_ups_a_byte g c).After-feed_first in
    let read = ap (λ (s : CoverProgress). s.read) c.feed_first.ensures.only in
    paid_more _ _ _ _ _ _ _ _ _ _ _ _ _ _ _ (fed g d) c.in_err-refill.ensures.takes false c.in_err-refill.ensures.ended c.loop-progress.walk.work (omega (arith, c.loop-progress.invariant.can.cheap, read, c.in_err-refill.ensures.fails))

pub returns-then-branch-clause-two_look_ups_a_byte : goal.returns-then-branch-clause-two_look_ups_a_byte
returns-then-branch-clause-two_look_ups_a_byte g c =
    let d = (goal.at.returns-then-branch-clause-two_look_ups_a_byte g c).After-feed_first in
    let refilled = c.in_ok-refill.ensures in
    paid_more _ _ _ _ _ _ _ _ _ _ _ _ _ _ _ (fed g d) refilled.takes c.in_ok-refill.field-0 refilled.ended c.walk_last.new.walk.work c.walk_last.ensures.cheap

pub returns-in_err-walk_read-clause-two_look_ups_a_byte : goal.returns-in_err-walk_read-clause-two_look_ups_a_byte
returns-in_err-walk_read-clause-two_look_ups_a_byte g c =
    let d = (goal.at.returns-in_err-walk_read-clause-two_look_ups_a_byte g c).After-feed_first in
    let e = (goal.at.returns-in_err-walk_read-clause-two_look_ups_a_byte g c).Else-branch in
    paid_more _ _ _ _ _ _ _ _ _ _ _ _ _ _ _ (fed g d) c.in_ok-refill.ensures.takes false (not_ended g e) c.walk_read.new.walk.work c.in_err-walk_read.ensures.cheap
