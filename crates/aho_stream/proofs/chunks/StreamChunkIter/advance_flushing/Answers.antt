-- What each way out tells, and each turn of the loop.
use Rattle.std.proofs.Common.{◌≡◌, ◌≢◌, ◌++◌, ◌∙◌, ◌||◌, inl, inr, Bool, true, false, ap, refl, sym, subst, arith, append-nil, List, ℕ, length}
use Rattle.std.specs.Prelude.{Option, Some, None, Result, Ok, Err, IfSome, is_err}
use Rattle.std.proofs.KnownBytes.{Keeps-refl, Keeps-trans}
use Rattle.std.proofs.Math.Bool.{or-true}
use Rattle.aho_core.specs.declared.error.stream.StreamError.{StreamError}
use Rattle.aho_core.specs.Patterns.{Patterns}
use Rattle.aho_core.specs.declared.search.MatchKind.TheVariants.{Standard}
use Rattle.aho_devices.specs.Counts.{counted}
use Rattle.aho_stream.specs.After.{IsAfter, is_settled}
use Rattle.aho_stream.specs.Chunks.{DiesAt, TellsChunk, TellsNone, ends_between}
use Rattle.aho_stream.specs.declared.progress.StreamProgress.{StreamProgress}
use Rattle.aho_stream.specs.declared.progress.StreamPiece.{StreamPiece}
use Rattle.aho_stream.proofs.Advanced.{IsUntold, ReadsFilling, ReadsPromptly, advances, advances_filling, advances_from, all_told, counted_once, counted_same, end_told, error_told, not_before, of_limit, or_more, read_more, read_none, read_same}
use Rattle.aho_stream.proofs.Afters.{after_refilled, after_told}
use Rattle.aho_stream.proofs.Deaths.{lives}
use Rattle.aho_stream.proofs.Reported.{no_chunk_left, told_from}
use Rattle.aho_stream.proofs.Walks.{unsettled_none}
use Rattle.aho_stream.proofs.chunks.StreamChunkIter.advance_flushing.Given.{Over}
use Rattle.aho_stream.proofs.chunks.StreamChunkIter.advance_flushing.Goals.{After-next_piece, After-refill}
use Rattle.aho_stream.proofs.chunks.StreamChunkIter.advance_flushing.Goals as goal

-- how far the iterator has come, by its automaton
abbrev AfterOf : (g : Over) → g.row.A.Denot → Patterns → ℕ → StreamProgress → List ℕ → Type 0
AfterOf g automaton p lookups s given = IsAfter g.A.Automaton automaton p lookups s given

pub returns-then-self-clause-advances : goal.returns-then-self-clause-advances
returns-then-self-clause-advances g c =
    let automaton = c.args.self.now.walk.automaton.now in
    let s = c.args.self.now.progress in
    advances g.A.Automaton automaton _ _ s _ _ _ None refl
    (read_none g.A.Automaton automaton c.args.self.now.walk.work c.args.self.now.walk.work s _ _ refl refl (λ p given of a. after_told _ _ p _ s given a))
    (λ p given of a.
    let stopped = a.stopped c.if-self.true in
    end_told _ _ p _ s _ given a (λ why. elim why [ inl standard ↦ stopped.2 standard | inr ended ↦ cc ]) stopped.0 (record { told = refl; reported = refl; from = refl }) (inr c.if-self.true))

pub loop-piece-init : goal.loop-piece-init
loop-piece-init g c =
    let automaton = c.args.self.now.walk.automaton.now in
    let s = c.args.self.now.progress in
    let going : s.refused ≡ false = c.if-self.false in
    record {
      source = refl;
      same = refl;
      untold = record { told = refl; reported = refl; from = refl; limit = refl; unrefused = going; going = going };
      read = read_none g.A.Automaton automaton c.args.self.now.walk.work c.args.self.now.walk.work s _ _ refl refl (λ p given of a. after_told _ _ p _ s given a);
      ended = counted_same s.ended _;
      stays = λ e. e;
      unfailed = refl;
      kept = Keeps-refl (g.W.Sink.taken c.args.sink.now);
      writes = refl;
      empty_writes = refl;
    }

-- what was read before and after the next chunk was looked for
looked : (g : Over) (c : After-next_piece g)
    → ReadsPromptly g.A.Automaton c.args.self.now.walk.automaton.now c.args.self.now.walk.work c.next_piece.new.walk.work c.args.self.now.progress c.next_piece.new.progress (g.R.Source.remaining c.args.self.now.source.now) (g.R.Source.remaining c.loop-piece.self.source.now)
looked g c =
    let automaton = c.args.self.now.walk.automaton.now in
    read_same g.A.Automaton automaton _ _ _ _ c.loop-piece.self.progress _ _ _ c.next_piece.ensures.buffer c.next_piece.ensures.ended (λ p given of a. (rw c.loop-piece.invariant.same at c.next_piece.ensures.after) p given of a) c.loop-piece.invariant.read

pub returns-in-Some-clause-advances : goal.returns-in-Some-clause-advances
returns-in-Some-clause-advances g c =
    let automaton = c.args.self.now.walk.automaton.now in
    let s = c.args.self.now.progress in
    let inv = c.loop-piece.invariant in
    advances_from g.A.Automaton automaton _ _ _ s c.loop-piece.self.progress c.next_piece.new.progress _ _ (Some (Ok c.in-Some.piece)) refl c.next_piece.ensures.buffer c.next_piece.ensures.ended inv.read
    (λ p given of a. (rw inv.same at c.next_piece.ensures.after) p given of a)
    (λ p given of a. told_from p s c.loop-piece.self.progress c.next_piece.new.progress given c.in-Some.piece inv.untold.reported inv.untold.from
    (subst (λ (r : Option StreamPiece). IfSome r (TellsChunk p c.loop-piece.self.progress c.next_piece.new.progress given)) c.in-Some.is ((rw inv.same at c.next_piece.ensures.tells) p given of a)))

-- all was reported before the end, so no chunk is left
pub returns-in-Some-clause-after_end : goal.returns-in-Some-clause-after_end
returns-in-Some-clause-after_end g c ended all =
    let s = c.args.self.now.progress in
    let inv = c.loop-piece.invariant in
    let (p, given, of, a) = c.requires.after in
    let laws = g.met.A.Automaton.laws c.args.self.now.walk.automaton.now p of in
    let bytes = given ++ inv.read.reads.bytes in
    let same : bytes ≡ given = ap (λ (xs : List ℕ). given ++ xs) (inv.read.reads.closed ended) ∙ append-nil given in
    let tells = told_from p s c.loop-piece.self.progress c.next_piece.new.progress bytes c.in-Some.piece inv.untold.reported inv.untold.from
    (subst (λ (r : Option StreamPiece). IfSome r (TellsChunk p c.loop-piece.self.progress c.next_piece.new.progress bytes)) c.in-Some.is ((rw inv.same at c.next_piece.ensures.tells) p bytes of (inv.read.reads.is_after p given of a))) in
    absurd (no_chunk_left p (g.A.Automaton.lengths c.args.self.now.walk.automaton.now) laws.lengths_are a.no_empty s c.next_piece.new.progress bytes c.in-Some.piece tells (omega (arith, ap length same, a.count, all)))

pub returns-in-Some-clause-call : goal.returns-in-Some-clause-call
returns-in-Some-clause-call g c =
    let s = c.args.self.now.progress in
    let inv = c.loop-piece.invariant in
    let next = c.next_piece.ensures in
    record {
      same = next.same ∙ inv.same;
      same_source = inv.source;
      limit = next.limit ∙ inv.untold.limit;
      ended = inv.ended ∙ ap (λ (b : Bool). counted (ends_between s.ended b) (g.R.Source.empty_reads c.args.self.now.source.now)) (sym next.ended);
      stays_ended = λ e. next.ended ∙ inv.stays e;
      after_end = λ e all. let none = returns-in-Some-clause-after_end g c e all in cc;
      after_limit = λ r. let going = inv.untold.unrefused in cc;
      refused = next.refused ∙ inv.untold.going ∙ ap (λ (b : Bool). b || false) (sym inv.untold.unrefused);
      read_failed = inv.unfailed;
    }

-- where there is no chunk all was walked, and no match in hand is settled
all_walked : (g : Over) (c : After-next_piece g) → c.next_piece.result ≡ None
    → (is_settled (g.A.Automaton.kind c.args.self.now.walk.automaton.now) (g.A.Automaton.dead c.args.self.now.walk.automaton.now c.next_piece.new.progress.sid) c.next_piece.new.progress.in_hand ≡ false)
    × (c.next_piece.new.progress.walked ≡ c.next_piece.new.progress.read)
all_walked g c none = (rw c.loop-piece.invariant.same at c.next_piece.ensures.walked) none

-- nothing was told where there is no chunk
still_untold : (g : Over) (c : goal.After-next_piece g) → c.next_piece.result ≡ None → IsUntold c.args.self.now.progress c.next_piece.new.progress
still_untold g c none =
    let u = c.loop-piece.invariant.untold in
    let same = c.next_piece.ensures.none none in
    record {
      told = ap (λ (t : StreamProgress). t.told) same ∙ u.told;
      reported = ap (λ (t : StreamProgress). t.reported) same ∙ u.reported;
      from = ap (λ (t : StreamProgress). t.from) same ∙ u.from;
      limit = ap (λ (t : StreamProgress). t.limit) same ∙ u.limit;
      unrefused = u.unrefused;
      going = ap (λ (t : StreamProgress). t.refused) same ∙ u.going;
    }

pub returns-then-self-2-clause-advances : goal.returns-then-self-2-clause-advances
returns-then-self-2-clause-advances g c =
    let automaton = c.args.self.now.walk.automaton.now in
    let s = c.args.self.now.progress in
    let d = (goal.at.returns-then-self-2-clause-advances g c).After-next_piece in
    let none = c.in_default.is in
    let u = still_untold g d none in
    let walked = all_walked g d none in
    advances g.A.Automaton automaton _ _ s c.next_piece.new.progress _ _ None refl (looked g d)
    (λ p given of a. let end = c.next_piece.ensures.end none c.if-self-2.true in end_told _ _ p _ s c.next_piece.new.progress given a (λ why. end.1) walked.1 (record { told = u.told; reported = u.reported; from = u.from })
    (inl (c.if-self-2.true, end.0)))

-- what was read before and after a refill
refilled_read : (g : Over) (c : After-refill g) (failed : Bool) → (failed ≡ true → is_err c.refill.result ≡ true)
    → ReadsFilling g.A.Automaton c.args.self.now.walk.automaton.now c.args.self.now.walk.work c.next_piece.new.walk.work c.args.self.now.progress c.refill.new.self (g.R.Source.remaining c.args.self.now.source.now) (g.R.Source.remaining c.refill.new.source) failed
refilled_read g c failed fault =
    let automaton = c.args.self.now.walk.automaton.now in
    let none = c.in_default.is in
    let u = still_untold g (goal.at.After-refill g c).After-next_piece none in
    let walked = all_walked g (goal.at.After-refill g c).After-next_piece none in
    let refills = c.refill.ensures.refills in
    read_more g.A.Automaton automaton _ _ _ c.args.self.now.progress c.next_piece.new.progress c.refill.new.self _ _ _ failed refills
    (λ last. c.refill.ensures.one_read (or_more c.refill.new.self.ended failed (is_err c.refill.result) fault last))
    (not_before c.args.self.now.progress.ended (λ e. sym c.if-self-2.false ∙ c.next_piece.ensures.ended ∙ c.loop-piece.invariant.stays e))
    u.reported u.from c.requires.after
    (λ p given of a. all_told _ _ p (g.met.A.Automaton.laws _ p of) (λ word other sid. g.met.A.Automaton.alike _ p word other sid of) _ c.next_piece.new.progress given a walked.0 walked.1 (c.next_piece.ensures.near none) ((rw c.loop-piece.invariant.same at c.next_piece.ensures.start) none))
    (λ p given of a. after_refilled _ _ p _ c.next_piece.new.progress c.refill.new.self given _ _ refills a
    (λ standard. unsettled_none _ _ _ walked.0 ((g.met.A.Automaton.laws _ p of).kind_is ∙ standard)) walked.1 (u.told ∙ sym u.reported) (c.next_piece.ensures.near none) c.if-self-2.false
    (λ e. let limit = sym c.refill.ensures.refused ∙ e in (c.refill.ensures.limit limit, of_limit c.refill.result c.refill.ensures.open limit)))
    (looked g (goal.at.After-refill g c).After-next_piece)

-- at the limit nothing was read, so the state that is held has not died
lives_refilled : (g : Over) (c : After-refill g) (p : Patterns) (given : List ℕ) → g.A.Automaton.is_of c.args.self.now.walk.automaton.now p → AfterOf g c.args.self.now.walk.automaton.now p c.next_piece.new.walk.work c.refill.new.self given
    → p.kind ≢ Standard → c.next_piece.new.progress.read ≡ c.next_piece.new.progress.limit → (place : ℕ) → DiesAt p given c.refill.new.self.from place → ⊥
lives_refilled g c p given of a leftmost limit =
    let s = c.next_piece.new.progress in
    let walked = all_walked g (goal.at.After-refill g c).After-next_piece c.in_default.is in
    let refills = c.refill.ensures.refills in
    let others = refills.others in
    let sid : c.refill.new.self.sid ≡ s.sid = ap (λ (t : StreamProgress). t.sid) others in
    let in_hand : c.refill.new.self.in_hand ≡ s.in_hand = ap (λ (t : StreamProgress). t.in_hand) others in
    let place : c.refill.new.self.walked ≡ s.walked = ap (λ (t : StreamProgress). t.walked) others in
    lives (g.met.A.Automaton.laws _ p of) given c.refill.new.self.from c.refill.new.self.origin c.refill.new.self.walked c.refill.new.self.sid a.from_origin a.apart leftmost a.held_is c.refill.new.self.in_hand a.origin_walked
    (rw (sid, in_hand) (walked.0)) a.best_is (omega (arith, a.count, walked.1, place, limit, refills.count, refills.limited))

-- nothing is told by a refill
refilled_untold : (g : Over) (c : After-refill g) → TellsNone c.args.self.now.progress c.refill.new.self
refilled_untold g c =
    let u = still_untold g (goal.at.After-refill g c).After-next_piece c.in_default.is in
    let others = c.refill.ensures.refills.others in
    record {
      told = ap (λ (t : StreamProgress). t.told) others ∙ u.told;
      reported = ap (λ (t : StreamProgress). t.reported) others ∙ u.reported;
      from = ap (λ (t : StreamProgress). t.from) others ∙ u.from;
    }

pub returns-in-Err-clause-advances : goal.returns-in-Err-clause-advances
returns-in-Err-clause-advances g c =
    let automaton = c.args.self.now.walk.automaton.now in
    let s = c.args.self.now.progress in
    let t = c.next_piece.new.progress in
    let d = (goal.at.returns-in-Err-clause-advances g c).After-refill in
    let u = still_untold g (goal.at.returns-in-Err-clause-advances g c).After-next_piece c.in_default.is in
    let still = refilled_untold g d in
    let refills = c.refill.ensures.refills in
    let near = c.next_piece.ensures.near c.in_default.is in
    let reported : c.refill.new.self.reported ≡ t.reported = ap (λ (t : StreamProgress). t.reported) refills.others in
    let told : c.refill.new.self.told ≡ c.refill.new.self.reported = still.told ∙ sym still.reported in
    let failed : is_err c.refill.result ≡ true = ap (λ (r : Result (Unit {0}) StreamError). is_err r) c.in-Err.is in
    advances_filling g.A.Automaton automaton _ _ s c.refill.new.self _ _ (Some (Err c.in-Err.error)) (refilled_read g d true (λ e. failed))
    (λ p given of a. error_told p s c.refill.new.self given c.in-Err.error c.in-Err.ensures.only
    (record {
      still = still;
      near = omega (arith, a.count, c.refill.ensures.one_read (or_more c.refill.new.self.ended true (is_err c.refill.result) (λ e. failed) (or-true c.refill.new.self.ended)), near, reported, refills.least);
    })
    (λ e. (omega (arith, a.count, c.in-Err.ensures.limit e, refills.count, refills.limited, u.limit), c.in-Err.ensures.refused ∙ e)) u.unrefused
    (λ e leftmost. lives_refilled g d p given of a leftmost (c.in-Err.ensures.limit e)))

pub loop-piece-preserved : goal.loop-piece-preserved
loop-piece-preserved g c =
    let d = (goal.at.loop-piece-preserved g c).After-refill in
    let u = still_untold g (goal.at.loop-piece-preserved g c).After-next_piece c.in_default.is in
    let still = refilled_untold g d in
    let inv = c.loop-piece.invariant in
    let s = c.args.self.now.progress in
    let t = c.next_piece.new.progress in
    let going : s.ended ≡ false = not_before s.ended (λ e. sym c.if-self-2.false ∙ c.next_piece.ensures.ended ∙ inv.stays e) in
    record {
      source = inv.source;
      same = c.next_piece.ensures.same ∙ inv.same;
      untold = record { told = still.told; reported = still.reported; from = still.from; limit = ap (λ (t : StreamProgress). t.limit) c.refill.ensures.refills.others ∙ u.limit; unrefused = u.unrefused; going = c.in_default-refill.ensures.refused };
      read = let r = refilled_read g d false (λ e. cc) in record { reads = r.reads; prompt = inr r.fills };
      ended = c.refill.ensures.ended ∙ counted_once s.ended c.refill.new.self.ended (g.R.Source.empty_reads c.args.self.now.source.now) (g.R.Source.empty_reads c.loop-piece.self.source.now) going
          (inv.ended ∙ ap (λ (b : Bool). counted (ends_between s.ended b) (g.R.Source.empty_reads c.args.self.now.source.now)) (sym c.next_piece.ensures.ended ∙ c.if-self-2.false));
      stays = λ e. cc;
      unfailed = c.in_default-refill.ensures.read_failed ∙ inv.unfailed;
      kept = Keeps-trans (g.W.Sink.taken c.args.sink.now) (g.W.Sink.taken c.loop-piece.sink) _ inv.kept c.in_ok-flush.ensures.kept;
      writes = c.in_ok-flush.ensures.failures ∙ inv.writes;
      empty_writes = c.in_ok-flush.ensures.empty_writes ∙ inv.empty_writes;
    }
