-- How the loop over the chunks begins, goes on and ends.
use Rattle.std.proofs.Common.{◌≡◌, ◌++◌, refl, ◌∙◌, ap, arith, Some}
use Rattle.aho_core.specs.Patterns.{Patterns}
use Rattle.aho_devices.specs.Counts.{counted}
use Rattle.aho_stream.proofs.Replacings.{begins_ahead, begins_chunk, begins_still, counts_read, counts_write, err_given, error_fills, going_first, going_kept, going_on, leaves_most, leaves_some, leaves_whole, less_room, limit_met, replaces_all, up_to_still}
use Rattle.aho_stream.proofs.replace.replace_chunks.Goals as goal

pub loop-answer-init : goal.loop-answer-init
loop-answer-init g c =
    let s = c.args.chunks.now.progress in
    let after = c.requires.after c.requires.some.0 c.requires.some.1 in
    let from : s.from ≡ 0 = omega (arith, after.from_reported, after.reported_walked, after.walked_read, after.count) in
    let reported : s.reported ≡ 0 = omega (arith, after.reported_walked, after.walked_read, after.count) in
    record {
      going = going_first _ _ _ _ _ _ _ _ s c.requires.open from reported c.requires.after;
      source = refl;
      same = refl;
      limit = refl;
      below = c.requires.below;
      reads = refl;
      writes = refl;
      empty_writes = refl;
    }

pub loop-answer-preserved : goal.loop-answer-preserved
loop-answer-preserved g c =
    let inv = c.loop-answer.invariant in
    let automaton = c.args.chunks.now.walk.automaton.now in
    let are = λ (p : Patterns) (of : g.A.Automaton.is_of automaton p). (g.met.A.Automaton.laws automaton p of).lengths_are in
    let (p, of) = c.requires.some in
    let advance = rw inv.same at c.in_ok-answer.ensures.advances in
    let going = going_kept _ _ _ _ _ _ _ _ _ _ _ _ inv.going c.in_ok-answer.ensures.kept in
    let same = c.in_ok-answer.ensures.call.same ∙ inv.same in
    let given = going.given ++ advance.reads.bytes in
    let bytes = (rw same at c.bytes.ensures.bytes) p given of (advance.reads.is_after p going.given of (going.after p of)) in
    let wrote = rw (c.bytes_for-bytes.ensures.bytes, bytes) at c.in_ok-write_whole.ensures.whole in
    record {
      going = going_on _ _ _ _ _ _ _ are _ _ _ _ _ _ _ _ going advance c.in_ok-answer.ensures.call.ended c.in_ok-answer.ensures.call.stays_ended c.in_ok-piece.piece (c.in-Some.is ∙ ap Some c.in_ok-piece.was) _ wrote;
      source = c.in_ok-answer.ensures.call.same_source ∙ inv.source;
      same = same;
      limit = c.in_ok-answer.ensures.call.limit ∙ inv.limit;
      below = rw (c.in-Some.is, c.in_ok-piece.was, inv.below) at c.in_ok-answer.ensures.call.refused;
      reads = (rw (c.in-Some.is, c.in_ok-piece.was) at c.in_ok-answer.ensures.call.read_failed) ∙ inv.reads;
      writes = c.in_ok-write_whole.ensures.write_failed ∙ c.in_ok-answer.ensures.write_failed ∙ inv.writes;
      empty_writes = c.in_ok-write_whole.ensures.took_nothing ∙ c.in_ok-answer.ensures.took_nothing ∙ inv.empty_writes;
    }

pub loop-answer-smaller : goal.loop-answer-smaller
loop-answer-smaller g c =
    let inv = c.loop-answer.invariant in
    let automaton = c.args.chunks.now.walk.automaton.now in
    let are = λ (p : Patterns) (of : g.A.Automaton.is_of automaton p). (g.met.A.Automaton.laws automaton p of).lengths_are in
    let (p, of) = c.requires.some in
    let advance = rw inv.same at c.in_ok-answer.ensures.advances in
    let going = going_kept _ _ _ _ _ _ _ _ _ _ _ _ inv.going c.in_ok-answer.ensures.kept in
    less_room _ _ _ _ _ _ _ are _ _ _ _ _ _ _ _ going advance c.in_ok-answer.ensures.call.ended c.in_ok-answer.ensures.call.stays_ended c.in_ok-piece.piece (c.in-Some.is ∙ ap Some c.in_ok-piece.was) p of c.in_ok-answer.ensures.call.limit

pub returns-in_err-answer-clause-leaves : goal.returns-in_err-answer-clause-leaves
returns-in_err-answer-clause-leaves g c =
    let inv = c.loop-answer.invariant in
    let automaton = c.args.chunks.now.walk.automaton.now in
    let are = λ (p : Patterns) (of : g.A.Automaton.is_of automaton p). (g.met.A.Automaton.laws automaton p of).lengths_are in
    let reads = rw inv.same at c.in_err-answer.ensures.reads in
    let going = going_kept _ _ _ _ _ _ _ _ _ _ _ _ inv.going c.in_err-answer.ensures.kept in
    rw (err_given c.from_residual.result c.in_err-answer.field-0.0 c.from_residual.ensures.1)
    (leaves_some _ _ _ _ _ _ _ _ _ _ c.in_err-answer.ensures.only
    (begins_ahead _ _ _ _ _ _ _ are _ _ _ _ _ _ _ going reads.reads c.in_err-answer.ensures.fails.ended c.in_err-answer.ensures.fails.stays_ended))

pub returns-in_err-answer-clause-errors : goal.returns-in_err-answer-clause-errors
returns-in_err-answer-clause-errors g c =
    let inv = c.loop-answer.invariant in
    let flushed = c.in_err-answer.ensures in
    rw (err_given c.from_residual.result c.in_err-answer.field-0.0 c.from_residual.ensures.1)
    (counts_write _ _ _ _ _ _ _ flushed.only (flushed.fails.read_failed ∙ inv.reads) (flushed.write_failed ∙ ap (counted _) inv.writes) (flushed.took_nothing ∙ ap (counted _) inv.empty_writes))

pub returns-in_err-piece-clause-leaves : goal.returns-in_err-piece-clause-leaves
returns-in_err-piece-clause-leaves g c =
    let inv = c.loop-answer.invariant in
    let automaton = c.args.chunks.now.walk.automaton.now in
    let are = λ (p : Patterns) (of : g.A.Automaton.is_of automaton p). (g.met.A.Automaton.laws automaton p of).lengths_are in
    let (p, of) = c.requires.some in
    let advance = rw inv.same at c.in_ok-answer.ensures.advances in
    let going = going_kept _ _ _ _ _ _ _ _ _ _ _ _ inv.going c.in_ok-answer.ensures.kept in
    let is = c.in-Some.is ∙ ap Some c.in_err-piece.was in
    rw (err_given c.from_residual-in_err-piece.result c.in_err-piece.field-0.0 c.from_residual-in_err-piece.ensures.1, ← inv.limit)
    (leaves_most _ _ _ _ _ _ _ _ _ _
    (begins_still _ _ _ _ _ _ _ are _ _ _ _ _ _ _ _ going advance c.in_ok-answer.ensures.call.ended c.in_ok-answer.ensures.call.stays_ended c.in_err-piece.field-0.0 is p of)
    (up_to_still _ _ _ _ _ _ _ are _ _ _ _ _ _ _ _ going advance c.in_ok-answer.ensures.call.ended c.in_ok-answer.ensures.call.stays_ended c.in_err-piece.field-0.0 is p of)
    (limit_met _ _ _ _ _ _ _ are _ _ _ _ _ _ _ _ going advance c.in_ok-answer.ensures.call.ended c.in_ok-answer.ensures.call.stays_ended c.in_err-piece.field-0.0 is p of))

pub returns-in_err-piece-clause-errors : goal.returns-in_err-piece-clause-errors
returns-in_err-piece-clause-errors g c =
    let inv = c.loop-answer.invariant in
    let automaton = c.args.chunks.now.walk.automaton.now in
    let are = λ (p : Patterns) (of : g.A.Automaton.is_of automaton p). (g.met.A.Automaton.laws automaton p of).lengths_are in
    let (p, of) = c.requires.some in
    let advance = rw inv.same at c.in_ok-answer.ensures.advances in
    let going = going_kept _ _ _ _ _ _ _ _ _ _ _ _ inv.going c.in_ok-answer.ensures.kept in
    let is = c.in-Some.is ∙ ap Some c.in_err-piece.was in
    let told = c.in_ok-answer.ensures in
    rw (err_given c.from_residual-in_err-piece.result c.in_err-piece.field-0.0 c.from_residual-in_err-piece.ensures.1)
    (counts_read _ _ _ _ _ _ _
    (error_fills _ _ _ _ _ _ _ are _ _ _ _ _ _ _ _ going advance c.in_ok-answer.ensures.call.ended c.in_ok-answer.ensures.call.stays_ended c.in_err-piece.field-0.0 is p of)
    ((rw (c.in-Some.is, c.in_err-piece.was) at told.call.read_failed) ∙ ap (counted _) inv.reads) (told.write_failed ∙ inv.writes) (told.took_nothing ∙ inv.empty_writes))

pub returns-in_err-write_whole-clause-leaves : goal.returns-in_err-write_whole-clause-leaves
returns-in_err-write_whole-clause-leaves g c =
    let inv = c.loop-answer.invariant in
    let automaton = c.args.chunks.now.walk.automaton.now in
    let are = λ (p : Patterns) (of : g.A.Automaton.is_of automaton p). (g.met.A.Automaton.laws automaton p of).lengths_are in
    let (p, of) = c.requires.some in
    let advance = rw inv.same at c.in_ok-answer.ensures.advances in
    let going = going_kept _ _ _ _ _ _ _ _ _ _ _ _ inv.going c.in_ok-answer.ensures.kept in
    let same = c.in_ok-answer.ensures.call.same ∙ inv.same in
    let given = going.given ++ advance.reads.bytes in
    let bytes = (rw same at c.bytes.ensures.bytes) p given of (advance.reads.is_after p going.given of (going.after p of)) in
    let wrote = rw (c.bytes_for-bytes.ensures.bytes, bytes) at c.in_err-write_whole.ensures.beginning in
    rw (err_given c.from_residual-in_err-write_whole.result c.in_err-write_whole.field-0.0 c.from_residual-in_err-write_whole.ensures.1)
    (leaves_some _ _ _ _ _ _ _ _ _ _ c.in_err-write_whole.ensures.only
    (begins_chunk _ _ _ _ _ _ _ are _ _ _ _ _ _ _ _ going advance c.in_ok-answer.ensures.call.ended c.in_ok-answer.ensures.call.stays_ended c.in_ok-piece.piece (c.in-Some.is ∙ ap Some c.in_ok-piece.was) _ wrote))

pub returns-in_err-write_whole-clause-errors : goal.returns-in_err-write_whole-clause-errors
returns-in_err-write_whole-clause-errors g c =
    let inv = c.loop-answer.invariant in
    let told = c.in_ok-answer.ensures in
    let wrote = c.in_err-write_whole.ensures in
    rw (err_given c.from_residual-in_err-write_whole.result c.in_err-write_whole.field-0.0 c.from_residual-in_err-write_whole.ensures.1)
    (counts_write _ _ _ _ _ _ _ wrote.only ((rw (c.in-Some.is, c.in_ok-piece.was) at told.call.read_failed) ∙ inv.reads)
    (wrote.write_failed ∙ ap (counted _) (told.write_failed ∙ inv.writes)) (wrote.took_nothing ∙ ap (counted _) (told.took_nothing ∙ inv.empty_writes)))

pub returns-clause-leaves : goal.returns-clause-leaves
returns-clause-leaves g c =
    let inv = c.loop-answer.invariant in
    let automaton = c.args.chunks.now.walk.automaton.now in
    let are = λ (p : Patterns) (of : g.A.Automaton.is_of automaton p). (g.met.A.Automaton.laws automaton p of).lengths_are in
    let (p, of) = c.requires.some in
    let advance = rw inv.same at c.in_ok-answer.ensures.advances in
    let going = going_kept _ _ _ _ _ _ _ _ _ _ _ _ inv.going c.in_ok-answer.ensures.kept in
    leaves_whole _ _ _ _ _ _ _ _ _
    (replaces_all _ _ _ _ _ _ _ are _ _ _ _ _ _ _ _ going advance c.in_ok-answer.ensures.call.ended c.in_ok-answer.ensures.call.stays_ended c.in_default.is inv.below p of)

pub returns-clause-errors : goal.returns-clause-errors
returns-clause-errors g c =
    let inv = c.loop-answer.invariant in
    let told = c.in_ok-answer.ensures in
    record {
      read_failed = (rw c.in_default.is at told.call.read_failed) ∙ inv.reads;
      write_failed = told.write_failed ∙ inv.writes;
      took_nothing = told.took_nothing ∙ inv.empty_writes;
    }
