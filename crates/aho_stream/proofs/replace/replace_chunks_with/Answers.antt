-- How the loop over the chunks begins, goes on and ends.
use Rattle.std.proofs.Common.{rules, of_calls, ◌≡◌, ◌++◌, refl, ◌∙◌, ap, subst, arith, Some, None, Ok}
use Rattle.aho_core.specs.ClosureRun.{CalledOn}
use Rattle.aho_core.specs.Patterns.{Patterns}
use Rattle.aho_devices.specs.Counts.{counted}
use Rattle.aho_stream.specs.Chunks.{tells_read_fault}
use Rattle.aho_stream.specs.declared.progress.StreamPiece.{StreamPiece}
use Rattle.aho_stream.proofs.Replacings.{err_given}
use Rattle.aho_stream.proofs.Runnings.{less_run, over_end, over_error, over_refusal, over_write, running_first, running_match, running_plain}
use Rattle.aho_stream.proofs.StreamRuns.{Took}
use Rattle.aho_stream.proofs.replace.replace_chunks_with.Goals as goal

pub loop-answer-init : goal.loop-answer-init
loop-answer-init g c =
    let s = c.args.chunks.now.progress in
    let after = c.requires.after c.requires.some.0 c.requires.some.1 in
    let from : s.from ≡ 0 = omega (arith, after.from_reported, after.reported_walked, after.walked_read, after.count) in
    let reported : s.reported ≡ 0 = omega (arith, after.reported_walked, after.walked_read, after.count) in
    record {
      callable = c.requires.callable;
      running = running_first _ _ _ _ _ _ _ _ _ s c.requires.open from reported c.requires.after;
      source = refl;
      same = refl;
      limit = refl;
      below = c.requires.below;
      reads = refl;
    }

pub loop-answer-preserved-in-Continue-branch-3 : goal.loop-answer-preserved-in-Continue-branch-3
loop-answer-preserved-in-Continue-branch-3 g c =
    let inv = c.loop-answer.invariant in
    let automaton = c.args.chunks.now.walk.automaton.now in
    let are = λ (p : Patterns) (of : g.A.Automaton.is_of automaton p). (g.met.A.Automaton.laws automaton p of).lengths_are in
    let (p, of) = c.requires.some in
    let advance = rw inv.same at c.in-Some.ensures.advances in
    let same = c.in-Some.ensures.call.same ∙ inv.same in
    let given = inv.running.given ++ advance.reads.bytes in
    let bytes = (rw same at c.bytes.ensures.bytes) p given of (advance.reads.is_after p inv.running.given of (inv.running.after p of)) in
    let wrote = c.in_ok-write_whole-in-NonMatch.ensures in
    let took : Took g.W.Sink g.F.FnMut c.args.replace_with.now c.args.sink.now c.loop-answer.sink c.bytes.result.now c.write_whole.new.sink =
    record { bytes_are = wrote.whole; no_failure = wrote.write_failed; no_empty_write = wrote.took_nothing } in
    record {
      callable = inv.callable;
      running = running_plain _ _ _ _ _ _ _ _ are _ _ _ _ _ _ _ _ _ inv.running advance c.in-Some.ensures.call.ended c.in-Some.ensures.call.stays_ended _ (ap Some (c.in_ok-answer.was ∙ ap Ok c.in-NonMatch.is)) (rw bytes at took);
      source = c.in-Some.ensures.call.same_source ∙ inv.source;
      same = same;
      limit = c.in-Some.ensures.call.limit ∙ inv.limit;
      below = rw (c.in_ok-answer.was, inv.below) at c.in-Some.ensures.call.refused;
      reads = (rw c.in_ok-answer.was at c.in-Some.ensures.call.read_failed) ∙ inv.reads;
    }

pub loop-answer-preserved : goal.loop-answer-preserved
loop-answer-preserved g c =
    let inv = c.loop-answer.invariant in
    let automaton = c.args.chunks.now.walk.automaton.now in
    let are = λ (p : Patterns) (of : g.A.Automaton.is_of automaton p). (g.met.A.Automaton.laws automaton p of).lengths_are in
    let (p, of) = c.requires.some in
    let advance = rw inv.same at c.in-Some.ensures.advances in
    let same = c.in-Some.ensures.call.same ∙ inv.same in
    let given = inv.running.given ++ advance.reads.bytes in
    let bytes = (rw same at c.bytes-in-Match.ensures.bytes) p given of (advance.reads.is_after p inv.running.given of (inv.running.after p of)) in
    let called : CalledOn g.F.FnMut c.loop-answer.replace_with c.in-Match.mat c.bytes-in-Match.result.now c.loop-answer.sink c.replace_with.result c.replace_with.new.self c.replace_with.new.arg4 =
    record { found = _; bytes = _; lent = _; left = _; shows = (refl, refl, refl, refl); called = c.replace_with.ensures } in
    let called_on = subst (λ r. CalledOn g.F.FnMut c.loop-answer.replace_with c.in-Match.mat c.bytes-in-Match.result.now c.loop-answer.sink r c.replace_with.new.self c.replace_with.new.arg4) c.in_ok-replace_with-in-Match.was called in
    record {
      callable = search (rules, of_calls);
      running = running_match _ _ _ _ _ _ _ _ are _ _ _ _ _ _ _ _ _ inv.running advance c.in-Some.ensures.call.ended c.in-Some.ensures.call.stays_ended _ _ _ (ap Some (c.in_ok-answer.was ∙ ap Ok c.in-Match.is)) (rw bytes at called_on);
      source = c.in-Some.ensures.call.same_source ∙ inv.source;
      same = same;
      limit = c.in-Some.ensures.call.limit ∙ inv.limit;
      below = rw (c.in_ok-answer.was, inv.below) at c.in-Some.ensures.call.refused;
      reads = (rw c.in_ok-answer.was at c.in-Some.ensures.call.read_failed) ∙ inv.reads;
    }

pub loop-answer-smaller : goal.loop-answer-smaller
loop-answer-smaller g c =
    let inv = c.loop-answer.invariant in
    let automaton = c.args.chunks.now.walk.automaton.now in
    let are = λ (p : Patterns) (of : g.A.Automaton.is_of automaton p). (g.met.A.Automaton.laws automaton p of).lengths_are in
    let (p, of) = c.requires.some in
    let advance = rw inv.same at c.in-Some.ensures.advances in
    less_run _ _ _ _ _ _ _ _ are _ _ _ _ _ _ _ _ _ inv.running advance c.in-Some.ensures.call.ended c.in-Some.ensures.call.stays_ended p of _ (ap Some (c.in_ok-answer.was ∙ ap Ok c.in-Match.is)) c.in-Some.ensures.call.limit

pub returns-in_err-answer-clause-runs : goal.returns-in_err-answer-clause-runs
returns-in_err-answer-clause-runs g c =
    let inv = c.loop-answer.invariant in
    let automaton = c.args.chunks.now.walk.automaton.now in
    let are = λ (p : Patterns) (of : g.A.Automaton.is_of automaton p). (g.met.A.Automaton.laws automaton p of).lengths_are in
    let (p, of) = c.requires.some in
    let advance = rw inv.same at c.in-Some.ensures.advances in
    let fails = c.in-Some.ensures.call.read_failed ∙ ap (counted (tells_read_fault (Some c.in-Some.answer))) inv.reads in
    rw (err_given c.from_residual.result c.in_err-answer.field-0.0 c.from_residual.ensures.1)
    (over_error _ _ _ _ _ _ _ _ are _ _ _ _ _ _ _ _ _ inv.running advance c.in-Some.ensures.call.ended c.in-Some.ensures.call.stays_ended fails c.in_err-answer.field-0.0 (ap Some c.in_err-answer.was) p of (inv.limit ∙ c.requires.limit))

pub returns-in_err-write_whole-in-NonMatch-clause-runs : goal.returns-in_err-write_whole-in-NonMatch-clause-runs
returns-in_err-write_whole-in-NonMatch-clause-runs g c =
    let inv = c.loop-answer.invariant in
    let automaton = c.args.chunks.now.walk.automaton.now in
    let are = λ (p : Patterns) (of : g.A.Automaton.is_of automaton p). (g.met.A.Automaton.laws automaton p of).lengths_are in
    let (p, of) = c.requires.some in
    let advance = rw inv.same at c.in-Some.ensures.advances in
    let same = c.in-Some.ensures.call.same ∙ inv.same in
    let given = inv.running.given ++ advance.reads.bytes in
    let bytes = (rw same at c.bytes.ensures.bytes) p given of (advance.reads.is_after p inv.running.given of (inv.running.after p of)) in
    let fails = c.in-Some.ensures.call.read_failed ∙ ap (counted (tells_read_fault (Some c.in-Some.answer))) inv.reads in
    let wrote = c.in_err-write_whole-in-NonMatch.ensures in
    rw (err_given c.from_residual-in_err-write_whole-in-NonMatch.result c.in_err-write_whole-in-NonMatch.field-0.0 c.from_residual-in_err-write_whole-in-NonMatch.ensures.1)
    (over_write _ _ _ _ _ _ _ _ are _ _ _ _ _ _ _ _ _ inv.running advance c.in-Some.ensures.call.ended c.in-Some.ensures.call.stays_ended fails (ap Some (c.in_ok-answer.was ∙ ap Ok c.in-NonMatch.is)) _ _ (rw bytes at wrote.beginning) wrote.write_failed wrote.took_nothing wrote.only)

pub returns-in_err-replace_with-in-Match-clause-runs : goal.returns-in_err-replace_with-in-Match-clause-runs
returns-in_err-replace_with-in-Match-clause-runs g c =
    let inv = c.loop-answer.invariant in
    let automaton = c.args.chunks.now.walk.automaton.now in
    let are = λ (p : Patterns) (of : g.A.Automaton.is_of automaton p). (g.met.A.Automaton.laws automaton p of).lengths_are in
    let (p, of) = c.requires.some in
    let advance = rw inv.same at c.in-Some.ensures.advances in
    let same = c.in-Some.ensures.call.same ∙ inv.same in
    let given = inv.running.given ++ advance.reads.bytes in
    let bytes = (rw same at c.bytes-in-Match.ensures.bytes) p given of (advance.reads.is_after p inv.running.given of (inv.running.after p of)) in
    let fails = c.in-Some.ensures.call.read_failed ∙ ap (counted (tells_read_fault (Some c.in-Some.answer))) inv.reads in
    let called : CalledOn g.F.FnMut c.loop-answer.replace_with c.in-Match.mat c.bytes-in-Match.result.now c.loop-answer.sink c.replace_with.result c.replace_with.new.self c.replace_with.new.arg4 =
    record { found = _; bytes = _; lent = _; left = _; shows = (refl, refl, refl, refl); called = c.replace_with.ensures } in
    let called_on = subst (λ r. CalledOn g.F.FnMut c.loop-answer.replace_with c.in-Match.mat c.bytes-in-Match.result.now c.loop-answer.sink r c.replace_with.new.self c.replace_with.new.arg4) c.in_err-replace_with-in-Match.was called in
    rw (err_given c.from_residual-in_err-replace_with-in-Match.result c.in_err-replace_with-in-Match.field-0.0 c.from_residual-in_err-replace_with-in-Match.ensures.1)
    (over_refusal _ _ _ _ _ _ _ _ are _ _ _ _ _ _ _ _ _ inv.running advance c.in-Some.ensures.call.ended c.in-Some.ensures.call.stays_ended fails _ (ap Some (c.in_ok-answer.was ∙ ap Ok c.in-Match.is)) _ _ _ (rw bytes at called_on))

pub returns-clause-runs : goal.returns-clause-runs
returns-clause-runs g c =
    let inv = c.loop-answer.invariant in
    let automaton = c.args.chunks.now.walk.automaton.now in
    let are = λ (p : Patterns) (of : g.A.Automaton.is_of automaton p). (g.met.A.Automaton.laws automaton p of).lengths_are in
    let (p, of) = c.requires.some in
    let advance = rw inv.same at c.in_default.ensures.advances in
    let fails = c.in_default.ensures.call.read_failed ∙ ap (counted (tells_read_fault {A = StreamPiece} None)) inv.reads in
    over_end _ _ _ _ _ _ _ _ are _ _ _ _ _ _ _ _ _ inv.running advance c.in_default.ensures.call.ended c.in_default.ensures.call.stays_ended fails refl inv.below p of
