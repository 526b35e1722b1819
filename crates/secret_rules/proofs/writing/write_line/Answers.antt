use Rattle.std.proofs.Common.{◌≡◌, ◌≤◌, ◌<◌, ◌+◌, ◌-◌, ◌∷◌, ◌++◌, List, ℕ, drop, get_or, length, take, sym, ◌∙◌, ap, subst, arith}
use Rattle.std.proofs.lemmas.List.{drop_all, drop_more, length-drop, take_all}
use Rattle.aho_core.specs.Occurrence.{Occurrence}
use Rattle.aho_devices.specs.Counts.{AppendsBeginning}
use Rattle.aho_cover.proofs.Written.{if_err, on_err}
use Rattle.aho_cover.specs.Pieces.{piece_in}
use Rattle.secret_rules.specs.Writing.{LieFrom}
use Rattle.secret_rules.proofs.WrittenLines.{HasWritten, lie-within, written-end, written-more, written-part}
use Rattle.secret_rules.proofs.writing.write_line.Goals as goal

-- a run at its number, and those behind it
run-here : (runs : List Occurrence) (i : ℕ) (run : Occurrence) → i < length runs → run ≡ get_or runs i run → drop i runs ≡ run ∷ drop (i + 1) runs
run-here runs i run within is = drop_more runs i run within ∙ ap (λ (x : Occurrence). x ∷ drop (i + 1) runs) (sym is)

lies-here : (line : List ℕ) (at : ℕ) (runs : List Occurrence) (i : ℕ) (run : Occurrence) → i < length runs → run ≡ get_or runs i run → LieFrom line at (drop i runs)
    → (at ≤ run.start) × (run.start ≤ run.end) × LieFrom line run.end (drop (i + 1) runs)
lies-here line at runs i run within is lie = subst (LieFrom line at) (run-here runs i run within is) lie

pub write_run-requires-clause-within : goal.write_run-requires-clause-within
write_run-requires-clause-within g c =
    lie-within c.args.line.now c.run-item.result.end (drop (c.loop-run.run-index + 1) c.args.runs.now)
    (lies-here c.args.line.now c.loop-run.at c.args.runs.now c.loop-run.run-index c.run-item.result (omega arith) c.run-item.is c.loop-run.invariant.lie).2

pub write_run-requires-clause-ordered : goal.write_run-requires-clause-ordered
write_run-requires-clause-ordered g c =
    (lies-here c.args.line.now c.loop-run.at c.args.runs.now c.loop-run.run-index c.run-item.result (omega arith) c.run-item.is c.loop-run.invariant.lie).1

pub returns-in_err-write_run-clause-beginning : goal.returns-in_err-write_run-clause-beginning
returns-in_err-write_run-clause-beginning g c =
    let piece = piece_in (g.P.Pieces.rule c.args.pieces.now) c.args.line.now in
    let run = c.run-item.result in
    let left = drop (c.loop-run.run-index + 1) c.args.runs.now in
    let written = subst (λ (rs : List Occurrence). HasWritten (g.W.Sink.taken c.args.sink.now) (g.W.Sink.taken c.loop-run.sink) c.args.line.now piece c.args.runs.now c.loop-run.at rs)
    (run-here c.args.runs.now c.loop-run.run-index run (omega arith) c.run-item.is) c.loop-run.invariant.written in
    on_err c.from_residual.result _ (written-part (g.W.Sink.taken c.args.sink.now) (g.W.Sink.taken c.loop-run.sink) (g.W.Sink.taken c.write_run.new.sink) c.args.line.now piece c.args.runs.now c.loop-run.at run left written c.args.end.now
    (rw c.loop-run.invariant.rule at c.in_err-write_run.ensures.beginning))

pub loop-run-preserved : goal.loop-run-preserved
loop-run-preserved g c =
    let piece = piece_in (g.P.Pieces.rule c.args.pieces.now) c.args.line.now in
    let run = c.run-item.result in
    let left = drop (c.loop-run.run-index + 1) c.args.runs.now in
    let written = subst (λ (rs : List Occurrence). HasWritten (g.W.Sink.taken c.args.sink.now) (g.W.Sink.taken c.loop-run.sink) c.args.line.now piece c.args.runs.now c.loop-run.at rs)
    (run-here c.args.runs.now c.loop-run.run-index run (omega arith) c.run-item.is) c.loop-run.invariant.written in
    record {
      rule = c.in_ok-write_run.ensures.rule ∙ c.loop-run.invariant.rule;
      lie = subst (λ (e : ℕ). LieFrom c.args.line.now e left) (sym c.end-at.ensures.end)
          (lies-here c.args.line.now c.loop-run.at c.args.runs.now c.loop-run.run-index run (omega arith) c.run-item.is c.loop-run.invariant.lie).2;
      written = subst (λ (e : ℕ). HasWritten (g.W.Sink.taken c.args.sink.now) (g.W.Sink.taken c.write_run.new.sink) c.args.line.now piece c.args.runs.now e left) (sym c.end-at.ensures.end)
          (written-more (g.W.Sink.taken c.args.sink.now) (g.W.Sink.taken c.loop-run.sink) (g.W.Sink.taken c.write_run.new.sink) c.args.line.now piece c.args.runs.now c.loop-run.at run left written
          (rw c.loop-run.invariant.rule at c.in_ok-write_run.ensures.whole));
      failures = c.in_ok-write_run.ensures.tells.write_failed ∙ c.loop-run.invariant.failures;
      empty_writes = c.in_ok-write_run.ensures.tells.took_nothing ∙ c.loop-run.invariant.empty_writes;
    }

pub returns-clause-beginning : goal.returns-clause-beginning
returns-clause-beginning g c =
    let piece = piece_in (g.P.Pieces.rule c.args.pieces.now) c.args.line.now in
    let written = subst (λ (rs : List Occurrence). HasWritten (g.W.Sink.taken c.args.sink.now) (g.W.Sink.taken c.loop-run.sink) c.args.line.now piece c.args.runs.now c.loop-run.at rs)
    (drop_all c.loop-run.run-index c.args.runs.now (omega arith)) c.loop-run.invariant.written in
    let tail : take (length c.args.line.now - c.loop-run.at) (drop c.loop-run.at c.args.line.now) ≡ drop c.loop-run.at c.args.line.now =
    take_all (length c.args.line.now - c.loop-run.at) (drop c.loop-run.at c.args.line.now) (omega (arith, length-drop c.loop-run.at c.args.line.now)) in
    if_err c.write_both.result _ _ (λ part. written-end (g.W.Sink.taken c.args.sink.now) (g.W.Sink.taken c.loop-run.sink) (g.W.Sink.taken c.write_both.new.sink) c.args.line.now piece c.args.runs.now c.loop-run.at written c.args.end.now (subst (λ (xs : List ℕ). AppendsBeginning (g.W.Sink.taken c.loop-run.sink) (g.W.Sink.taken c.write_both.new.sink) (xs ++ c.args.end.now)) tail part))
    c.write_both.ensures.beginning
