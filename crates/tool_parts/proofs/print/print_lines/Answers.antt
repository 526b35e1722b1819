-- Whatever comes, its line is written behind the others.
use Rattle.std.proofs.Common.{arith, ◌≡◌, ◌-◌, Err, Some, [], take, drop, refl, ◌∙◌}
use Rattle.std.proofs.iter.SoFar.{exit_by, turn_by}
use Rattle.std.proofs.lemmas.Grind.{flat_map-append}
use Rattle.std.proofs.lemmas.List.{length-drop, take_all}
use Rattle.tool_parts.specs.Answers.{line_of}
use Rattle.tool_parts.proofs.Beginnings.{beginning-later, beginning-more, beginning-whole}
use Rattle.tool_parts.proofs.Counted.{writes-given, writes-later}
use Rattle.tool_parts.proofs.print.print_lines.Goals as goal

pub returns-in_err-write_bytes-clause-begun : goal.returns-in_err-write_bytes-clause-begun
returns-in_err-write_bytes-clause-begun g c =
    let calls = rw c.into_iter-found-iterator.ensures.into_iter_gives at c.loop-found.yielded_by in
    let line : take (63 - c.put_line-start.result) (drop c.put_line-start.result c.put_line-start.new.line) ≡ line_of c.in-Some.found =
    take_all (63 - c.put_line-start.result) (drop c.put_line-start.result c.put_line-start.new.line) (omega (arith, length-drop c.put_line-start.result c.put_line-start.new.line, c.put_line-start.array_long)) ∙ c.put_line-start.ensures.line in
    let ran = turn_by g.I.Iterator.next_gives (c.loop-found.yielded, calls) (Some c.in-Some.found) c.next.new.self c.in-Some.ensures.steps refl in
    (ran.0, ran.1, rw ran.2.0 (rw (flat_map-append line_of) (beginning-later _ _ _ _ _ c.loop-found.invariant.written (beginning-more _ _ (line_of c.in-Some.found) [] (rw line at c.write_bytes.ensures.beginning)))))

pub returns-clause-printed : goal.returns-clause-printed
returns-clause-printed g c =
    let calls = rw c.into_iter-found-iterator.ensures.into_iter_gives at c.loop-found.yielded_by in
    let ran = exit_by g.I.Iterator.next_gives (c.loop-found.yielded, calls) c.next.new.self c.in-None.ensures.steps in
    (ran.0, ran.1, ran.2, (rw ran.3.0 c.loop-found.invariant.written, rw ran.3.0 c.loop-found.invariant.told))

pub returns-clause-begun : goal.returns-clause-begun
returns-clause-begun g c =
    let calls = rw c.into_iter-found-iterator.ensures.into_iter_gives at c.loop-found.yielded_by in
    let ran = exit_by g.I.Iterator.next_gives (c.loop-found.yielded, calls) c.next.new.self c.in-None.ensures.steps in
    (ran.0, ran.1, rw ran.3.0 (beginning-whole _ _ _ c.loop-found.invariant.written))

pub returns-in_err-write_bytes-clause-faults : goal.returns-in_err-write_bytes-clause-faults
returns-in_err-write_bytes-clause-faults g c =
    writes-given c.args.output.now c.write_bytes.new.output c.from_residual.result c.in_err-write_bytes.field-0.0 c.from_residual.ensures.1
    (writes-later c.args.output.now c.loop-found.output c.write_bytes.new.output c.loop-found.any (Err c.in_err-write_bytes.field-0.0) c.loop-found.invariant.faults c.in_err-write_bytes.ensures.faults)
