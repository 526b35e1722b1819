-- The parts of a line, from the last to the first.
use Rattle.std.proofs.Common.{arith, ◌≡◌, drop, []}
use Rattle.std.proofs.lemmas.List.{drop_all}
use Rattle.tool_parts.proofs.print.put_line.Goals as goal

pub returns-clause-line : goal.returns-clause-line
returns-clause-line c =
    let nothing : drop 63 c.args.line.now ≡ [] = drop_all 63 c.args.line.now (omega arith) in
    rw (c.put_number.ensures.put, c.put_number-start_at.ensures.put, c.put_number-end_at.ensures.put, nothing, c.as_usize.ensures.value, c.pattern.ensures.pattern, c.start.ensures.start, c.end.ensures.end)
