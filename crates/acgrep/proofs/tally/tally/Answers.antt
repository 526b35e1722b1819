-- A line more is counted.
use Rattle.acgrep.proofs.Common.{common_steps, nil_from_length}
use Rattle.std.proofs.Common.{◌<◌, ◌≡◌, arith, length, take}
use Rattle.acgrep.specs.Lines.{lines}
use Rattle.acgrep.proofs.FirstLines.{lines_then}
use Rattle.acgrep.proofs.Tallied.{counts-more, counts-none}
use Rattle.acgrep.proofs.tally.tally.Goals as goal

pub loop-rest-preserved : goal.loop-rest-preserved
loop-rest-preserved c = λ after are.
    let rest = c.loop-rest.rest.now in
    let end = c.line_end-end.result in
    let full : 0 < length rest = grind (arith, common_steps, c.is_empty.ensures, c.loop-rest-test.true) in
    let cut = lines_then c.args.ending rest c.behind-rest.result.now end full c.line_end-end.ensures.within c.line_end-end.ensures.none c.line_end-end.ensures.ends c.behind-rest.ensures.rest in
    c.loop-rest.invariant after (rw cut (counts-more (take end rest) (lines c.args.ending c.behind-rest.result.now) c.loop-rest.counts c.tally_line.new.counts after c.tally_line.ensures.counted are))

pub returns : goal.returns
returns c =
    let rest = c.loop-rest.rest.now in
    let none : length rest ≡ 0 = grind (arith, common_steps, c.is_empty.ensures, c.loop-rest-test.false) in
    record { counted = c.loop-rest.invariant c.loop-rest.counts (rw (nil_from_length rest none) (counts-none c.loop-rest.counts)) }
