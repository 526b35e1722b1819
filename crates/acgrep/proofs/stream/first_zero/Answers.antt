-- The first zero byte stands in the line that begins behind the last end of a line before it.
use Rattle.acgrep.proofs.Common.{take_rest}
use Rattle.std.proofs.Common.{◌+◌, ◌-◌, ◌≡◌, ◌≤◌, Some, arith, drop, length, length-drop, length-take-le, take}
use Rattle.memchr.specs.Find.{IsFirst}
use Rattle.acgrep.specs.Lines.{IsEnding}
use Rattle.acgrep.proofs.BinaryLines.{zero_none, zero_some}
use Rattle.acgrep.proofs.stream.first_zero.Goals as goal

pub returns-in-Some-clause-zero : goal.returns-in-Some-clause-zero
returns-in-Some-clause-zero c = λ asked front.
    let bytes = c.args.bytes.now in
    let before = c.saturating_sub-before.result in
    let at = c.in-Some.zero in
    let same : before ≡ length bytes - c.args.count = omega (arith, c.saturating_sub-before.ensures) in
    let low : before ≤ length bytes = omega (arith, same) in
    let found : IsFirst (IsEnding 0 (drop before bytes)) 0 (length (drop before bytes)) (Some at) = rw (take_rest bytes before) at c.in-Some.ensures in
    let long : length (take (before + at) bytes) ≡ before + at = length-take-le (before + at) bytes (omega (arith, low, found.0.high, length-drop before bytes)) in
    zero_some c.args.ending bytes before at c.line_start.result low found.0.high (rw same front) found.1 found.0.before
    (omega (arith, long, c.line_start.ensures.within)) (rw long at c.line_start.ensures.none)

pub returns-in-None-clause-zero : goal.returns-in-None-clause-zero
returns-in-None-clause-zero c = λ asked front.
    let bytes = c.args.bytes.now in
    let before = c.saturating_sub-before.result in
    let same : before ≡ length bytes - c.args.count = omega (arith, c.saturating_sub-before.ensures) in
    zero_none c.args.ending bytes before (rw same front) (rw (take_rest bytes before) at c.in-None.ensures)
