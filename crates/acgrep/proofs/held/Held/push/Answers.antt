-- One line more is held.
use Rattle.acgrep.proofs.Common.{length-drop, sum}
use Rattle.std.proofs.Common.{◌+◌, ◌≡◌, ◌≤◌, arith, drop, length}
use Rattle.std.proofs.lemmas.List.{drop-append-le}
use Rattle.acgrep.proofs.HeldLines.{cut_more}
use Rattle.acgrep.proofs.held.Held.push.Goals as goal

pub returns : goal.returns
returns c =
    let line = c.args.line.now in
    let at = c.close_up.new.self in
    let before = at.room.items in
    let within : at.from ≤ length before = grind (arith, at.within) in
    let sized : at.from + sum at.sizes.items ≡ length before = grind (arith, at.sized) in
    let front = drop-append-le at.from before line within in
    let more = cut_more at.sizes.items (drop at.from before) line (omega (arith, within, sized, length-drop at.from before)) in
    record { more = cc (front, more, c.in_default.ensures.sizes, c.in_default.ensures.bytes, c.close_up.ensures.sizes, c.close_up.ensures.same) }
