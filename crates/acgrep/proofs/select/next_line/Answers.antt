-- The line around what was found is the first with a match.
use Rattle.acgrep.proofs.Common.{IsAnswer, OccursIn, length-drop, length-take-le, plain_search, take_all}
use Rattle.std.proofs.Common.{◌-◌, ◌≡◌, ◌≤◌, Some, arith, drop, length, subst, take}
use Rattle.acgrep.proofs.Around.{first_around, line_of_parts}
use Rattle.acgrep.proofs.select.next_line.Goals as goal

pub returns-clause-next : goal.returns-clause-next
returns-clause-next c = λ p is plain.
    let text = c.args.text.now in
    let place = c.start-place.result in
    let best : IsAnswer p (plain_search text) (Some c.in-Some.found) = subst (IsAnswer p (plain_search text)) c.in-Some.is (c.in_ok-found.ensures.found p is) in
    let occurs : OccursIn p (plain_search text) c.in-Some.found = best.0 in
    let within : place ≤ length text = omega (arith, c.start-place.ensures.start, occurs.sized, occurs.before_end) in
    let rest = take (length text - place) (drop place text) in
    let same : rest ≡ drop place text = take_all (length text - place) (drop place text) (omega (arith, length-drop place text)) in
    let front = c.line_start-start.ensures in
    let back = c.line_end-rest.ensures in
    let low : c.line_start-start.result ≤ length (take place text) = front.within in
    first_around c.args.ending p text c.in-Some.found _ plain best
    (line_of_parts c.args.ending text rest place c.line_start-start.result c.line_end-rest.result within same
    low front.none front.ends back.within back.none back.ends)
    (omega (arith, low, c.start-place.ensures.start, length-take-le place text within)) (omega arith)
