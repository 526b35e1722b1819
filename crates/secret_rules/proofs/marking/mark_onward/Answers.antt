use Rattle.secret_rules.proofs.Marked.{onwards-added}
use Rattle.secret_rules.proofs.Turns.{behind-told}
use Rattle.secret_rules.proofs.marking.mark_onward.Goals as goal

pub returns-clause-marks : goal.returns-clause-marks
returns-clause-marks c = λ rule at.
    onwards-added c.args.turn.number rule c.args.line.now c.args.turn.goes_on c.args.turn.applies c.args.marks.now.items c.mark_whole.new.marks.items
    c.mark_begun.new.marks.items (c.requires.until rule at).0 (c.requires.applies rule at) c.in_ok-still.ensures.marks (c.in_ok-begun.ensures.marks rule at)

pub returns-clause-goes_on : goal.returns-clause-goes_on
returns-clause-goes_on c = λ rule at.
    behind-told rule c.args.line.now c.args.text.now c.args.turn.goes_on c.args.turn.applies c.in_ok-still.still c.in_ok-begun.begun c.either.result
    (c.requires.until rule at).1 (c.requires.applies rule at) c.in_ok-still.ensures.goes_on (c.in_ok-begun.ensures.goes_on rule at) c.either.ensures
