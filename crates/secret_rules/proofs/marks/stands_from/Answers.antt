use Rattle.std.proofs.lemmas.List.{take_rest}
use Rattle.secret_rules.proofs.Behind.{StandsFrom-found}
use Rattle.secret_rules.proofs.marks.stands_from.Goals as goal

pub returns : goal.returns
returns c =
    let found = rw (take_rest c.args.line.now c.args.from) at c.find.ensures in
    rw c.is_some.ensures (StandsFrom-found c.args.line.now c.args.text.now c.args.from c.if-from-line.false c.find.result found)
