use Rattle.std.proofs.Common.{arith, option_map, string_bytes}
use Rattle.std.proofs.lemmas.List.{length-map}
use Rattle.secret_rules.proofs.Compiled.{IsExpression-read, IsExpression-refused, group_total-read}
use Rattle.secret_rules.proofs.expression.groups_of.Goals as goal

pub returns-in-Ok-clause-read : goal.returns-in-Ok-clause-read
returns-in-Ok-clause-read c = IsExpression-read c.args.source.now _ _ (rw c.ascii.ensures at c.in-Ok.ensures.ok)

pub returns-in-Ok-clause-groups : goal.returns-in-Ok-clause-groups
returns-in-Ok-clause-groups c =
    let names = c.in-Ok.parsed.names in
    omega (arith, c.len.ensures, names.ok, length-map names.items (option_map string_bytes), group_total-read c.args.source.now _ _ (rw c.ascii.ensures at c.in-Ok.ensures.ok))

pub returns-in-Err-clause-refused : goal.returns-in-Err-clause-refused
returns-in-Err-clause-refused c = IsExpression-refused c.args.source.now c.in-Err.error.kind (rw c.ascii.ensures at c.in-Err.ensures.err)
