use Rattle.std.proofs.Common.{rules, arith, ◌≤◌, length, decimal}
use Rattle.std.proofs.lemmas.Fmt.{length-decimal-le}
use Rattle.tool_parts.proofs.print.put_number.Goals as goal

pub write_digits-requires : goal.write_digits-requires
write_digits-requires c = search (rules, length-decimal-le 20)

pub returns-clause-short : goal.returns-clause-short
returns-clause-short c =
    let digits : length (decimal c.args.number) ≤ 20 = search (rules, length-decimal-le 20) in
    omega (arith, c.write_digits.ensures.start)
