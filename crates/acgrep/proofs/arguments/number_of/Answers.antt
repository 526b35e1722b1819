-- What was read is what the digits mean.
use Rattle.acgrep.proofs.Common.{get_or}
use Rattle.std.proofs.Common.{arith}
use Rattle.std.proofs.lemmas.Bool.Decides.{not_from_Decides}
use Rattle.std.proofs.lemmas.Str.Pattern.{starts_char}
use Rattle.std.specs.Prelude.{◌≢◌}
use Rattle.acgrep.proofs.Numbers.{number_read, number_refused}
use Rattle.acgrep.proofs.arguments.number_of.Goals as goal

pub returns-in-Ok : goal.returns-in-Ok
returns-in-Ok c =
    let text = c.args.digits.now in
    let plain : get_or text 0 0 ≢ 43 = not_from_Decides _ (starts_char 43 text _ c.starts_with.ensures.cases (omega arith) (omega arith)) c.if-starts_with.false in
    record { number = number_read text c.in-Ok.number c.in-Ok.ensures.value.0 plain }

pub returns-in-Err : goal.returns-in-Err
returns-in-Err c =
    let text = c.args.digits.now in
    let plain : get_or text 0 0 ≢ 43 = not_from_Decides _ (starts_char 43 text _ c.starts_with.ensures.cases (omega arith) (omega arith)) c.if-starts_with.false in
    record { number = number_refused text c.in-Err.field-0 c.in-Err.ensures.value.0 plain }
