-- Digits are UTF-8.
use Rattle.acgrep.proofs.Numbers.{number_lacking}
use Rattle.acgrep.proofs.arguments.number_in.Goals as goal

pub returns-in-Err : goal.returns-in-Err
returns-in-Err c = record { number = number_lacking c.args.bytes.now c.in-Err.ensures.cases.0 }
