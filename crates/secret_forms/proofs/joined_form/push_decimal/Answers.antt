-- Each branch writes the digits as its words say.
use Rattle.std.proofs.Common.{rules}
use Rattle.secret_forms.specs.Joined.{decimal_byte}
use Rattle.secret_forms.proofs.joined_form.push_decimal.Goals as goal

pub returns-then-byte-lt10 : goal.returns-then-byte-lt10
unfolding decimal_byte
returns-then-byte-lt10 c = search rules

pub returns-then-byte-lt100 : goal.returns-then-byte-lt100
unfolding decimal_byte
returns-then-byte-lt100 c = search rules

pub returns : goal.returns
unfolding decimal_byte
returns c = search rules
