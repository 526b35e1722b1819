-- Each byte is written as its words say.
use Rattle.std.proofs.Common.{rules}
use Rattle.secret_forms.specs.Spelling.{dollar_byte}
use Rattle.secret_forms.proofs.bytewise.push_dollar.Goals as goal

pub returns-in-39 : goal.returns-in-39
unfolding dollar_byte
returns-in-39 c = search rules

pub returns-in-92 : goal.returns-in-92
unfolding dollar_byte
returns-in-92 c = search rules

pub returns-in-7 : goal.returns-in-7
unfolding dollar_byte
returns-in-7 c = search rules

pub returns-in-8 : goal.returns-in-8
unfolding dollar_byte
returns-in-8 c = search rules

pub returns-in-9 : goal.returns-in-9
unfolding dollar_byte
returns-in-9 c = search rules

pub returns-in-10 : goal.returns-in-10
unfolding dollar_byte
returns-in-10 c = search rules

pub returns-in-11 : goal.returns-in-11
unfolding dollar_byte
returns-in-11 c = search rules

pub returns-in-12 : goal.returns-in-12
unfolding dollar_byte
returns-in-12 c = search rules

pub returns-in-13 : goal.returns-in-13
unfolding dollar_byte
returns-in-13 c = search rules

pub returns-in-27 : goal.returns-in-27
unfolding dollar_byte
returns-in-27 c = search rules

pub returns-in_default : goal.returns-in_default
unfolding dollar_byte
returns-in_default c = search rules
