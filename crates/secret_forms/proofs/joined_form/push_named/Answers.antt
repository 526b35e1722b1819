-- Each byte is written as its words say.
use Rattle.std.proofs.Common.{rules}
use Rattle.secret_forms.specs.Joined.{named_byte}
use Rattle.secret_forms.proofs.joined_form.push_named.Goals as goal

pub returns-in-39 : goal.returns-in-39
unfolding named_byte
returns-in-39 c = search rules

pub returns-in-7 : goal.returns-in-7
unfolding named_byte
returns-in-7 c = search rules

pub returns-in-8 : goal.returns-in-8
unfolding named_byte
returns-in-8 c = search rules

pub returns-in-9 : goal.returns-in-9
unfolding named_byte
returns-in-9 c = search rules

pub returns-in-10 : goal.returns-in-10
unfolding named_byte
returns-in-10 c = search rules

pub returns-in-11 : goal.returns-in-11
unfolding named_byte
returns-in-11 c = search rules

pub returns-in-12 : goal.returns-in-12
unfolding named_byte
returns-in-12 c = search rules

pub returns-in-13 : goal.returns-in-13
unfolding named_byte
returns-in-13 c = search rules

pub returns-in_default : goal.returns-in_default
unfolding named_byte
returns-in_default c = search rules
