-- Each byte is written as its words say.
use Rattle.std.proofs.Common.{rules}
use Rattle.secret_forms.specs.Spelling.{json_byte}
use Rattle.secret_forms.proofs.bytewise.push_json.Goals as goal

pub returns-in-92 : goal.returns-in-92
unfolding json_byte
returns-in-92 c = search rules

pub returns-in-8 : goal.returns-in-8
unfolding json_byte
returns-in-8 c = search rules

pub returns-in-9 : goal.returns-in-9
unfolding json_byte
returns-in-9 c = search rules

pub returns-in-10 : goal.returns-in-10
unfolding json_byte
returns-in-10 c = search rules

pub returns-in-12 : goal.returns-in-12
unfolding json_byte
returns-in-12 c = search rules

pub returns-in-13 : goal.returns-in-13
unfolding json_byte
returns-in-13 c = search rules

pub returns-in_default : goal.returns-in_default
unfolding json_byte
returns-in_default c = search rules
