-- Each byte is written as its words say.
use Rattle.std.proofs.Common.{rules}
use Rattle.secret_forms.specs.Spelling.{xml_byte}
use Rattle.secret_forms.proofs.bytewise.push_xml.Goals as goal

pub returns-in-38 : goal.returns-in-38
unfolding xml_byte
returns-in-38 c = search rules

pub returns-in-60 : goal.returns-in-60
unfolding xml_byte
returns-in-60 c = search rules

pub returns-in-62 : goal.returns-in-62
unfolding xml_byte
returns-in-62 c = search rules

pub returns-in-34 : goal.returns-in-34
unfolding xml_byte
returns-in-34 c = search rules

pub returns-in-39 : goal.returns-in-39
unfolding xml_byte
returns-in-39 c = search rules

pub returns-in_default : goal.returns-in_default
unfolding xml_byte
returns-in_default c = search rules
