-- Each branch writes the byte as its words say.
use Rattle.std.proofs.Common.{rules}
use Rattle.secret_forms.specs.Spelling.{literal_byte}
use Rattle.secret_forms.proofs.bytewise.push_literal.Goals as goal

pub returns-then-is_backslashed : goal.returns-then-is_backslashed
unfolding literal_byte
returns-then-is_backslashed c = search rules

pub returns-then-has_letter : goal.returns-then-has_letter
unfolding literal_byte
returns-then-has_letter c = search rules

pub returns-then-is_literal : goal.returns-then-is_literal
unfolding literal_byte
returns-then-is_literal c = search rules

pub returns : goal.returns
unfolding literal_byte
returns c = search rules
