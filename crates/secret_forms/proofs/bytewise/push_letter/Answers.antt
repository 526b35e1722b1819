-- Each branch writes the byte as its words say.
use Rattle.std.proofs.Common.{rules}
use Rattle.secret_forms.specs.Spelling.{lettered_byte}
use Rattle.secret_forms.proofs.bytewise.push_letter.Goals as goal

pub returns-then-has_letter : goal.returns-then-has_letter
unfolding lettered_byte
returns-then-has_letter c = search rules

pub returns : goal.returns
unfolding lettered_byte
returns c = search rules
