-- Each branch writes the byte as its words say.
use Rattle.std.proofs.Common.{rules}
use Rattle.secret_forms.specs.Spelling.{json_no_letter}
use Rattle.secret_forms.proofs.bytewise.push_no_letter.Goals as goal

pub returns-then-byte-lt32 : goal.returns-then-byte-lt32
unfolding json_no_letter
returns-then-byte-lt32 c = search rules

pub returns-then-is_numbered_mark : goal.returns-then-is_numbered_mark
unfolding json_no_letter
returns-then-is_numbered_mark c = search rules

pub returns : goal.returns
unfolding json_no_letter
returns c = search rules
