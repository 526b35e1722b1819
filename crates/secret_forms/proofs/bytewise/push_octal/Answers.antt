-- Each branch writes the byte as its words say.
use Rattle.std.proofs.Common.{rules}
use Rattle.secret_forms.specs.Spelling.{octal_unless}
use Rattle.secret_forms.proofs.bytewise.push_octal.Goals as goal

pub returns-then-is_kept : goal.returns-then-is_kept
unfolding octal_unless
returns-then-is_kept c = search rules

pub returns : goal.returns
unfolding octal_unless
returns c = search rules
