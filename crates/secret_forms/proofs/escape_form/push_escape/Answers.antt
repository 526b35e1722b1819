-- Each character is written as its words say.
use Rattle.std.proofs.Common.{rules}
use Rattle.secret_forms.specs.Escape.{escape_char}
use Rattle.secret_forms.proofs.escape_form.push_escape.Goals as goal

pub returns-then-code-lt256 : goal.returns-then-code-lt256
unfolding escape_char
returns-then-code-lt256 c = search rules

pub returns-then-code-lt65536 : goal.returns-then-code-lt65536
unfolding escape_char
returns-then-code-lt65536 c = search rules

pub returns : goal.returns
unfolding escape_char
returns c = search rules
