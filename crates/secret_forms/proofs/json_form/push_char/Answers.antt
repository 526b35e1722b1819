-- Each character is written as its words say.
use Rattle.std.proofs.Common.{rules}
use Rattle.secret_forms.specs.Json.{json_char}
use Rattle.secret_forms.proofs.json_form.push_char.Goals as goal

pub returns-then-code-lt127 : goal.returns-then-code-lt127
unfolding json_char
returns-then-code-lt127 c = search rules

pub returns-then-has_number : goal.returns-then-has_number
unfolding json_char
returns-then-has_number c = search rules

pub returns-then-code-lt128 : goal.returns-then-code-lt128
unfolding json_char
returns-then-code-lt128 c = search rules

pub returns : goal.returns
unfolding json_char
returns c = search rules
