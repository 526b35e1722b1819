-- Each branch writes the character as its words say.
use Rattle.std.proofs.Common.{rules}
use Rattle.secret_forms.specs.Json.{json_number}
use Rattle.secret_forms.proofs.json_form.push_number.Goals as goal

pub returns-then-code-lt65536 : goal.returns-then-code-lt65536
unfolding json_number
returns-then-code-lt65536 c = search rules

pub returns : goal.returns
unfolding json_number
returns c = search rules
