-- Each branch writes the byte as its words say.
use Rattle.std.proofs.Common.{rules}
use Rattle.secret_forms.specs.Spelling.{url_byte}
use Rattle.secret_forms.proofs.bytewise.push_url.Goals as goal

pub returns-then-is_turned : goal.returns-then-is_turned
unfolding url_byte
returns-then-is_turned c = search rules

pub returns-then-is_unencoded : goal.returns-then-is_unencoded
unfolding url_byte
returns-then-is_unencoded c = search rules

pub returns-then-is_plus : goal.returns-then-is_plus
unfolding url_byte
returns-then-is_plus c = search rules

pub returns : goal.returns
unfolding url_byte
returns c = search rules
