-- Each branch writes the byte as its words say.
use Rattle.std.proofs.Common.{rules}
use Rattle.secret_forms.specs.Spelling.{zsh_byte}
use Rattle.secret_forms.proofs.bytewise.push_zsh.Goals as goal

pub returns-then-is_printed : goal.returns-then-is_printed
unfolding zsh_byte
returns-then-is_printed c = search rules

pub returns : goal.returns
unfolding zsh_byte
returns c = search rules
