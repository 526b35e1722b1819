-- Each way writes the byte as its words say.
use Rattle.std.proofs.Common.{rules}
use Rattle.secret_forms.specs.Spelling.{numbered_byte}
use Rattle.secret_forms.proofs.bytewise.push_numbered.Goals as goal

pub returns-in-Hexadecimal : goal.returns-in-Hexadecimal
unfolding numbered_byte
returns-in-Hexadecimal c = search rules

pub returns-in-Octal : goal.returns-in-Octal
unfolding numbered_byte
returns-in-Octal c = search rules

pub returns-in-Kept : goal.returns-in-Kept
unfolding numbered_byte
returns-in-Kept c = search rules
