-- Each way writes the byte as its words say.
use Rattle.std.proofs.Common.{rules}
use Rattle.secret_forms.specs.Spelling.{shell_byte}
use Rattle.secret_forms.proofs.bytewise.push_shell.Goals as goal

pub returns-in-Single : goal.returns-in-Single
unfolding shell_byte
returns-in-Single c = search rules

pub returns-in-SingleByDouble : goal.returns-in-SingleByDouble
unfolding shell_byte
returns-in-SingleByDouble c = search rules

pub returns-in-Double : goal.returns-in-Double
unfolding shell_byte
returns-in-Double c = search rules

pub returns-in-Backslashes : goal.returns-in-Backslashes
unfolding shell_byte
returns-in-Backslashes c = search rules

pub returns-in-BashBackslashes : goal.returns-in-BashBackslashes
unfolding shell_byte
returns-in-BashBackslashes c = search rules

pub returns-in-Dollar : goal.returns-in-Dollar
unfolding shell_byte
returns-in-Dollar c = search rules

pub returns-in-DollarAscii : goal.returns-in-DollarAscii
unfolding shell_byte
returns-in-DollarAscii c = search rules

pub returns-in-Git : goal.returns-in-Git
unfolding shell_byte
returns-in-Git c = search rules

pub returns-in-BashTildes : goal.returns-in-BashTildes
unfolding shell_byte
returns-in-BashTildes c = search rules

pub returns-in-Every : goal.returns-in-Every
unfolding shell_byte
returns-in-Every c = search rules

pub returns-in-EveryCharacter : goal.returns-in-EveryCharacter
unfolding shell_byte
returns-in-EveryCharacter c = search rules

pub returns-in-RegexMarks : goal.returns-in-RegexMarks
unfolding shell_byte
returns-in-RegexMarks c = search rules

pub returns-in-DoubledSingle : goal.returns-in-DoubledSingle
unfolding shell_byte
returns-in-DoubledSingle c = search rules

pub returns-in-DoubledDouble : goal.returns-in-DoubledDouble
unfolding shell_byte
returns-in-DoubledDouble c = search rules

pub returns-in-Ruby : goal.returns-in-Ruby
unfolding shell_byte
returns-in-Ruby c = search rules

pub returns-in-Zsh : goal.returns-in-Zsh
unfolding shell_byte
returns-in-Zsh c = search rules

pub returns-in-Fish : goal.returns-in-Fish
unfolding shell_byte
returns-in-Fish c = search rules
