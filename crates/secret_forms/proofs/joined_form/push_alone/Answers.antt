-- Each way writes the byte as its words say.
use Rattle.std.proofs.Common.{rules}
use Rattle.secret_forms.specs.Joined.{alone_byte}
use Rattle.secret_forms.proofs.joined_form.push_alone.Goals as goal

pub returns-in-Bash : goal.returns-in-Bash
unfolding alone_byte
returns-in-Bash c = search rules

pub returns-in-Coreutils : goal.returns-in-Coreutils
unfolding alone_byte
returns-in-Coreutils c = search rules

pub returns-in-CoreutilsAscii : goal.returns-in-CoreutilsAscii
unfolding alone_byte
returns-in-CoreutilsAscii c = search rules

pub returns-in-Numbers : goal.returns-in-Numbers
unfolding alone_byte
returns-in-Numbers c = search rules
