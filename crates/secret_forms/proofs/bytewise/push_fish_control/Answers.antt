-- Each branch writes the byte as its words say.
use Rattle.std.proofs.Common.{rules}
use Rattle.secret_forms.specs.Spelling.{fish_control}
use Rattle.secret_forms.proofs.bytewise.push_fish_control.Goals as goal

pub returns-then-is_fish_letter : goal.returns-then-is_fish_letter
unfolding fish_control
returns-then-is_fish_letter c = search rules

pub returns-then-byte-lt27 : goal.returns-then-byte-lt27
unfolding fish_control
returns-then-byte-lt27 c = search rules

pub returns-then-byte-eq27 : goal.returns-then-byte-eq27
unfolding fish_control
returns-then-byte-eq27 c = search rules

pub returns : goal.returns
unfolding fish_control
returns c = search rules
