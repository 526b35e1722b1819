-- The characters so far are written.
use Rattle.std.proofs.Common.{◌≡◌}
use Rattle.std.specs.Prelude.{flat_map}
use Rattle.secret_forms.specs.Escape.{escape_char}
use Rattle.secret_forms.proofs.escape_form.escaped.Given as goal

abbrev pub invariant-loop-character : goal.invariant-loop-character
invariant-loop-character l = l.out.items ≡ flat_map escape_char l.yielded
