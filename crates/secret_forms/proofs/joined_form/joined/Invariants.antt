-- What is written, and what is to be written of the bytes that are left.
use Rattle.std.proofs.Common.{◌≡◌, ◌++◌, drop}
use Rattle.secret_forms.specs.Joined as spec
use Rattle.secret_forms.proofs.joined_form.joined.Given as goal

abbrev pub invariant-loop-byte : goal.invariant-loop-byte
invariant-loop-byte l = l.out.items ++ spec.joined_from l.joining l.before (drop l.byte-index l.secret) ≡ spec.joined_word l.joining l.secret
