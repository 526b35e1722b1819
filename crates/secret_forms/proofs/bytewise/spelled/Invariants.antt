-- The bytes so far are written.
use Rattle.std.proofs.Common.{◌≡◌, take}
use Rattle.std.specs.List.{flat_map}
use Rattle.secret_forms.specs.Spelling as spec
use Rattle.secret_forms.proofs.bytewise.spelled.Given as goal

abbrev pub invariant-loop-byte : goal.invariant-loop-byte
invariant-loop-byte l = l.out.items ≡ flat_map (spec.spelled_byte l.spelling) (take l.byte-index l.secret)
