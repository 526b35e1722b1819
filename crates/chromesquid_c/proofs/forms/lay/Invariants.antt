-- The patterns so far are laid.
use Rattle.std.proofs.Common.{◌≡◌, take}
use Rattle.std.specs.List.{concat}
use Rattle.secret_forms.specs.Patterns.{pattern_bytes}
use Rattle.chromesquid_c.specs.SecretForms.{ends_of}
use Rattle.chromesquid_c.proofs.forms.lay.Given as goal

abbrev pub invariant-loop-pattern : goal.invariant-loop-pattern
invariant-loop-pattern l = record {
  bytes : l.bytes.items ≡ concat (pattern_bytes (take l.pattern-index l.patterns));
  ends : l.ends.items ≡ ends_of (pattern_bytes (take l.pattern-index l.patterns));
}
