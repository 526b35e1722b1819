-- The patterns of the encoders so far are there.
use Rattle.std.proofs.Common.{◌≡◌, map, take}
use Rattle.secret_forms.specs.Patterns.{added_all, pattern_bytes}
use Rattle.secret_forms.specs.Spelling as spec
use Rattle.secret_forms.proofs.bytewise.add_spelled.Given as goal

abbrev pub invariant-loop-spelling : goal.invariant-loop-spelling
invariant-loop-spelling l =
    pattern_bytes l.patterns.items ≡ added_all (pattern_bytes l.initial.patterns.items) (map (λ one. spec.spelled one l.secret) (take l.spelling-index l.spellings))
