-- The patterns of the encoders so far are there.
use Rattle.std.proofs.Common.{◌≡◌, map, take}
use Rattle.secret_forms.specs.Joined.{joined_word, joinings}
use Rattle.secret_forms.specs.Patterns.{added_all, pattern_bytes}
use Rattle.secret_forms.proofs.joined_form.add_joined.Given as goal

abbrev pub invariant-loop-joining : goal.invariant-loop-joining
invariant-loop-joining l =
    pattern_bytes l.patterns.items
    ≡ added_all (pattern_bytes l.initial.patterns.items) (map (λ one. joined_word one l.secret) (take l.joining-index joinings))
