-- The patterns of the values so far are there.
use Rattle.std.proofs.Common.{◌≡◌, map}
use Rattle.std.specs.List.{range_with_len}
use Rattle.secret_forms.specs.Base64.{with_behind}
use Rattle.secret_forms.specs.Patterns.{added_all, pattern_bytes}
use Rattle.secret_forms.proofs.base64_form.add_all_behind.Given as goal

abbrev pub invariant-loop-bits : goal.invariant-loop-bits
invariant-loop-bits l =
    pattern_bytes l.patterns.items ≡ added_all (pattern_bytes l.initial.patterns.items) (map (with_behind l.engine l.secret l.shift) (range_with_len 0 l.bits))
