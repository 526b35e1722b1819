-- What is left gives the other patterns.
use Rattle.acredact.proofs.Common.{asked_form_patterns, asked_forms, drop, flat_map, pattern_bytes, twice_patterns, ◌++◌, ◌≡◌}
use Rattle.acredact.proofs.forms.patterns_by.Given as goal

abbrev pub invariant-loop-one : goal.invariant-loop-one
invariant-loop-one l = pattern_bytes l.patterns.items ++ flat_map (twice_patterns l.fn.pattern) (drop l.one-index l.fn.asked.nested.items)
    ≡ asked_form_patterns (asked_forms l.fn.asked) l.fn.pattern
