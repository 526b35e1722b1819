-- What is left has the last value, or else the value so far is it.
use Rattle.acredact.proofs.Common.{all_given, drop, last_value, ◌≡◌}
use Rattle.std.specs.Prelude.{option_map}
use Rattle.acredact.specs.Arguments.{or_else}
use Rattle.acredact.proofs.options.last_value.Given as goal

abbrev pub invariant-loop-item : goal.invariant-loop-item
invariant-loop-item l = or_else (last_value l.word (all_given (drop l.item-index l.items))) (option_map (λ value. value.now) l.value) ≡ last_value l.word (all_given l.items)
