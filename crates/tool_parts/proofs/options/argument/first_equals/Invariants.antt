-- No equals sign so far.
use Rattle.std.proofs.Common.{◌≡◌, ℕ, ◌-◌, ◌≤◌, ◌<◌, false, length}
use Rattle.std.proofs.Math.ListN.{get_or}
use Rattle.tool_parts.specs.ArgumentForms.{is_equals}
use Rattle.tool_parts.proofs.options.argument.first_equals.Given as goal

abbrev pub invariant-loop-at : goal.invariant-loop-at
invariant-loop-at l = record {
  within : l.at ≤ length l.fn.text;
  others : (k : ℕ) → k < l.at → is_equals (get_or l.fn.text k 0) ≡ false;
}

abbrev pub decreases-loop-at : goal.decreases-loop-at
decreases-loop-at l = length l.fn.text - l.at
