-- What the loop keeps.
use Rattle.std.proofs.Common.{◌≡◌, ◌+◌, ◌-◌, ◌*◌, ◌<◌, ◌≤◌, ℕ, drop, length, reverse}
use Rattle.std.specs.Prelude.{slice_index}
use Rattle.aho_core.specs.Patterns.{Patterns}
use Rattle.aho_core.specs.declared.search.Anchored.TheVariants.{No}
use Rattle.aho_backward.proofs.block.walk_into.Given as goal

-- Over the same automaton:
-- `paid`: two look-ups for each byte that was walked pay for the look-ups so far, and the state's depth is left over;
-- `held`: the state is held after the bytes that were walked;
-- `each`: and so is each state that was kept, at its place.
abbrev pub invariant-loop-place : goal.invariant-loop-place
invariant-loop-place g l =
    let a = g.W.Of.Automaton in
    let automaton = g.W.Walk.of l.initial.walk in
    record {
      same : g.W.Walk.of l.walk ≡ automaton;
      within : l.place ≤ length l.bytes;
      valid : a.valid automaton l.sid;
      paid : g.W.Walk.lookups l.walk + a.depth automaton l.sid ≤ g.W.Walk.lookups l.initial.walk + 2 * (length l.bytes - l.place);
      held : (q : Patterns) → a.is_of automaton q → a.held automaton q No (reverse (drop l.place l.bytes)) l.sid;
      each_valid : (i : ℕ) → l.place ≤ i → i < length l.bytes → a.valid automaton (slice_index l.states i);
      each_held : (q : Patterns) → a.is_of automaton q → (i : ℕ) → l.place ≤ i → i < length l.bytes → a.held automaton q No (reverse (drop i l.bytes)) (slice_index l.states i);
    }

abbrev pub decreases-loop-place : goal.decreases-loop-place
decreases-loop-place g l = l.place
