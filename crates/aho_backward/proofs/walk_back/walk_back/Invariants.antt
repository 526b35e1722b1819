-- What the loop keeps.
use Rattle.std.proofs.Common.{◌≡◌, ◌+◌, ◌-◌, ◌*◌, ◌<◌, ◌≤◌, ℕ, drop, length, reverse}
use Rattle.std.specs.Prelude.{slice_index}
use Rattle.aho_core.specs.Patterns.{Patterns}
use Rattle.aho_core.specs.declared.search.Anchored.TheVariants.{No}
use Rattle.aho_backward.proofs.walk_back.walk_back.Given as goal

-- Over the same automaton:
-- `paid`: two look-ups for each byte that was walked pay for the look-ups so far, and the state's depth is left over;
-- `held`: the state is held after the bytes that were walked;
-- `each`: and so is each state that was kept, at its place.
abbrev pub invariant-loop-count : goal.invariant-loop-count
invariant-loop-count g l =
    let a = g.W.Of.Automaton in
    let automaton = g.W.Walk.of l.initial.walk in
    record {
      same : g.W.Walk.of l.walk ≡ automaton;
      valid : a.valid automaton l.sid;
      paid : g.W.Walk.lookups l.walk + a.depth automaton l.sid ≤ g.W.Walk.lookups l.initial.walk + 2 * l.count;
      held : (q : Patterns) → a.is_of automaton q → a.held automaton q No (reverse (drop (length l.bytes - l.count) l.bytes)) l.sid;
      long : length l.states.items ≡ l.count;
      each_valid : (place : ℕ) → length l.bytes - l.count ≤ place → place < length l.bytes → a.valid automaton (slice_index l.states.items (length l.bytes - 1 - place));
      each_held : (q : Patterns) → a.is_of automaton q → (place : ℕ) → length l.bytes - l.count ≤ place → place < length l.bytes
          → a.held automaton q No (reverse (drop place l.bytes)) (slice_index l.states.items (length l.bytes - 1 - place));
    }
