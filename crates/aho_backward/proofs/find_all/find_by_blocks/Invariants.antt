-- What the loop keeps: the finds up to a place, with at most four look-ups for each byte before it.
use Rattle.std.proofs.Common.{◌≡◌, ◌+◌, ◌-◌, ◌*◌, ◌≤◌, length}
use Rattle.aho_core.specs.Patterns.{Patterns}
use Rattle.aho_backward.specs.Backward.{FindsUpTo, IsTurnedFrom}
use Rattle.aho_backward.proofs.find_all.find_by_blocks.Given as goal

abbrev pub invariant-loop-at : goal.invariant-loop-at
invariant-loop-at g l =
    let automaton = g.W.Walk.of l.initial.walk in
    record {
      same : g.W.Walk.of l.walk ≡ automaton;
      within : l.at ≤ length l.haystack;
      paid : g.W.Walk.lookups l.walk ≤ g.W.Walk.lookups l.initial.walk + 4 * l.at;
      finds : (p : Patterns) → IsTurnedFrom g.W.Of.Automaton automaton l.given p → FindsUpTo p l.haystack l.at l.found.items;
    }

abbrev pub decreases-loop-at : goal.decreases-loop-at
decreases-loop-at g l = length l.haystack - l.at
