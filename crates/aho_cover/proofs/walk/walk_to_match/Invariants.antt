-- What the loop keeps.
use Rattle.std.proofs.Common.{◌≡◌, ◌+◌, ◌*◌, ◌<◌, ◌≤◌, ℕ, List, []}
use Rattle.aho_core.specs.Patterns.{Patterns}
use Rattle.aho_cover.specs.Walks.{LiesAhead, StandsIn}
use Rattle.aho_cover.proofs.walk.walk_to_match.Given as goal

-- Over the same automaton:
-- `paid`: two look-ups for each byte that was walked pay for the look-ups so far, and the state's depth is left over;
-- `held`: the state is held after the bytes that were walked;
-- `plain` and `quiet`: no state so far told a match, and the one that is held tells none.
abbrev pub invariant-loop-count : goal.invariant-loop-count
invariant-loop-count g l =
    let automaton = l.initial.walk.automaton.now in
    record {
      same : l.walk.automaton.now ≡ automaton;
      valid : g.A.Automaton.valid automaton l.sid;
      paid : l.walk.work + g.A.Automaton.depth automaton l.sid ≤ l.initial.walk.work + g.A.Automaton.depth automaton l.initial.sid + 2 * l.count;
      held : (p : Patterns) (haystack : List ℕ) → LiesAhead g.A.Automaton automaton l.at l.initial.sid l.bytes p haystack → StandsIn g.A.Automaton automaton p haystack l.sid (l.at + l.count);
      plain : (p : Patterns) (haystack : List ℕ) → LiesAhead g.A.Automaton automaton l.at l.initial.sid l.bytes p haystack → (k : ℕ) → l.at < k → k ≤ l.at + l.count
          → (sid : ℕ) × StandsIn g.A.Automaton automaton p haystack sid k × (g.A.Automaton.list automaton sid ≡ []);
      quiet : 0 < l.count → g.A.Automaton.list automaton l.sid ≡ [];
    }
