-- What the loop keeps.
use Rattle.std.proofs.Common.{◌≡◌, ◌+◌, ◌*◌, ◌≤◌, ◌++◌, ℕ, List, false, take, length}
use Rattle.aho_core.specs.Laws.{BestAfter}
use Rattle.aho_core.specs.Patterns.{Patterns}
use Rattle.aho_core.specs.declared.search.Anchored.TheVariants.{No}
use Rattle.aho_stream.specs.After.{is_settled}
use Rattle.aho_stream.proofs.settle.walk_on.Given as goal

-- Over the same automaton:
-- `paid`: two look-ups for each byte that was walked pay for the look-ups so far, and the state's depth is left over;
-- `held`: the state is held after the bytes that were walked;
-- `best` and `going`: what was found is the best of them, and it is not settled.
abbrev pub invariant-loop-count : goal.invariant-loop-count
invariant-loop-count g l =
    let automaton = g.W.Walk.of l.initial.walk in
    record {
      same_walk : g.W.Walk.of l.walk ≡ automaton;
      valid : g.W.Of.Automaton.valid automaton l.sid;
      paid : g.W.Walk.lookups l.walk + g.W.Of.Automaton.depth automaton l.sid ≤ g.W.Walk.lookups l.initial.walk + g.W.Of.Automaton.depth automaton l.initial.sid + 2 * l.count;
      going : is_settled (g.W.Of.Automaton.kind automaton) (g.W.Of.Automaton.dead automaton l.sid) l.found ≡ false;
      held : (p : Patterns) (word : List ℕ) → g.W.Of.Automaton.is_of automaton p → g.W.Of.Automaton.held automaton p No word l.initial.sid → g.W.Of.Automaton.held automaton p No (word ++ take l.count l.bytes) l.sid;
      best : (p : Patterns) (word : List ℕ) → g.W.Of.Automaton.is_of automaton p → length word ≡ l.at → g.W.Of.Automaton.held automaton p No word l.initial.sid → BestAfter p No word l.initial.found → BestAfter p No (word ++ take l.count l.bytes) l.found;
    }
