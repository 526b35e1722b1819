-- What the loop keeps: the finds up to a place.
use Rattle.std.proofs.Common.{◌-◌, ◌≤◌, ℕ, List, length}
use Rattle.aho_core.specs.Patterns.{Patterns}
use Rattle.aho_backward.specs.Backward.{FindsUpTo, TellsBlock}
use Rattle.aho_backward.proofs.choose.choose.Given as goal

abbrev pub invariant-loop-at : goal.invariant-loop-at
invariant-loop-at g l =
    let automaton = g.W.Walk.of l.walk in
    record {
      from : l.block.start ≤ l.at;
      within : (p : Patterns) (haystack : List ℕ) → TellsBlock g.W.Of.Automaton automaton l.given l.block l.states p haystack → l.at ≤ length haystack;
      finds : (p : Patterns) (haystack : List ℕ) → TellsBlock g.W.Of.Automaton automaton l.given l.block l.states p haystack → FindsUpTo p haystack l.block.start l.initial.found.items → FindsUpTo p haystack l.at l.found.items;
    }

abbrev pub decreases-loop-at : goal.decreases-loop-at
decreases-loop-at g l = l.block.end - l.at
