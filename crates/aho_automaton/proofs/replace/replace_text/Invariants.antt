use Rattle.std.proofs.Common.{◌≡◌, ◌≤◌, IsCharBoundary, string_bytes}
use Rattle.aho_core.specs.ClosureRun.{CalledOn, CopiesWhole}
use Rattle.aho_core.specs.Replacement.{on_boundaries}
use Rattle.aho_core.specs.Search.{plain_search}
use Rattle.aho_automaton.proofs.RunsLeft.{IsLeft}
use Rattle.aho_automaton.proofs.replace.replace_text.Given as goal

abbrev pub invariant-loop-m : goal.invariant-loop-m
invariant-loop-m g l = record {
  can_next : (goal.iterator-loop-m g).can_next l.m-iterator;
  is_finite : (goal.iterator-loop-m g).is_finite l.m-iterator;
  callable : goal.F-IsAlwaysCallable g l.replace_with;
  same : l.m-iterator.automaton ≡ l.fn.finds.automaton;
  searched : l.m-iterator.input ≡ record (plain_search l.text) { start = l.m-iterator.input.start };
  passed : l.copied ≤ l.m-iterator.input.start;
  boundary : IsCharBoundary l.text l.copied;
  left : IsLeft (CopiesWhole string_bytes) (CalledOn g.F.FnMut) l.text (g.A.Automaton.is_of l.fn.finds.automaton.now) (on_boundaries l.text) l.fn.replace_with l.fn.dst
      l.m-iterator.input l.m-iterator.last_match_end l.copied l.replace_with l.dst;
}
