use Rattle.std.proofs.Common.{◌≡◌, ◌≤◌, length, vec_items}
use Rattle.aho_core.specs.ClosureRun.{CalledOn, CopiesWhole}
use Rattle.aho_core.specs.Search.{plain_search}
use Rattle.aho_automaton.proofs.RunsLeft.{IsLeft}
use Rattle.aho_automaton.proofs.replace.replace_bytes.Given as goal

abbrev pub invariant-loop-m : goal.invariant-loop-m
invariant-loop-m g l = record {
  can_next : (goal.iterator-loop-m g).can_next l.m-iterator;
  is_finite : (goal.iterator-loop-m g).is_finite l.m-iterator;
  callable : goal.F-IsAlwaysCallable g l.replace_with;
  same : l.m-iterator.automaton ≡ l.fn.finds.automaton;
  searched : l.m-iterator.input ≡ record (plain_search l.haystack) { start = l.copied };
  within : l.copied ≤ length l.haystack;
  left : IsLeft (CopiesWhole vec_items) (CalledOn g.F.FnMut) l.haystack (g.A.Automaton.is_of l.fn.finds.automaton.now) (λ ms. ms) l.fn.replace_with l.fn.dst
      l.m-iterator.input l.m-iterator.last_match_end l.copied l.replace_with l.dst;
}
