-- From place to place, and from find to find.
use Rattle.std.proofs.Common.{◌≡◌, ◌-◌, ◌<◌, ◌≤◌, ℕ, List, None, get_or, length, sym, ◌∙◌, subst, arith}
use Rattle.std.proofs.lemmas.Grind.{get_or_default_zero}
use Rattle.aho_core.specs.declared.search.Anchored.TheVariants.{Yes}
use Rattle.aho_core.specs.declared.search.Span.{Span}
use Rattle.aho_core.specs.Best.{IsBest, IsBestOrNone}
use Rattle.aho_core.specs.Occurs.{Occurs}
use Rattle.aho_core.specs.Patterns.{Patterns}
use Rattle.aho_automaton.specs.declared.automaton.Automaton.{Ghosts as Automata}
use Rattle.aho_backward.specs.Backward.{FindsUpTo, TellsAt, TellsBlock, state_back}
use Rattle.aho_backward.proofs.Passing.{begins-full, best-begins, none-begins}
use Rattle.aho_backward.proofs.choose.choose.Goals as goal

-- the state that is read at a place tells what begins there
tells-here : {A : Type 0} (G : Automata A) (a : A) (given : List ℕ) (block : Span) (states : List ℕ) (p : Patterns) (haystack : List ℕ) (at sid : ℕ) → TellsBlock G a given block states p haystack
    → block.start ≤ at → at < block.end → sid ≡ get_or states (length states - 1 - (at - block.start)) sid → TellsAt G a given p haystack at sid
tells-here G a given block states p haystack at sid tells from before is =
    let inside : length states - 1 - (at - block.start) < length states = omega (arith, tells.covers, from, before) in
    let same : state_back states (at - block.start) ≡ sid = sym (is ∙ get_or_default_zero states (length states - 1 - (at - block.start)) sid inside) in
    subst (TellsAt G a given p haystack at) same (tells.tells at from before)

pub told_from-requires-clause-fits : goal.told_from-requires-clause-fits
told_from-requires-clause-fits g c =
    let (p, haystack, small, tells) = c.requires.tells in
    let here = tells-here g.W.Of.Automaton (g.W.Walk.of c.args.walk.now) c.args.given.now c.args.block c.args.states.now p haystack c.loop-at.at c.index-states-states.result tells c.loop-at.invariant.from c.loop-at-test.true c.index-states-states.is in
    (length haystack - c.loop-at.at, omega (arith, small, c.loop-at.invariant.within p haystack tells), here.fits)

pub loop-at-preserved-in-Some : goal.loop-at-preserved-in-Some
loop-at-preserved-in-Some g c =
    let a = g.W.Of.Automaton in
    let automaton = g.W.Walk.of c.args.walk.now in
    let at = c.loop-at.at in
    let m = c.in-Some.m in
    let end = c.end-at.ensures.end in
    let best : (p : Patterns) (haystack : List ℕ) → TellsBlock a automaton c.args.given.now c.args.block c.args.states.now p haystack → IsBest p.kind (Occurs p Yes haystack at (length haystack)) m =
    λ p haystack tells.
    subst (IsBestOrNone p.kind (Occurs p Yes haystack at (length haystack))) (sym c.in-Some.ensures.told)
    (tells-here a automaton c.args.given.now c.args.block c.args.states.now p haystack at c.index-states-states.result tells c.loop-at.invariant.from c.loop-at-test.true c.index-states-states.is).best in
    let sized : (p : Patterns) (haystack : List ℕ) → TellsBlock a automaton c.args.given.now c.args.block c.args.states.now p haystack → (m.start ≡ at) × (at < m.end) × (m.end ≤ length haystack) =
    λ p haystack tells. begins-full p tells.full haystack at m (best p haystack tells).0 in
    let (p, haystack, small, tells) = c.requires.tells in
    record {
      from = omega (arith, sized p haystack tells, end, c.loop-at.invariant.from);
      within = λ p haystack tells. omega (arith, sized p haystack tells, end);
      finds = λ p haystack tells before.
          let next = best-begins p tells.full haystack at m c.loop-at.found.items tells.leftmost (best p haystack tells) (c.loop-at.invariant.finds p haystack tells before) in
          subst (λ (k : ℕ). FindsUpTo p haystack k c.push.new.self.items) (sym end)
          (subst (FindsUpTo p haystack m.end) (sym c.in_ok-push-in-Some.ensures.items) next);
    }

pub loop-at-preserved : goal.loop-at-preserved
loop-at-preserved g c =
    let a = g.W.Of.Automaton in
    let automaton = g.W.Walk.of c.args.walk.now in
    let at = c.loop-at.at in
    record {
      from = omega (arith, c.loop-at.invariant.from);
      within = λ p haystack tells. omega (arith, tells.within, c.loop-at-test.true);
      finds = λ p haystack tells before.
          let best = (tells-here a automaton c.args.given.now c.args.block c.args.states.now p haystack at c.index-states-states.result tells c.loop-at.invariant.from c.loop-at-test.true c.index-states-states.is).best in
          let none : IsBestOrNone p.kind (Occurs p Yes haystack at (length haystack)) None = subst (IsBestOrNone p.kind (Occurs p Yes haystack at (length haystack))) (sym c.in-None.ensures.told) best in
          none-begins p tells.full haystack at c.loop-at.found.items none (c.loop-at.invariant.finds p haystack tells before);
    }
