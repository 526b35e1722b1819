-- From block to block.
use Rattle.std.proofs.Common.{◌≡◌, ◌⊎◌, ◌+◌, ◌-◌, ◌≤◌, inl, inr, ℕ, List, length, min, sym, ◌∙◌, subst, arith}
use Rattle.std.specs.Prelude.{slice_range}
use Rattle.std.proofs.lemmas.Bool.{cases_lt}
use Rattle.aho_core.specs.Laws.{Reads, longest}
use Rattle.aho_core.specs.Patterns.{Patterns}
use Rattle.aho_laws.proofs.SpanTexts.{length_part}
use Rattle.aho_automaton.specs.declared.automaton.Automaton.{Ghosts as Automata}
use Rattle.aho_backward.specs.Backward.{AreHeldBack, FindsUpTo, IsTurnedFrom, TellsBlock}
use Rattle.aho_backward.specs.Turned.{turned}
use Rattle.aho_backward.proofs.BlockStates.{block-tells}
use Rattle.aho_backward.proofs.Passing.{all-found}
use Rattle.aho_backward.proofs.find_all.find_by_blocks.Goals as goal

-- the states of a walk over a block and what lies behind it tell what begins in the block
block-told : {A : Type 0} (G : Automata A) (a a' : A) (given : List ℕ) (p : Patterns) (from : IsTurnedFrom G a given p)
    → Reads (turned p given) (G.kind a) (G.lengths a) (G.held a (turned p given)) (G.list a) (G.dead a) (G.starts a)
    → (haystack : List ℕ) (at reach places count behind : ℕ) (states states' : List ℕ) → a' ≡ a → states' ≡ states → at ≤ length haystack → count ≡ min places (length haystack - at)
    → behind ≡ min reach (length haystack - (at + count)) → longest (G.lengths a) ≤ reach → AreHeldBack G a (slice_range haystack at (at + count + behind)) states
    → TellsBlock G a' given (record { start = at; end = at + count }) states' p haystack
block-told G a a' given p from laws haystack at reach places count behind states states' same_a same_states within count_is behind_is far held =
    let far : (at + count + behind ≡ length haystack) ⊎ (at + count + longest (G.lengths a) ≤ at + count + behind) = elim (cases_lt reach (length haystack - (at + count))) [
      | inl less ↦ inr (omega (arith, behind_is, far))
      | inr more ↦ inl (omega (arith, behind_is, count_is))
    ] in
    subst (λ x. TellsBlock G x given (record { start = at; end = at + count }) states' p haystack) (sym same_a)
    (subst (λ (xs : List ℕ). TellsBlock G a given (record { start = at; end = at + count }) xs p haystack) (sym same_states)
    (block-tells G a given p from laws haystack at (at + count) (at + count + behind) states (omega arith) (omega arith) (omega (arith, behind_is, count_is)) far held))

pub choose-requires-clause-tells : goal.choose-requires-clause-tells
choose-requires-clause-tells g c =
    let (p, from) = c.requires.of in
    let a = g.W.Of.Automaton in
    let automaton = g.W.Walk.of c.args.walk.now in
    let inv = c.loop-at.invariant in
    let held = rw inv.same at c.in_ok-walk_back.ensures.held in (
      p,
      c.args.haystack.now,
      omega arith,
      block-told a automaton (g.W.Walk.of c.walk_back.new.walk) c.args.given.now p from (g.met.W.Of.Automaton.laws automaton (turned p c.args.given.now) from.of) c.args.haystack.now c.loop-at.at c.args.reach c.args.places
          c.min.result c.min-in-loop-at.result c.walk_back.new.states.items c.deref.result.now (c.in_ok-walk_back.ensures.same ∙ inv.same) c.deref.ensures.value inv.within c.min.ensures c.min-in-loop-at.ensures c.requires.reach held,
    )

pub loop-at-preserved : goal.loop-at-preserved
loop-at-preserved g c =
    let a = g.W.Of.Automaton in
    let automaton = g.W.Walk.of c.args.walk.now in
    let haystack = c.args.haystack.now in
    let inv = c.loop-at.invariant in
    let held = rw inv.same at c.in_ok-walk_back.ensures.held in
    let same : g.W.Walk.of c.walk_back.new.walk ≡ automaton = c.in_ok-walk_back.ensures.same ∙ inv.same in
    let seen = c.loop-at.at + c.min.result + c.min-in-loop-at.result in
    let size : length (slice_range haystack c.loop-at.at seen) ≡ seen - c.loop-at.at = length_part haystack c.loop-at.at seen (omega (arith, inv.within, c.min.ensures, c.min-in-loop-at.ensures)) in
    let told : (p : Patterns) → IsTurnedFrom a automaton c.args.given.now p
    → TellsBlock a (g.W.Walk.of c.walk_back.new.walk) c.args.given.now (record { start = c.loop-at.at; end = c.loop-at.at + c.min.result }) c.deref.result.now p haystack =
    λ p from.
    block-told a automaton (g.W.Walk.of c.walk_back.new.walk) c.args.given.now p from (g.met.W.Of.Automaton.laws automaton (turned p c.args.given.now) from.of) haystack c.loop-at.at c.args.reach c.args.places
    c.min.result c.min-in-loop-at.result c.walk_back.new.states.items c.deref.result.now same c.deref.ensures.value inv.within c.min.ensures c.min-in-loop-at.ensures c.requires.reach held in
    let (p, from) = c.requires.of in
    record {
      same = same;
      within = c.in_ok-at.ensures.within p haystack (told p from);
      paid = omega (arith, size, c.in_ok-walk_back.ensures.cost, inv.paid, c.in_ok-at.ensures.further, c.min.ensures, c.min-in-loop-at.ensures, c.requires.wide, inv.within);
      finds = λ p from. c.in_ok-at.ensures.finds p haystack (told p from) (inv.finds p from);
    }

pub returns-clause-found : goal.returns-clause-found
returns-clause-found g c p from =
    let haystack = c.args.haystack.now in
    let inv = c.loop-at.invariant in
    let all : c.loop-at.at ≡ length haystack = omega (arith, inv.within) in
    all-found p from.full haystack c.loop-at.found.items (subst (λ (k : ℕ). FindsUpTo p haystack k c.loop-at.found.items) all (inv.finds p from))
