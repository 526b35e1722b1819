-- From one run to the next.
use Rattle.std.proofs.Common.{◌≡◌, ℕ, ◌+◌, ◌<◌, ◌∙◌, min, List, [], ◌∷◌, length, Option, Some, None, sym, subst, ap, arith, length-drop}
use Rattle.std.specs.Prelude.{◌⊎◌, OnSome, IfNone, IfSome, slice_get}
use Rattle.aho_core.specs.Laws.{longest}
use Rattle.aho_core.specs.Occurrence.{Occurrence}
use Rattle.aho_core.specs.Patterns.{Patterns}
use Rattle.aho_automaton.specs.Covering.{FirstIsSettled, runs_in}
use Rattle.aho_automaton.specs.CoverStanding.{CoversUpto}
use Rattle.aho_automaton.specs.CoverIters.{CanCover, HasGivenRuns, runs_left}
use Rattle.aho_automaton.specs.declared.cover.CoverIter.{CoverIter}
use Rattle.aho_automaton.proofs.CoverSteps.{upto-next}
use Rattle.aho_automaton.proofs.cover.CoverIterIterator.next.Given.{Over}
use Rattle.aho_automaton.proofs.cover.CoverIterIterator.next.Goals.{After-pop}
use Rattle.aho_automaton.proofs.cover.CoverIterIterator.next.Goals as goal

-- what is said of a first element, where there is one
on-first : (hand : List Occurrence) (r : Option Occurrence) (P : Type 0) → r ≡ slice_get hand 0 → (0 < length hand → P) → OnSome r P
on-first hand None P e h = tt
on-first [] (Some x) P e h = cc
on-first (y ∷ hand) (Some x) P e h = h (omega arith)

if-some : (r : Option Occurrence) (P : Type 0) → P → IfSome r (λ _. P)
if-some None P h = tt
if-some (Some x) P h = h

if-none : (r : Option Occurrence) (P : Type 0) → P → IfNone r P
if-none None P h = h
if-none (Some x) P h = tt

-- once the first run in hand can be given, it is the next one
next_run : (g : Over) (c : After-pop g) (p : Patterns) (n : ℕ) → g.A.Automaton.is_of c.args.self.now.walk.automaton.now p → HasGivenRuns g.A.Automaton c.args.self.now p n
    → (c.pop.result ≡ slice_get (runs_in p c.args.self.now.haystack.now) n)
    × CoversUpto g.A.Automaton c.advance.new.self.walk.automaton.now c.advance.new.self.haystack.now p c.advance.new.self.sid c.advance.new.self.at c.pop.new.self.runs.items (min (n + 1) (length (runs_in p c.args.self.now.haystack.now)))
next_run g c p n of h =
    let a = g.A.Automaton in
    let it = c.advance.new.self in
    let automaton = it.walk.automaton.now in
    let reads = c.advance.ensures.reads in
    let can = c.advance.ensures.can in
    let still : a.is_of automaton p = subst (λ x. a.is_of x p) (sym reads.over.same_automaton) of in
    let ready : (it.at ≡ length it.haystack.now) ⊎ FirstIsSettled (longest (a.lengths automaton)) it.at it.hand.runs.items =
    subst (λ (far : ℕ). (it.at ≡ length it.haystack.now) ⊎ FirstIsSettled far it.at it.hand.runs.items) can.far_is c.advance.ensures.ready in
    let next = upto-next a automaton it.haystack.now p still can.standard (g.met.A.Automaton.laws automaton p still) it.sid it.at n it.hand.runs.items (reads.given p n of h) ready in (
      c.pop.ensures.first ∙ next.0 ∙ ap (λ (haystack : List ℕ). slice_get (runs_in p haystack) n) reads.over.same_haystack,
      subst (λ (haystack : List ℕ). CoversUpto a automaton it.haystack.now p it.sid it.at c.pop.new.self.runs.items (min (n + 1) (length (runs_in p haystack)))) reads.over.same_haystack
          (subst (λ (runs : List Occurrence). CoversUpto a automaton it.haystack.now p it.sid it.at runs (min (n + 1) (length (runs_in p it.haystack.now)))) (sym c.pop.ensures.rest) next.1),
    )

pub returns : goal.returns
returns g c =
    let a = g.A.Automaton in
    let it = c.advance.new.self in
    let reads = c.advance.ensures.reads in
    let can = c.advance.ensures.can in
    let after : CoverIter g.row.A.Denot = record { walk = it.walk; haystack = it.haystack; far = it.far; at = it.at; sid = it.sid; hand = c.pop.new.self } in
    let stands = c.requires.stands in
    let d = (goal.at.returns g c).After-pop in
    let can_again : CanCover a after =
    record {
      standard = can.standard;
      no_empty = can.no_empty;
      far_is = can.far_is;
      stands = (stands.0, _, subst (λ x. a.is_of x stands.0) (sym reads.over.same_automaton) stands.2, (next_run g d stands.0 stands.1 stands.2 stands.3).1);
      roomy = c.pop.ensures.same_room ∙ can.roomy;
      cheap = can.cheap;
    } in
    let fewer : 0 < length it.hand.runs.items → runs_left after < runs_left c.args.self.now =
    λ some. omega (arith, some, reads.no_more, ap length c.pop.ensures.rest, length-drop 1 it.hand.runs.items) in
    record {
      steps = record { over = record { same_automaton = reads.over.same_automaton; same_haystack = reads.over.same_haystack }; given_is = λ p n of h. (next_run g d p n of h).0; goes_on = λ p n of h. (next_run g d p n of h).1 };
      goes = record {
        on = λ _. on-first it.hand.runs.items c.pop.result _ c.pop.ensures.first (λ some. (can_again, tt, fewer some));
        keeps = if-some c.pop.result _ can_again;
        rests = λ _. if-none c.pop.result _ tt;
      };
    }
