-- The walk to the byte's entry, or to its gap.
use Rattle.std.proofs.Common.{◌≡◌, ◌≢◌, ℕ, ◌-◌, ◌<◌, ◌≤◌, List, arith, refl, sym, ap, subst, inl, inr}
use Rattle.aho_table.specs.Rings.{IsRun, IsPassed, stop}
use Rattle.aho_table.specs.ListsInside.{transition_of, transition_entries, first, between}
use Rattle.aho_table.specs.declared.lists.transitions.Transition.{Transition}
use Rattle.aho_table.proofs.Runs.{run-next, passed-next, last-passed}
use Rattle.aho_table.proofs.lists.transitions.walked_place.Goals as goal

pub returns-then-end-byte-clause-found : goal.returns-then-end-byte-clause-found
returns-then-end-byte-clause-found c =
    let joined = c.requires.rings.joined c.args.last c.requires.some c.requires.within c.requires.ends in
    record { passed = last-passed joined.1; of_byte = omega (arith, ap (λ (t : Transition). t.byte) c.entry-end.ensures.entry) }

pub walk-init : goal.walk-init
walk-init c =
    let link = ap (λ (t : Transition). t.link) c.entry-end.ensures.entry in
    let joined = c.requires.rings.joined c.args.last c.requires.some c.requires.within c.requires.ends in
    record {
      at_in = rw link (c.requires.rings.within c.args.last c.requires.within);
      before_in = c.requires.within;
      transition = c.entry-transition.ensures.entry;
      passed = stop (sym link);
      run = (joined.0, subst (λ (n : ℕ). IsRun (transition_entries c.args.entries.now) c.args.last n joined.0) (sym link) joined.1);
      behind = inl (refl, link);
    }

-- what the walk reads is below the byte, and so not the last
ahead : (entries : List Transition) (last at byte : ℕ) (transition : Transition) → byte ≤ (transition_of entries last).byte → transition ≡ transition_of entries at → transition.byte < byte
    → at ≢ last
ahead entries last at byte transition above is less same =
    omega (arith, ap (λ (t : Transition). t.byte) is, ap (λ (n : ℕ). (transition_of entries n).byte) same)

pub walk-preserved : goal.walk-preserved
walk-preserved c =
    let link = ap (λ (t : Transition). t.link) c.walk.invariant.transition in
    let above : c.args.byte ≤ (transition_of c.args.entries.now c.args.last).byte = omega (arith, ap (λ (t : Transition). t.byte) c.entry-end.ensures.entry) in
    let ne = ahead c.args.entries.now c.args.last c.walk.at c.args.byte c.walk.transition above c.walk.invariant.transition c.walk-test.true in
    let next = run-next c.walk.invariant.run.1 ne in
    record {
      at_in = rw link (c.requires.rings.within c.walk.at c.walk.invariant.at_in);
      before_in = c.walk.invariant.at_in;
      transition = c.entry-transition-in-walk.ensures.entry;
      passed = subst (λ (n : ℕ). IsPassed (transition_entries c.args.entries.now) c.args.last n (transition_of c.args.entries.now c.args.last).link) (sym link)
          (passed-next c.walk.invariant.passed ne next.1);
      run = (next.0, subst (λ (n : ℕ). IsRun (transition_entries c.args.entries.now) c.args.last n next.0) (sym link) next.2);
      behind = inr (ne, c.walk.invariant.passed, omega (arith, ap (λ (t : Transition). t.byte) c.walk.invariant.transition), link);
    }

pub walk-smaller : goal.walk-smaller
walk-smaller c =
    let link = ap (λ (t : Transition). t.link) c.walk.invariant.transition in
    let above : c.args.byte ≤ (transition_of c.args.entries.now c.args.last).byte = omega (arith, ap (λ (t : Transition). t.byte) c.entry-end.ensures.entry) in
    let ne = ahead c.args.entries.now c.args.last c.walk.at c.args.byte c.walk.transition above c.walk.invariant.transition c.walk-test.true in
    let next = run-next c.walk.invariant.run.1 ne in
    let less : (transition_of c.args.entries.now c.walk.at).byte < (transition_of c.args.entries.now c.walk.transition.link).byte = rw link next.1 in
    let below : (transition_of c.args.entries.now c.walk.at).byte < c.args.byte = omega (arith, ap (λ (t : Transition). t.byte) c.walk.invariant.transition) in
    let smaller : c.args.byte - (transition_of c.args.entries.now c.walk.transition.link).byte < c.args.byte - (transition_of c.args.entries.now c.walk.at).byte = omega arith in
    smaller

pub returns-then-transition-byte : goal.returns-then-transition-byte
returns-then-transition-byte c =
    let found : (transition_of c.args.entries.now c.walk.at).byte ≡ c.args.byte = omega (arith, ap (λ (t : Transition). t.byte) c.walk.invariant.transition) in
    record { found = record { passed = c.walk.invariant.passed; of_byte = found }; absent = tt; inside = c.walk.invariant.at_in; inside_gap = tt }

pub returns-else-transition-byte : goal.returns-else-transition-byte
returns-else-transition-byte c =
    let more : c.args.byte < (transition_of c.args.entries.now c.walk.at).byte = omega (arith, ap (λ (t : Transition). t.byte) c.walk.invariant.transition, c.if-transition-byte.false) in
    let below : c.args.byte < (transition_of c.args.entries.now c.args.last).byte = omega (arith, ap (λ (t : Transition). t.byte) c.entry-end.ensures.entry, c.if-end-byte.false) in
    record {
      found = tt;
      absent = elim c.walk.invariant.behind [
        | inl front ↦ first front.0 (subst (λ (n : ℕ). c.args.byte < (transition_of c.args.entries.now n).byte) front.1 more) below
        | inr inner ↦ between inner.0 inner.1 inner.2 (subst (λ (n : ℕ). c.args.byte < (transition_of c.args.entries.now n).byte) inner.3 more)
      ];
      inside = tt;
      inside_gap = c.walk.invariant.before_in;
    }
