-- Each way out of the walk, and each turn of its loop.
use Rattle.std.proofs.Common.{◌≡◌, ◌+◌, ◌∷◌, ◌++◌, inl, inr, refl, sym, ◌∙◌, subst, arith, ℕ, Bool, true, List, [], get_or}
use Rattle.std.proofs.lemmas.Bool.{cases_lt}
use Rattle.aho_core.specs.declared.search.Anchored.{Anchored}
use Rattle.aho_core.specs.declared.search.Anchored.TheVariants.{No, Yes}
use Rattle.aho_core.specs.Patterns.{Patterns}
use Rattle.aho_core.specs.Progress.{StandsAt}
use Rattle.aho_automaton.specs.Overlaps.{NoneEnds, ends_at}
use Rattle.aho_automaton.proofs.PartWay.{here_is, none_further, place_low, stands_further}
use Rattle.aho_automaton.proofs.Endings.{nothing_here, dead_ends}
use Rattle.aho_automaton.proofs.overlapping.walk_to.Given.{Over}
use Rattle.aho_automaton.proofs.overlapping.walk_to.Goals.{After-next_state-sid, then-looks_at+else-stops_in+else-has_ended, else-looks_at}
use Rattle.aho_automaton.proofs.overlapping.walk_to.Goals as goal

-- only an anchored search ends, in a dead state
why_ended : (anchored : Anchored) (dead : Bool) → true ≡ ends_at anchored dead → (anchored ≡ Yes) × (dead ≡ true)
why_ended No dead h = cc
why_ended Yes dead h = (refl, sym h)

pub loop-place-init : goal.loop-place-init
loop-place-init g c = record {
  valid = c.requires.stands.2.is_state;
  stands = λ p of s. s;
  none = λ p of s end least most. absurd (omega arith);
}

-- the automaton is at the place where it began
abbrev Began : (g : Over) → After-next_state-sid g → Patterns → Type 0
Began g c p = StandsAt (g.A.Automaton.valid c.args.automaton.now) (g.A.Automaton.held c.args.automaton.now p) p c.args.input.now c.args.sid c.args.at

-- after one more byte
stood : (g : Over) (c : After-next_state-sid g) (p : Patterns) → g.A.Automaton.is_of c.args.automaton.now p → Began g c p
    → StandsAt (g.A.Automaton.valid c.args.automaton.now) (g.A.Automaton.held c.args.automaton.now p) p c.args.input.now c.next_state-sid.result (c.loop-place.place + 1)
stood g c p of began =
    let held = g.A.Automaton.held c.args.automaton.now p in
    stands_further _ held p c.args.input.now c.loop-place.sid c.loop-place.place c.next_state-sid.result (omega arith) (omega arith) c.next_state-sid.ensures.valid
    (λ word is_held.
    subst (λ (xs : List ℕ). held c.args.input.now.anchored (word ++ get_or xs c.loop-place.place 0 ∷ []) c.next_state-sid.result) c.haystack-haystack.ensures.haystack
    (subst (λ (a : Anchored). held a (word ++ get_or c.haystack-haystack.result.now c.loop-place.place 0 ∷ []) c.next_state-sid.result) c.get_anchored-anchored.ensures.anchored
    (c.next_state-sid.ensures.goes_on p of word (subst (λ (a : Anchored). held a word c.loop-place.sid) (sym c.get_anchored-anchored.ensures.anchored) is_held))))
    (c.loop-place.invariant.stands p of began)

-- where the state lists nothing, none ends there
none_listed : (g : Over) (c : After-next_state-sid g) (p : Patterns) (of : g.A.Automaton.is_of c.args.automaton.now p) → Began g c p
    → g.A.Automaton.list c.args.automaton.now c.next_state-sid.result ≡ [] → NoneEnds p c.args.input.now c.args.at (c.loop-place.place + 1 + 1)
none_listed g c p of began nothing =
    let s = stood g c p of began in
    none_further p c.args.input.now c.args.at (c.loop-place.place + 1) (place_low _ _ p c.args.input.now _ _ s) (omega arith)
    (nothing_here (g.met.A.Automaton.laws c.args.automaton.now p of) c.requires.standard _ c.args.input.now _ _ (omega arith) s nothing)
    (c.loop-place.invariant.none p of began)

pub loop-place-preserved : goal.loop-place-preserved
loop-place-preserved g c =
    let d = (goal.at.loop-place-preserved g c).After-next_state-sid in
    record {
      valid = c.next_state-sid.ensures.valid;
      stands = stood g d;
      none = λ p of began.
          none_listed g d p of began
          (elim c.if-looks_at.branch [
            | then-looks_at+else-stops_in+else-has_ended w ↦ w.stops_in.ensures.goes_on w.if-stops_in.false
            | else-looks_at w ↦ (w.if-looks_at.ensures.plain refl).1
          ]);
    }

pub returns-then-stops_in-clause-walks : goal.returns-then-stops_in-clause-walks
returns-then-stops_in-clause-walks g c p of began =
    let d = (goal.at.returns-then-stops_in-clause-walks g c).After-next_state-sid in
    (omega arith, stood g d p of began, c.loop-place.invariant.none p of began)

pub returns-then-has_ended-clause-walks : goal.returns-then-has_ended-clause-walks
returns-then-has_ended-clause-walks g c p of began =
    let d = (goal.at.returns-then-has_ended-clause-walks g c).After-next_state-sid in
    let s = stood g d p of began in
    let why = why_ended _ _ c.if-has_ended.ensures.ended in
    let low = place_low _ _ p c.args.input.now _ _ (c.loop-place.invariant.stands p of began) in
    λ end least most.
    elim (cases_lt end (c.loop-place.place + 1)) [
      | inl sooner ↦ c.loop-place.invariant.none p of began end least sooner
      | inr ge ↦
          here_is p c.args.input.now end (omega arith) (omega arith)
          ∙ dead_ends (g.met.A.Automaton.laws c.args.automaton.now p of) c.requires.standard _ c.args.input.now _ _ end (omega arith) (sym c.get_anchored-anchored.ensures.anchored ∙ why.0) (omega arith) s why.1 (omega arith) (omega arith)
    ]
