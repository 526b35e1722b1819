-- Each turn of the loop, and what was reached at the end.
use Rattle.std.proofs.Common.{◌≡◌, ◌+◌, inl, inr, ℕ, ◌-◌, List, [], length, refl, sym, ◌∙◌, ap, subst, arith}
use Rattle.std.proofs.lemmas.Bool.{cases_lt}
use Rattle.aho_core.specs.Laws.{Fits, told}
use Rattle.aho_core.specs.Patterns.{Patterns}
use Rattle.aho_core.specs.declared.search.Anchored.TheVariants.{No}
use Rattle.aho_cover.specs.Walks.{LiesAhead, StandsIn}
use Rattle.aho_cover.proofs.Further.{byte-ahead, fits-later, not-some, one-told, stands-fits, stands-further, told-nothing}
use Rattle.aho_cover.proofs.walk.walk_to_match.Given.{Over}
use Rattle.aho_cover.proofs.walk.walk_to_match.Goals.{After-step-sid, else-looks_at, then-looks_at+else-is_some+else-waits_in}
use Rattle.aho_cover.proofs.walk.walk_to_match.Goals as goal

same_walk : (g : Over) (c : After-step-sid g) → c.step-sid.new.self.automaton.now ≡ c.args.walk.now.automaton.now
same_walk g c = c.step-sid.ensures.same ∙ c.loop-count.invariant.same

-- the state is held after one byte more
held_more : (g : Over) (c : After-step-sid g) (p : Patterns) (haystack : List ℕ) → LiesAhead g.A.Automaton c.args.walk.now.automaton.now c.args.at c.args.sid c.args.bytes.now p haystack
    → StandsIn g.A.Automaton c.args.walk.now.automaton.now p haystack c.step-sid.result (c.args.at + (c.loop-count.count + 1))
held_more g c p haystack ahead =
    let n = c.loop-count.count in
    let place : (c.args.at + n) + 1 ≡ c.args.at + (n + 1) = omega arith in
    subst (λ (k : ℕ). StandsIn g.A.Automaton c.args.walk.now.automaton.now p haystack c.step-sid.result k) place
    (stands-further g.A.Automaton c.args.walk.now.automaton.now p haystack (c.args.at + n) c.loop-count.sid _ c.step-sid.result (omega (arith, ahead.within)) (byte-ahead haystack c.args.bytes.now c.args.at n ahead.bytes_are (omega arith))
    ((rw c.loop-count.invariant.same at c.step-sid.ensures.goes_on) p ahead.of) (c.loop-count.invariant.held p haystack ahead))

pub loop-count-preserved : goal.loop-count-preserved
loop-count-preserved g c =
    let d = (goal.at.loop-count-preserved g c).After-step-sid in
    let inv = c.loop-count.invariant in
    let automaton = c.args.walk.now.automaton.now in
    let n = c.loop-count.count in
    let same = same_walk g d in
    let quiet : g.A.Automaton.list automaton c.step-sid.result ≡ [] =
    elim c.if-looks_at.branch [
      | else-looks_at w ↦ (rw same at (w.if-looks_at.ensures.plain refl)).1
      | then-looks_at+else-is_some+else-waits_in w ↦ told-nothing (g.A.Automaton.lengths automaton) (g.A.Automaton.list automaton c.step-sid.result) (c.args.at + n + 1) (sym (rw same at w.told_at-found.ensures.told) ∙ not-some w.told_at-found.result (sym w.is_some.ensures ∙ w.if-is_some.false))
    ] in
    record {
      same = same;
      valid = rw inv.same at c.step-sid.ensures.valid;
      paid = omega (arith, rw inv.same at c.step-sid.ensures.cost, inv.paid);
      held = λ p haystack ahead. held_more g d p haystack ahead;
      plain = λ p haystack ahead k some within. elim (cases_lt (c.args.at + n) k) [
        | inl last ↦
            (let place : c.args.at + (n + 1) ≡ k = omega arith in
            (c.step-sid.result, subst (λ (m : ℕ). StandsIn g.A.Automaton automaton p haystack c.step-sid.result m) place (held_more g d p haystack ahead), quiet))
        | inr before ↦ inv.plain p haystack ahead k some before
      ];
      quiet = λ some. quiet;
    }

pub told_at-found-requires-clause-fits : goal.told_at-found-requires-clause-fits
told_at-found-requires-clause-fits g c =
    let d = (goal.at.told_at-found-requires-clause-fits g c).After-step-sid in
    let (p, haystack, ahead) = c.requires.ahead in
    let a = g.A.Automaton in
    let automaton = c.args.walk.now.automaton.now in
    let n = c.loop-count.count in
    let fits = stands-fits a automaton p haystack (g.met.A.Automaton.laws automaton p ahead.of) (c.args.at + (n + 1)) c.step-sid.result (held_more g d p haystack ahead) in
    subst (λ x. Fits (a.lengths x) ((c.args.at + n + 1) - 0) (a.list x c.step-sid.result)) (sym (same_walk g d)) (fits-later (a.lengths automaton) (a.list automaton c.step-sid.result) (c.args.at + (n + 1)) ((c.args.at + n + 1) - 0) (omega arith) fits)

-- a match is told
pub returns-then-is_some-clause-reaches : goal.returns-then-is_some-clause-reaches
returns-then-is_some-clause-reaches g c p haystack ahead =
    let d = (goal.at.returns-then-is_some-clause-reaches g c).After-step-sid in
    let inv = c.loop-count.invariant in
    let automaton = c.args.walk.now.automaton.now in
    let n = c.loop-count.count in
    let place : c.args.at + n + 1 ≡ c.args.at + (n + 1) = omega arith in
    let before = one-told c.told_at-found.result (n + 1) (sym c.is_some.ensures ∙ c.if-is_some.true) in
    record {
      stands = held_more g d p haystack ahead;
      told_is = rw (same_walk g d) at c.told_at-found.ensures.told ∙ ap (λ (k : ℕ). told (g.A.Automaton.lengths automaton) No 0 k (g.A.Automaton.list automaton c.step-sid.result)) place;
      plain = λ k some within. inv.plain p haystack ahead k some (omega (arith, within, before));
    }

-- a start is held
pub returns-then-waits_in-clause-reaches : goal.returns-then-waits_in-clause-reaches
returns-then-waits_in-clause-reaches g c p haystack ahead =
    let d = (goal.at.returns-then-waits_in-clause-reaches g c).After-step-sid in
    let inv = c.loop-count.invariant in
    let automaton = c.args.walk.now.automaton.now in
    let n = c.loop-count.count in
    let same = same_walk g d in
    let held = held_more g d p haystack ahead in
    let quiet = told-nothing (g.A.Automaton.lengths automaton) (g.A.Automaton.list automaton c.step-sid.result) (c.args.at + n + 1) (sym (rw same at c.told_at-found.ensures.told) ∙ not-some c.told_at-found.result (sym c.is_some.ensures ∙ c.if-is_some.false)) in
    record {
      stands = held;
      told_is = sym (ap (told (g.A.Automaton.lengths automaton) No 0 (c.args.at + (n + 1))) quiet);
      plain = λ k some within. elim (cases_lt (c.args.at + n) k) [
        | inl last ↦
            (let there : c.args.at + (n + 1) ≡ k = omega arith in
            (c.step-sid.result, subst (λ (m : ℕ). StandsIn g.A.Automaton automaton p haystack c.step-sid.result m) there held, quiet))
        | inr before ↦ inv.plain p haystack ahead k some before
      ];
    }

pub returns-clause-reaches : goal.returns-clause-reaches
returns-clause-reaches g c p haystack ahead =
    let inv = c.loop-count.invariant in
    let bytes = c.args.bytes.now in
    let all : c.loop-count.count ≡ length bytes = omega arith in
    record {
      stands = subst (λ (n : ℕ). StandsIn g.A.Automaton c.args.walk.now.automaton.now p haystack c.loop-count.sid (c.args.at + n)) all (inv.held p haystack ahead);
      told_is = sym (ap (told (g.A.Automaton.lengths c.args.walk.now.automaton.now) No 0 (c.args.at + length bytes)) (inv.quiet (omega (arith, c.requires.some))));
      plain = λ k some within. inv.plain p haystack ahead k some (omega arith);
    }
