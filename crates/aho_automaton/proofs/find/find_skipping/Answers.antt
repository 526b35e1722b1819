-- Each way out of the loop answers, and each turn keeps its invariant.
use Rattle.std.proofs.Common.{◌≤◌, ℕ, List, sym, ◌∙◌, arith}
use Rattle.aho_core.specs.Patterns.{Patterns}
use Rattle.aho_prefilter.specs.Candidate.{NoneStartsBefore}
use Rattle.aho_prefilter.proofs.Skips.{NothingOccurs-answer}
use Rattle.aho_automaton.specs.WalkEnds.{Carries}
use Rattle.aho_automaton.proofs.Origins.{answer_from_origin}
use Rattle.aho_automaton.proofs.Skipping.{NoneLonger-later, carried_on, no_candidate, origin_of, whole_answers}
use Rattle.aho_automaton.proofs.find.find_skipping.Goals as goal

pub returns-in_default-into_option-clause-found : goal.returns-in_default-into_option-clause-found
returns-in_default-into_option-clause-found g c p of =
    let is = rw (c.skips.invariant.same_walk, c.skips.invariant.same_text) at c.candidate_in-candidate.ensures.candidate in
    NothingOccurs-answer p (g.T.Text.bytes c.args.text.now) c.args.span.start c.args.span.end c.args.earliest
    (no_candidate p (g.T.Text.bytes c.args.text.now) c.args.span.start c.args.span.end c.skips.at c.candidate_in-candidate.result (c.skips.invariant.carries p of) (is p of) (sym c.into_option.ensures.place ∙ c.in_default-into_option.is))

-- where a walk that rests begins, nothing starts before
from_here : (p : Patterns) (haystack : List ℕ) (start end at : ℕ) → Carries p haystack start end at → NoneStartsBefore p haystack start end at
from_here p haystack start end at carries = carries at (λ m o. o.after_start)

pub returns-in-Answer-clause-found : goal.returns-in-Answer-clause-found
returns-in-Answer-clause-found g c p of =
    let found = rw (c.skips.invariant.same_walk, c.skips.invariant.same_text) at c.in-Answer.ensures.found in
    answer_from_origin p (g.T.Text.bytes c.args.text.now) c.args.span.start c.skips.at c.args.span.end c.skips.invariant.after_start c.args.earliest _
    (from_here p _ _ _ _ (c.skips.invariant.carries p of)) (found p of)

pub returns-in-Answer-find_from-clause-found : goal.returns-in-Answer-find_from-clause-found
returns-in-Answer-find_from-clause-found g c p of =
    let is = rw (c.skips.invariant.same_walk, c.skips.invariant.same_text) at c.candidate_in-candidate.ensures.candidate in
    let told = origin_of p (g.T.Text.bytes c.args.text.now) c.args.span.start c.args.span.end c.skips.at c.in-Some.origin c.candidate_in-candidate.result (c.skips.invariant.carries p of) (is p of) (sym c.into_option.ensures.place ∙ c.in-Some.is) in
    let found = rw (c.skips.invariant.same_walk, c.skips.invariant.same_text) at c.in-Answer-find_from.ensures.found in
    answer_from_origin p (g.T.Text.bytes c.args.text.now) c.args.span.start c.in-Some.origin c.args.span.end (omega (arith, told.0, c.skips.invariant.after_start)) c.args.earliest _ told.2 (found p of)

pub skips-preserved : goal.skips-preserved
skips-preserved g c =
    let bytes : List ℕ = g.T.Text.bytes c.args.text.now in
    let is = rw (c.skips.invariant.same_walk, c.skips.invariant.same_text) at c.candidate_in-candidate.ensures.candidate in
    let told : (p : Patterns) → g.W.Of.Automaton.is_of (g.W.Walk.of c.args.walk.now) p → (c.skips.at ≤ c.in-Some.origin) × (c.in-Some.origin ≤ c.args.span.end) × NoneStartsBefore p bytes c.args.span.start c.args.span.end c.in-Some.origin =
    λ p of. origin_of p bytes c.args.span.start c.args.span.end c.skips.at c.in-Some.origin c.candidate_in-candidate.result (c.skips.invariant.carries p of) (is p of) (sym c.into_option.ensures.place ∙ c.in-Some.is) in
    let here = told c.requires.of.0 c.requires.of.1 in
    let from : c.skips.at ≤ c.in-Some.origin = here.0 in
    let waits = c.in-Waits-find_from.ensures.waits_within in
    let goes = rw (c.skips.invariant.same_walk, c.skips.invariant.same_text) at c.in-Waits-find_from.ensures.waits_for in
    record {
      same_walk = c.find_from.ensures.untouched.same_walk ∙ c.skips.invariant.same_walk;
      same_text = c.find_from.ensures.untouched.same_text ∙ c.skips.invariant.same_text;
      after_start = omega (arith, waits.0, c.skips.invariant.after_start);
      before_end = omega (arith, waits.1);
      unread = omega (arith, waits.2);
      forward = omega (arith, c.find_from.ensures.reads.forward, c.skips.invariant.forward);
      paid = omega (arith, c.find_from.ensures.costs.two_a_byte, c.skips.invariant.paid, c.skips.invariant.reads_grow, c.find_from.ensures.costs.reads_grow);
      once = omega (arith, c.find_from.ensures.costs.once, c.skips.invariant.once, c.skips.invariant.unread, c.skips.invariant.after_start, c.find_from.ensures.reads.forward, waits.2, waits.0);
      reads_grow = omega (arith, c.skips.invariant.reads_grow, c.find_from.ensures.costs.reads_grow);
      grows = omega (arith, c.find_from.ensures.costs.grows, c.skips.invariant.grows);
      carries = λ p of. carried_on p bytes c.args.span.start c.in-Some.origin c.args.span.end c.in-Waits-find_from.place (omega (arith, c.skips.invariant.after_start)) (told p of).2 (goes p of);
    }

pub skips-preserved-in-Waits : goal.skips-preserved-in-Waits
skips-preserved-in-Waits g c =
    let bytes : List ℕ = g.T.Text.bytes c.args.text.now in
    let waits = c.in-Waits.ensures.waits_within in
    let goes = rw (c.skips.invariant.same_walk, c.skips.invariant.same_text) at c.in-Waits.ensures.waits_for in
    record {
      same_walk = c.find_resting.ensures.untouched.same_walk ∙ c.skips.invariant.same_walk;
      same_text = c.find_resting.ensures.untouched.same_text ∙ c.skips.invariant.same_text;
      after_start = omega (arith, waits.0, c.skips.invariant.after_start);
      before_end = omega (arith, waits.1);
      unread = omega (arith, waits.2);
      forward = omega (arith, c.find_resting.ensures.reads.forward, c.skips.invariant.forward);
      paid = omega (arith, c.find_resting.ensures.costs.two_a_byte, c.skips.invariant.paid, c.skips.invariant.reads_grow, c.find_resting.ensures.costs.reads_grow);
      once = omega (arith, c.find_resting.ensures.costs.once, c.skips.invariant.once, c.skips.invariant.unread, c.skips.invariant.after_start, c.find_resting.ensures.reads.forward, waits.2, waits.0);
      reads_grow = omega (arith, c.skips.invariant.reads_grow, c.find_resting.ensures.costs.reads_grow);
      grows = omega (arith, c.find_resting.ensures.costs.grows, c.skips.invariant.grows);
      carries = λ p of. carried_on p bytes c.args.span.start c.skips.at c.args.span.end c.in-Waits.place c.skips.invariant.after_start (from_here p _ _ _ _ (c.skips.invariant.carries p of)) (goes p of);
    }

pub returns-then-not-earliest-clause-found : goal.returns-then-not-earliest-clause-found
returns-then-not-earliest-clause-found g c p of =
    let is = rw (c.skips.invariant.same_walk, c.skips.invariant.same_text) at c.candidate_in-candidate.ensures.candidate in
    whole_answers p (g.T.Text.bytes c.args.text.now) c.args.span.start c.args.span.end c.skips.at c.args.earliest _ c.if-not-earliest.true (omega (arith, c.skips.invariant.after_start)) (c.skips.invariant.carries p of)
    (rw c.in-Match.is at (is p of))

pub find_from-requires-clause-reach : goal.find_from-requires-clause-reach
find_from-requires-clause-reach g c may p of =
    let is = rw (c.skips.invariant.same_walk, c.skips.invariant.same_text) at c.candidate_in-candidate.ensures.candidate in
    let of_first = rw c.skips.invariant.same_walk at of in
    let told = origin_of p (g.T.Text.bytes c.args.text.now) c.args.span.start c.args.span.end c.skips.at c.in-Some.origin c.candidate_in-candidate.result (c.skips.invariant.carries p of_first) (is p of_first) (sym c.into_option.ensures.place ∙ c.in-Some.is) in
    let longest = NoneLonger-later p (g.T.Text.bytes c.args.text.now) c.args.span.start c.in-Some.origin c.args.span.end c.args.reach (omega (arith, told.0, c.skips.invariant.after_start)) (c.requires.reach p of_first) in
    rw (sym c.skips.invariant.same_text) at longest
