-- Each way out of the search answers, and each turn of the loop keeps its invariant.
use Rattle.std.proofs.Common.{◌≡◌, ◌+◌, refl, sym, ◌∙◌, ap, subst, arith, rules, true, false, ℕ, ◌∷◌, ◌++◌, [], get_or}
use Rattle.std.specs.Prelude.{slice_range}
use Rattle.aho_core.specs.Laws.{first_is_answer}
use Rattle.aho_core.specs.Patterns.{Patterns}
use Rattle.aho_automaton.proofs.Told.{is_none}
use Rattle.aho_automaton.proofs.Walks.{Standing, stands_at_start, stands_silent, stands_unlisted, stands_first, stands_last, answer_at_end, answer_when_dead, answer_found, not_before, later, near_at_start, near_further, anchored_near_further}
use Rattle.aho_automaton.proofs.Skipping.{jumps_there, waits_there}
use Rattle.aho_automaton.proofs.find.find_from.Given.{Over}
use Rattle.aho_automaton.proofs.find.find_from.Goals.{After-step-sid, After-waits_in_starts-waits, Joined-looks_at, then-looks_at+else-is_dead+in-Some+else-stops-2, then-looks_at+else-is_dead+in_default+else-waits_in, else-looks_at, else-stops-via-then-stops+else-is_some, else-stops-via-else-stops}
use Rattle.aho_automaton.proofs.find.find_from.Goals as goal

-- a match that is told before the first byte is the answer of a search that stops there
pub returns-then-is_some-clause-found : goal.returns-then-is_some-clause-found
returns-then-is_some-clause-found g c p of =
    let laws = g.met.W.Of.Automaton.laws (g.W.Walk.of c.args.walk.now) p of in
    answer_found laws _ _ _ _ c.args.span.start _ _ _ (cc (c.stops_at_first-stops.ensures.first, c.if-stops.true)) (search rules) (omega arith) (omega arith) (omega arith) (not_before p _ _ _)
    (stands_at_start laws _ _ _ _ _ (c.requires.begins.held p of) c.told_at-best.ensures.told)

-- before the first byte
begun : (g : Over) (c : After-waits_in_starts-waits g) (p : Patterns) → g.W.Of.Automaton.is_of (g.W.Walk.of c.args.walk.now) p
    → Standing p (g.W.Of.Automaton.held (g.W.Walk.of c.args.walk.now) p) c.args.anchored (g.T.Text.bytes c.args.text.now) c.args.span.start c.args.span.start c.args.sid c.told_at-best.result
begun g c p of = stands_at_start (g.met.W.Of.Automaton.laws _ p of) _ _ _ _ _ (c.requires.begins.held p of) c.told_at-best.ensures.told

pub loop-from-init : goal.loop-from-init
loop-from-init g c = record {
  same_walk = refl;
  same_text = refl;
  unread = c.requires.unread;
  forward = omega arith;
  paid = omega (arith, c.requires.begins.shallow);
  once = omega arith;
  reads_grow = omega arith;
  grows = omega arith;
  valid = c.requires.begins.valid;
  quiet = λ stops. elim c.else-stops.branch [ else-stops-via-then-stops+else-is_some w ↦ is_none _ w.if-is_some.ensures | else-stops-via-else-stops w ↦ cc (c.stops_at_first-stops.ensures.first, w.if-stops.false, stops) ];
  near = λ unanchored leftmost m e. near_at_start (g.met.W.Of.Automaton.laws _ _ c.requires.of.1) _ _ _ _ _ m (omega arith) (begun g c _ c.requires.of.1) e;
  anchored_near = λ is_anchored. omega arith;
  low = omega arith;
  here = omega arith;
  within = omega arith;
  stands = begun g c;
}

-- the walk is over the same automaton
same_walk : (g : Over) (c : After-step-sid g) → g.W.Walk.of c.step-sid.new.self ≡ g.W.Walk.of c.args.walk.now
same_walk g c = c.step-sid.ensures.same ∙ c.loop-at.invariant.same_walk

-- the state is held after one more byte
held_after : (g : Over) (c : After-step-sid g) (p : Patterns) → g.W.Of.Automaton.is_of (g.W.Walk.of c.args.walk.now) p
    → g.W.Of.Automaton.held (g.W.Walk.of c.args.walk.now) p c.args.anchored (slice_range (g.T.Text.bytes c.args.text.now) c.args.span.start c.loop-at.at ++ get_or (g.T.Text.bytes c.args.text.now) c.loop-at.at 0 ∷ []) c.step-sid.result
held_after g c p of =
    let read : c.byte-byte.result ≡ get_or (g.T.Text.bytes c.args.text.now) c.loop-at.at 0 = c.byte-byte.ensures.read ∙ ap (λ xs. get_or xs c.loop-at.at 0) c.loop-at.invariant.same_text in
    subst (λ (x : ℕ). g.W.Of.Automaton.held (g.W.Walk.of c.args.walk.now) p c.args.anchored (slice_range (g.T.Text.bytes c.args.text.now) c.args.span.start c.loop-at.at ++ x ∷ []) c.step-sid.result) read
    ((rw c.loop-at.invariant.same_walk at c.step-sid.ensures.goes_on) p of _ (c.loop-at.invariant.stands p of).held_now)

-- the same of what follows a look at the state
same_joined : (g : Over) (c : Joined-looks_at g) → g.W.Walk.of c.step-sid.new.self ≡ g.W.Walk.of c.args.walk.now
same_joined g c = c.step-sid.ensures.same ∙ c.loop-at.invariant.same_walk

held_joined : (g : Over) (c : Joined-looks_at g) (p : Patterns) → g.W.Of.Automaton.is_of (g.W.Walk.of c.args.walk.now) p
    → g.W.Of.Automaton.held (g.W.Walk.of c.args.walk.now) p c.args.anchored (slice_range (g.T.Text.bytes c.args.text.now) c.args.span.start c.loop-at.at ++ get_or (g.T.Text.bytes c.args.text.now) c.loop-at.at 0 ∷ []) c.step-sid.result
held_joined g c p of =
    let read : c.byte-byte.result ≡ get_or (g.T.Text.bytes c.args.text.now) c.loop-at.at 0 = c.byte-byte.ensures.read ∙ ap (λ xs. get_or xs c.loop-at.at 0) c.loop-at.invariant.same_text in
    subst (λ (x : ℕ). g.W.Of.Automaton.held (g.W.Walk.of c.args.walk.now) p c.args.anchored (slice_range (g.T.Text.bytes c.args.text.now) c.args.span.start c.loop-at.at ++ x ∷ []) c.step-sid.result) read
    ((rw c.loop-at.invariant.same_walk at c.step-sid.ensures.goes_on) p of _ (c.loop-at.invariant.stands p of).held_now)

-- what is held at a dead state is the answer
pub returns-then-is_dead-clause-found : goal.returns-then-is_dead-clause-found
returns-then-is_dead-clause-found g c p of =
    let d = (goal.at.returns-then-is_dead-clause-found g c).After-step-sid in
    answer_when_dead (g.met.W.Of.Automaton.laws _ p of) _ _ _ _ c.loop-at.at _ _ _ _ c.loop-at.invariant.quiet (rw (same_walk g d) at (sym c.if-is_dead.ensures.dead)) (omega arith) (omega arith) (omega arith) (held_after g d p of) (c.loop-at.invariant.stands p of)

-- the first match that is told is the answer of a search that stops there
pub returns-then-stops-2-clause-found : goal.returns-then-stops-2-clause-found
returns-then-stops-2-clause-found g c p of =
    let d = (goal.at.returns-then-stops-2-clause-found g c).After-step-sid in
    let laws = g.met.W.Of.Automaton.laws (g.W.Walk.of c.args.walk.now) p of in
    let stops : first_is_answer (g.W.Of.Automaton.kind (g.W.Walk.of c.args.walk.now)) c.args.earliest ≡ true = cc (c.stops_at_first-stops.ensures.first, c.if-stops-2.true) in
    let none = c.loop-at.invariant.quiet stops in
    let stands = c.loop-at.invariant.stands p of in
    answer_found laws _ _ _ _ (c.loop-at.at + 1) _ c.step-sid.result _ stops refl (omega arith) (omega arith) (omega arith)
    (later laws _ _ _ _ _ _ (omega arith) (omega arith) none stands)
    (stands_first laws _ _ _ _ _ _ _ _ (omega arith) (omega arith) (held_after g d p of) (rw (same_walk g d) at c.in-Some.ensures.told) none stands)

-- after one more byte
stood : (g : Over) (c : Joined-looks_at g) (p : Patterns) → g.W.Of.Automaton.is_of (g.W.Walk.of c.args.walk.now) p
    → Standing p (g.W.Of.Automaton.held (g.W.Walk.of c.args.walk.now) p) c.args.anchored (g.T.Text.bytes c.args.text.now) c.args.span.start (c.loop-at.at + 1) c.step-sid.result c.if-looks_at.best
stood g c p of =
    let laws = g.met.W.Of.Automaton.laws (g.W.Walk.of c.args.walk.now) p of in
    let stands = c.loop-at.invariant.stands p of in
    let held = held_joined g c p of in
    elim c.if-looks_at.branch [
      | then-looks_at+else-is_dead+in-Some+else-stops-2 w ↦
          stands_last laws _ _ _ c.args.earliest _ _ _ _ _ _ (cc (c.stops_at_first-stops.ensures.first, w.if-stops-2.false)) (omega arith) (omega arith) held (rw (same_joined g c) at w.in-Some.ensures.told) stands w.best-is
      | then-looks_at+else-is_dead+in_default+else-waits_in w ↦
          stands_silent laws _ _ _ _ _ _ _ _ (omega arith) (omega arith) held (rw (same_joined g c) at w.in_default.ensures.told) stands w.best-is
      | else-looks_at w ↦
          stands_unlisted laws _ _ _ _ _ _ _ _ (omega arith) (omega arith) held (rw (same_joined g c) at (w.if-looks_at.ensures.plain refl)).1 stands w.best-is
    ]

-- a search that goes on is not at a dead state
alive : (g : Over) (c : Joined-looks_at g) → g.W.Of.Automaton.dead (g.W.Walk.of c.args.walk.now) c.step-sid.result ≡ false
alive g c =
    elim c.if-looks_at.branch [
      | then-looks_at+else-is_dead+in-Some+else-stops-2 w ↦ sym (rw (same_joined g c) at w.if-is_dead.ensures.dead)
      | then-looks_at+else-is_dead+in_default+else-waits_in w ↦ sym (rw (same_joined g c) at w.if-is_dead.ensures.dead)
      | else-looks_at w ↦ (rw (same_joined g c) at (w.if-looks_at.ensures.plain refl)).0
    ]

pub loop-at-preserved : goal.loop-at-preserved
loop-at-preserved g c =
    let d = (goal.at.loop-at-preserved g c).After-step-sid in
    let e = (goal.at.loop-at-preserved g c).Joined-looks_at in
    record {
      same_walk = same_walk g d;
      same_text = c.byte-byte.ensures.same ∙ c.loop-at.invariant.same_text;
      unread = omega (arith, c.byte-byte.ensures.passed);
      forward = omega (arith, c.byte-byte.ensures.passed, c.loop-at.invariant.forward, c.loop-at.invariant.unread);
      paid = omega (arith, rw c.loop-at.invariant.same_walk at c.step-sid.ensures.cost, c.loop-at.invariant.paid, c.byte-byte.ensures.counted, c.loop-at.invariant.reads_grow);
      once = omega (arith, c.byte-byte.ensures.counted, c.byte-byte.ensures.passed, c.loop-at.invariant.once, c.loop-at.invariant.unread, c.loop-at.invariant.reads_grow);
      reads_grow = omega (arith, c.byte-byte.ensures.counted, c.loop-at.invariant.reads_grow);
      grows = omega (arith, c.step-sid.ensures.grows, c.loop-at.invariant.grows);
      valid = rw c.loop-at.invariant.same_walk at c.step-sid.ensures.valid;
      quiet = λ stops. elim c.if-looks_at.branch [
        | then-looks_at+else-is_dead+in-Some+else-stops-2 w ↦ cc (c.stops_at_first-stops.ensures.first, w.if-stops-2.false, stops)
        | then-looks_at+else-is_dead+in_default+else-waits_in w ↦ w.best-is ∙ c.loop-at.invariant.quiet stops
        | else-looks_at w ↦ w.best-is ∙ c.loop-at.invariant.quiet stops
      ];
      near = λ unanchored leftmost m is. near_further (g.met.W.Of.Automaton.laws _ _ c.requires.of.1) _ _ _ (c.loop-at.at + 1) _ _ m unanchored leftmost (omega arith) (alive g e) (stood g e _ c.requires.of.1) is;
      anchored_near = λ is_anchored. anchored_near_further (g.met.W.Of.Automaton.laws _ _ c.requires.of.1) _ _ _ (c.loop-at.at + 1) _ _ is_anchored (omega arith) (omega arith) (alive g e) (stood g e _ c.requires.of.1);
      stands = stood g e;
    }

-- what is held at the end of the span is the answer
pub returns-clause-found : goal.returns-clause-found
returns-clause-found g c p of =
    answer_at_end (g.met.W.Of.Automaton.laws (g.W.Walk.of c.args.walk.now) p of) _ _ _ _ _ c.loop-from.from c.loop-from.sid _ (omega arith) c.loop-from.invariant.quiet (omega arith) (omega arith) (c.loop-from.invariant.stands p of)

-- where it waits in a start, nothing was found
pub returns-then-waits_in-clause-waits_for : goal.returns-then-waits_in-clause-waits_for
returns-then-waits_in-clause-waits_for g c p of =
    let d = (goal.at.returns-then-waits_in-clause-waits_for g c).After-step-sid in
    let laws = g.met.W.Of.Automaton.laws (g.W.Walk.of c.args.walk.now) p of in
    let waits = c.waits_in.ensures.waits c.if-waits_in.true in
    let stands = stands_silent laws _ _ _ _ _ _ _ _ (omega arith) (omega arith) (held_after g d p of) (rw (same_walk g d) at c.in_default.ensures.told) (c.loop-at.invariant.stands p of) refl in
    waits_there p _ _ _ _ _ _ laws _ (c.requires.unanchored (c.waits_in_starts-waits.ensures.only waits.0)) _ _ _ _ _ (omega arith) (omega arith) (omega arith)
    (rw waits.1 at stands) (rw (same_walk g d) at waits.2)

-- where it goes on behind the last candidate, all that starts there has ended with nothing found
pub returns-then-last-due-clause-waits_for : goal.returns-then-last-due-clause-waits_for
returns-then-last-due-clause-waits_for g c p of =
    let resumes = (rw c.loop-at.invariant.same_walk at c.resumes_at-last.ensures.resumes) p of (omega (arith, c.if-last-due.true)) in
    jumps_there p _ _ (c.requires.unanchored resumes.waits) _ _ _ _ _ _ _ _ (omega arith) (omega arith) (omega arith)
    (rw resumes.none at c.loop-at.invariant.stands p of) (c.requires.reach resumes.waits p of) (omega (arith, resumes.ended)) (rw c.loop-at.invariant.same_text at resumes.behind)
