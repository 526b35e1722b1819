use Rattle.std.proofs.Common.{◌≡◌, ◌+◌, ◌≤◌, ◌∙◌, inl, inr, ap, subst, arith, List, ℕ}
use Rattle.std.specs.Prelude.{Option, Some, None, IfSome}
use Rattle.std.proofs.lemmas.Bool.{cases_lt}
use Rattle.aho_core.specs.Patterns.{Patterns}
use Rattle.aho_stream.specs.After.{IsAfter}
use Rattle.aho_stream.specs.Chunks.{TellsChunk, TellsMatch}
use Rattle.aho_automaton.proofs.Places.{moved}
use Rattle.aho_stream.specs.declared.progress.StreamProgress.{StreamProgress}
use Rattle.aho_stream.proofs.Reported.{gap_clear, in_hand_within, match_told, outside_clear, reported}
use Rattle.aho_stream.proofs.pieces.piece.Given.{Over}
use Rattle.aho_stream.proofs.pieces.piece.Goals.{After-report, After-report-2, After-give}
use Rattle.aho_stream.proofs.pieces.piece.Goals as goal

-- how far the iterator has come, by the automaton of the walk
abbrev AfterOf : (g : Over) → g.row.W.Denot → Patterns → StreamProgress → List ℕ → Type 0
AfterOf g walk p s given = IsAfter g.W.Of.Automaton (g.W.Walk.of walk) p (g.W.Walk.lookups walk) s given

plain : (g : Over) (c : After-report g) (p : Patterns) (given : List ℕ) → g.W.Of.Automaton.is_of (g.W.Walk.of c.args.walk.now) p → AfterOf g c.args.walk.now p c.args.progress.now given
    → AfterOf g c.args.walk.now p c.report.new.self given × IfSome c.report.result (TellsChunk p c.args.progress.now c.report.new.self given)
plain g c p given of a =
    let s = c.args.progress.now in
    let none = c.next_match.ensures.none c.in_default.is in
    let clear = outside_clear _ _ p (g.met.W.Of.Automaton.laws _ p of) _ s given c.outside-end.result a none.0 none.1 (c.requires.walked none.0) c.outside-end.ensures.ended c.outside-end.ensures.open in
    reported _ _ p _ s c.report.new.self given c.outside-end.result c.report.result a clear.0 clear.1 c.report.ensures.some c.report.ensures.none

pub returns-in_default-clause-after : goal.returns-in_default-clause-after
returns-in_default-clause-after g c p given of a = (plain g c p given of a).0

pub returns-in_default-clause-tells : goal.returns-in_default-clause-tells
returns-in_default-clause-tells g c p given of a = (plain g c p given of a).1

gap : (g : Over) (c : After-report-2 g) (p : Patterns) (given : List ℕ) → g.W.Of.Automaton.is_of (g.W.Walk.of c.args.walk.now) p → AfterOf g c.args.walk.now p c.args.progress.now given
    → AfterOf g c.args.walk.now p c.report-2.new.self given × IfSome c.report-2.result (TellsChunk p c.args.progress.now c.report-2.new.self given)
gap g c p given of a =
    let s = c.args.progress.now in
    let m = c.in-Some.m in
    let in_hand : s.in_hand ≡ Some m = c.in-Some.ensures.in_hand in
    let within = in_hand_within _ _ p _ s given m a in_hand in
    reported _ _ p _ s c.report-2.new.self given (s.origin + c.start.result) c.report-2.result a (omega (arith, c.start.ensures.start, within.0, within.1))
    (λ more n follows answer. omega (arith, c.start.ensures.start, gap_clear _ _ p (g.met.W.Of.Automaton.laws _ p of) _ s given m a in_hand c.in-Some.ensures.due c.requires.walked more n follows answer)) c.report-2.ensures.some c.report-2.ensures.none

pub returns-in-Some-report-clause-after : goal.returns-in-Some-report-clause-after
returns-in-Some-report-clause-after g c p given of a = (gap g (goal.at.returns-in-Some-report-clause-after g c).After-report-2 p given of a).0

pub returns-in-Some-report-clause-tells : goal.returns-in-Some-report-clause-tells
returns-in-Some-report-clause-tells g c p given of a =
    subst (λ (r : Option _). IfSome r (TellsChunk p c.args.progress.now c.report-2.new.self given)) c.in-Some-report.is (gap g (goal.at.returns-in-Some-report-clause-tells g c).After-report-2 p given of a).1

-- the match in hand starts where nothing was reported
match_given : (g : Over) (c : After-give g) (p : Patterns) (given : List ℕ) → g.W.Of.Automaton.is_of (g.W.Walk.of c.args.walk.now) p → AfterOf g c.args.walk.now p c.args.progress.now given
    → AfterOf g c.args.walk.now p c.give.new.self given × TellsMatch p c.args.progress.now c.give.new.self given c.give.result
match_given g c p given of a =
    let s = c.args.progress.now in
    let m = c.in-Some.m in
    let reached : s.origin + c.start.result ≤ s.reported = elim (cases_lt s.reported (s.origin + c.start.result)) [ inl less ↦ (let told = (c.report-2.ensures.some less).0 in let none = c.in-None.is in cc) | inr ge ↦ ge ] in
    let same = (c.report-2.ensures.none reached).1 in
    match_told _ _ p (g.met.W.Of.Automaton.laws _ p of) _ s given m a c.in-Some.ensures.in_hand c.in-Some.ensures.due c.requires.walked c.give.new.self c.give.result c.requires.open (omega (arith, reached, c.start.ensures.start))
    (c.give.ensures.placed ∙ ap (λ (t : StreamProgress). moved t.origin m) same) (c.give.ensures.moved ∙ ap (λ (t : StreamProgress). record t { told = t.origin + m.start; reported = t.origin + m.end; from = t.origin + m.end; origin = t.origin + m.end; walked = t.origin + m.end; sid = t.start; in_hand = None }) same)

pub returns-in-None-clause-after : goal.returns-in-None-clause-after
returns-in-None-clause-after g c p given of a = (match_given g c p given of a).0

pub returns-in-None-clause-tells : goal.returns-in-None-clause-tells
returns-in-None-clause-tells g c p given of a = (match_given g c p given of a).1
