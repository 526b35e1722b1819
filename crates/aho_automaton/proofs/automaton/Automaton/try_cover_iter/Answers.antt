-- The iterator gives the runs, whatever patterns the automaton is of.
use Rattle.std.proofs.Common.{◌++◌, List, drop, length, sym, subst, ap, arith, ◌∙◌}
use Rattle.std.proofs.iter.runs.Made.{took}
use Rattle.std.specs.Prelude.{Err, IfOk, Ok, Result}
use Rattle.std.proofs.lemmas.List.{take-append-drop}
use Rattle.aho_core.specs.Cover.{AreRuns}
use Rattle.aho_core.specs.Occurrence.{Occurrence}
use Rattle.aho_laws.proofs.TextRuns.{runs-made}
use Rattle.aho_automaton.specs.Covering.{runs_in}
use Rattle.aho_automaton.specs.CoverIters.{GivesRun}
use Rattle.aho_automaton.proofs.CoverCopies.{HasGivenOver, gives-next}
use Rattle.aho_automaton.proofs.Drained.{drained, given_first, rests}
use Rattle.aho_automaton.proofs.automaton.Automaton.try_cover_iter.Goals as goal

-- of a value that is there, from two things that are said of it
if-ok : {T E : Type 0} (r : Result T E) (P Q R : T → Type 0) → IfOk r P → IfOk r Q → ((x : T) → P x → Q x → R x) → IfOk r R
if-ok (Ok x) P Q R a b h = h x a b
if-ok (Err e) P Q R a b h = tt

pub returns-clause-runs : goal.returns-clause-runs
returns-clause-runs g c p of =
    let a = g.Self.Automaton in
    let automaton = c.args.self.now in
    let haystack = c.args.haystack.now in
    if-ok c.new.result _ _ _ c.new.ensures.over c.new.ensures.fresh (λ it over fresh run seen from whole.
    let calls = took run in
    let last = calls.2 whole in
    let start : HasGivenOver a automaton haystack p of it 0 = record { same_automaton = over.0; same_haystack = over.1; given = fresh p of } in
    let all = drained (GivesRun a) (HasGivenOver a automaton haystack p of) (runs_in p haystack) (λ s t given n. gives-next a automaton haystack p of s t given n)
    run.items run.from last.0 0 (omega arith) (rw from start) (calls.0, calls.1, last.1) in
    subst (AreRuns p haystack) (sym all.0) (runs-made p haystack))

pub returns-clause-first : goal.returns-clause-first
returns-clause-first g c p of =
    let a = g.Self.Automaton in
    let automaton = c.args.self.now in
    let haystack = c.args.haystack.now in
    if-ok c.new.result _ _ _ c.new.ensures.over c.new.ensures.fresh (λ it over fresh run seen from.
    let calls = took run in
    let all = runs_in p haystack in
    let start : HasGivenOver a automaton haystack p of it 0 = record { same_automaton = over.0; same_haystack = over.1; given = fresh p of } in
    let first = given_first (GivesRun a) (HasGivenOver a automaton haystack p of) all (λ s t given n. gives-next a automaton haystack p of s t given n)
    run.items run.from calls.0 0 (omega arith) (rw from start) calls.1 in
    let n = length run.items in
    (drop n all, subst (AreRuns p haystack) (sym (ap (λ (items : List Occurrence). items ++ drop n all) first ∙ take-append-drop n all)) (runs-made p haystack)))

pub returns-clause-fused : goal.returns-clause-fused
returns-clause-fused g c =
    let a = g.Self.Automaton in
    let automaton = c.args.self.now in
    let haystack = c.args.haystack.now in
    let p = c.requires.of.0 in
    let of = c.requires.of.1 in
    if-ok c.new.result _ _ _ c.new.ensures.over c.new.ensures.fresh (λ it over fresh ms u t rest calls later.
    let start : HasGivenOver a automaton haystack p of it 0 = record { same_automaton = over.0; same_haystack = over.1; given = fresh p of } in
    rests (GivesRun a) (HasGivenOver a automaton haystack p of) (runs_in p haystack) (λ s t given n. gives-next a automaton haystack p of s t given n) rest u t
    (drained (GivesRun a) (HasGivenOver a automaton haystack p of) (runs_in p haystack) (λ s t given n. gives-next a automaton haystack p of s t given n) ms it u 0 (omega arith) start calls).1 later)
