use Rattle.std.proofs.Common.{◌≡◌, ◌<◌, ◌∷◌, ◌++◌, [], List, length, subst, sym, ◌∙◌, ap, arith, length-append}
use Rattle.aho_core.specs.Occurrence.{Occurrence}
use Rattle.aho_laws.specs.CoverLaws.{AreInOrder, joined_runs}
use Rattle.aho_laws.proofs.SettledRuns.{extended-full, in_order-first, joined-apart, joined-touched, run-fits}
use Rattle.aho_automaton.proofs.open_runs.OpenRuns.add.Goals as goal

pub extended-run-requires : goal.extended-run-requires
extended-run-requires c =
    let inv = c.loop-last.invariant in
    let fits = run-fits c.loop-last.self.runs.items c.pop_touched.new.self.runs.items c.in-Some.last c.loop-last.run.end c.in-Some.ensures.touched.0 inv.in_order in
    record { ordered = omega (arith, fits) }

pub loop-last-preserved : goal.loop-last-preserved
loop-last-preserved c =
    let inv = c.loop-last.invariant in
    let old = c.loop-last.self.runs.items in
    let front = c.pop_touched.new.self.runs.items in
    let last = c.in-Some.last in
    let run = c.loop-last.run in
    let whole : old ≡ front ++ last ∷ [] = c.in-Some.ensures.touched.0 in
    let in_order : AreInOrder (front ++ last ∷ []) run.end = subst (λ (runs : List Occurrence). AreInOrder runs run.end) whole inv.in_order in
    let fits = run-fits old front last run.end whole inv.in_order in
    let full = extended-full last run fits.0 fits.1 inv.some in
    let is = c.extended-run.ensures.extended in
    record {
      joined = ap (joined_runs front) is ∙ sym (joined-touched front last run run.end in_order c.in-Some.ensures.touched.1) ∙ sym (ap (λ (runs : List Occurrence). joined_runs runs run) whole) ∙ inv.joined;
      in_order = subst (AreInOrder front) (sym (ap (λ (o : Occurrence). o.end) is ∙ full.0)) (in_order-first front (last ∷ []) run.end in_order);
      ends = ap (λ (o : Occurrence). o.end) is ∙ full.0 ∙ inv.ends;
      some = subst (λ (o : Occurrence). o.start < o.end) (sym is) (omega (arith, full));
      same_room = c.pop_touched.ensures.same_room ∙ inv.same_room;
    }

pub push_back_reserved-requires : goal.push_back_reserved-requires
push_back_reserved-requires c =
    let inv = c.loop-last.invariant in
    let kept = c.pop_touched.ensures.behind c.in_default.is in
    let all : joined_runs c.args.self.now.runs.items c.args.m ≡ c.loop-last.self.runs.items ++ c.loop-last.run ∷ [] = sym inv.joined ∙ joined-apart c.loop-last.self.runs.items c.loop-last.run kept.1 in
    omega (arith, c.requires.room, ap length all, length-append c.loop-last.self.runs.items (c.loop-last.run ∷ []), ap length kept.0, c.pop_touched.new.self.runs.ok.0, c.pop_touched.ensures.same_room, inv.same_room)

pub returns-clause-joined : goal.returns-clause-joined
returns-clause-joined c =
    let kept = c.pop_touched.ensures.behind c.in_default.is in
    c.push_back_reserved.ensures.items ∙ ap (λ (runs : List Occurrence). runs ++ c.loop-last.run ∷ []) kept.0
    ∙ sym (joined-apart c.loop-last.self.runs.items c.loop-last.run kept.1) ∙ c.loop-last.invariant.joined
