use Rattle.std.proofs.Common.{◌≡◌, ◌<◌, ◌∷◌, ◌++◌, [], List, subst, sym, ◌∙◌, arith}
use Rattle.aho_core.specs.Occurrence.{Occurrence}
use Rattle.aho_laws.specs.CoverLaws.{AreInOrder, EndBefore}
use Rattle.aho_laws.proofs.SettledRuns.{end-before}
use Rattle.aho_automaton.proofs.open_runs.OpenRuns.pop_touched.Goals as goal

pub returns-then-end-start-clause-behind : goal.returns-then-end-start-clause-behind
returns-then-end-start-clause-behind c none =
    let old = c.args.self.now.runs.items in
    let front = c.pop_back.new.self.items in
    let last = c.in_ok-last.last in
    let whole : old ≡ front ++ last ∷ [] = c.in_ok-last.ensures.items in
    let before : last.end < c.args.m.now.start = omega (arith, c.end.ensures.end, c.start.ensures.start, c.if-end-start.true) in (
      c.push_back_reserved.ensures.items ∙ sym whole,
      subst (λ (runs : List Occurrence). EndBefore runs c.args.m.now.start) (sym whole)
          (end-before front last c.args.m.now.end c.args.m.now.start (subst (λ (runs : List Occurrence). AreInOrder runs c.args.m.now.end) whole c.requires.in_order) before),
    )
