use Rattle.std.proofs.Common.{◌*◌, ◌∙◌, List, ℕ, ap}
use Rattle.std.specs.Prelude.{length}
use Rattle.aho_automaton.specs.Finding.{span_places}
use Rattle.aho_core.specs.declared.search.Anchored.TheVariants.{No}
use Rattle.chromesquid.proofs.Built.{start_of, start_refused}
use Rattle.chromesquid.proofs.HeldIters.{lists_for}
use Rattle.chromesquid.proofs.overlapping.list_by.Goals as goal

pub returns-clause-lists : goal.returns-clause-lists
returns-clause-lists g c =
    let stands = c.requires.stands in
    let call = c.try_find_overlapping_iter.ensures in
    lists_for _ _ _ c.args.searcher.now (g.A.Automaton.is_of c.args.automaton.now) stands.some stands.of c.args.input _ (ap (λ (lengths : List ℕ). length lengths * span_places c.args.input) stands.lengths)
    c.try_find_overlapping_iter.result call.ready call.lists call.first call.bound call.fused

pub returns-clause-answers : goal.returns-clause-answers
returns-clause-answers g c =
    let stands = c.requires.stands in
    let call = c.try_find_overlapping_iter.ensures in
    record {
      unsupported = rw stands.kind at call.unsupported;
      anchored = λ standard anchored. call.anchored (stands.kind ∙ standard) anchored;
      refused = λ standard unanchored refuses. call.refused _ (stands.kind ∙ standard) unanchored (stands.start ∙ start_refused c.args.searcher.now refuses);
      ok = λ standard unanchored answers. let start = start_of No c.args.searcher.now stands.some answers in call.ok start.0 (stands.kind ∙ standard) unanchored (stands.start ∙ start.1);
    }
