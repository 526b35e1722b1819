use Rattle.std.proofs.Common.{◌∙◌, sym, ap}
use Rattle.std.specs.Prelude.{Option, is_some}
use Rattle.aho_prefilter.specs.declared.prefilter.Searcher.{Searcher}
use Rattle.aho_hybrid.proofs.Makers.{made-of, of-held, refused-then, some-borrowed, takes-held}
use Rattle.aho_hybrid.proofs.hybrid.Hybrid.with_budget.Goals as goal

pub returns-clause-of : goal.returns-clause-of
returns-clause-of c = of-held c.args.nfa.now c.in_ok-prefilter.prefilter (c.in_ok-prefilter.ensures.same ∙ c.prefilter-2.ensures.prefilter) c.with_rows.result c.with_rows.ensures.of

pub returns-clause-made : goal.returns-clause-made
returns-clause-made c =
    made-of c.args.nfa.now c.args.budget c.in_ok-rows.rows c.in_ok-rows.ensures.laid_out c.is_some.result c.args.nfa.now.prefilter
    (c.is_some.ensures ∙ sym (some-borrowed c.prefilter.result) ∙ ap (λ (o : Option Searcher). is_some o) c.prefilter.ensures.prefilter)
    c.in_ok-rows.ensures.marked c.with_rows.result
    (takes-held c.args.nfa.now c.in_ok-prefilter.prefilter (c.in_ok-prefilter.ensures.same ∙ c.prefilter-2.ensures.prefilter) c.with_rows.result c.with_rows.ensures.takes)
    c.with_rows.ensures.rows

pub returns-clause-refused : goal.returns-clause-refused
returns-clause-refused c = refused-then c.args.nfa.now c.args.budget c.in_ok-rows.rows c.in_ok-rows.ensures.laid_out c.with_rows.result c.with_rows.ensures.refused
