use Rattle.aho_hybrid.proofs.Makers.{made-of, refused-then}
use Rattle.aho_hybrid.proofs.hybrid.Hybrid.with_prefilter.Goals as goal

pub returns-clause-made : goal.returns-clause-made
returns-clause-made c =
    made-of c.args.nfa.now c.args.budget c.in_ok-rows.rows c.in_ok-rows.ensures.laid_out c.is_some.result c.args.prefilter c.is_some.ensures c.in_ok-rows.ensures.marked
    c.with_rows.result c.with_rows.ensures.takes c.with_rows.ensures.rows

pub returns-clause-refused : goal.returns-clause-refused
returns-clause-refused c = refused-then c.args.nfa.now c.args.budget c.in_ok-rows.rows c.in_ok-rows.ensures.laid_out c.with_rows.result c.with_rows.ensures.refused
