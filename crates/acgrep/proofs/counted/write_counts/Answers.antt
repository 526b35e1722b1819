-- The rows of the counts are those that are told. What was put together is written, or a beginning of it.
use Rattle.acgrep.proofs.Common.{Appends, Appends-nil, AppendsBeginning, pieces_of}
use Rattle.std.proofs.Common.{◌∙◌, ◌≡◌, arith, subst}
use Rattle.acgrep.specs.Tallies.{counts_table}
use Rattle.acgrep.proofs.Beginnings.{on_err, page_bytes}
use Rattle.acgrep.proofs.Tallied.{table-told}
use Rattle.acgrep.proofs.counted.write_counts.Given.{Over}
use Rattle.acgrep.proofs.counted.write_counts.Goals.{After-write_whole}
use Rattle.acgrep.proofs.counted.write_counts.Goals as goal

pub returns-in_err-counts-clause-begun : goal.returns-in_err-counts-clause-begun
returns-in_err-counts-clause-begun g c = on_err c.from_residual.result (0, omega arith, Appends-nil _)

pub returns-in_err-put_rows-clause-begun : goal.returns-in_err-put_rows-clause-begun
returns-in_err-put_rows-clause-begun g c = on_err c.from_residual-in_err-put_rows.result (0, omega arith, Appends-nil _)

table : (g : Over) (c : After-write_whole g) → c.as_slice.result.now ≡ counts_table c.args.ending (pieces_of c.args.patterns.now) c.args.numbers.now
table g c = page_bytes _ _ _ _ c.new-text.ensures.items c.as_slice.ensures.value c.in_ok-put_rows.ensures.put
    ∙ table-told c.args.ending _ c.args.numbers.now _ (rw (c.as_mut_slice-tallied.ensures.value, c.in_ok-counts.ensures.zeros) at c.tally.ensures.counted)

pub returns-in_err-write_whole-clause-begun : goal.returns-in_err-write_whole-clause-begun
returns-in_err-write_whole-clause-begun g c =
    on_err c.from_residual-in_err-write_whole.result (subst (AppendsBeginning (g.W.Sink.taken c.args.output.now) (g.W.Sink.taken c.write_whole.new.sink))
    (table g (goal.at.returns-in_err-write_whole-clause-begun g c).After-write_whole) c.in_err-write_whole.ensures.beginning)

pub returns-clause-written : goal.returns-clause-written
returns-clause-written g c =
    subst (Appends (g.W.Sink.taken c.args.output.now) (g.W.Sink.taken c.write_whole.new.sink)) (table g (goal.at.returns-clause-written g c).After-write_whole) c.in_ok-write_whole.ensures.whole
