-- The input is read to its end, and is then as the source was left.
use Rattle.acredact.proofs.Common.{DoesText, Keeps, ap, rules, subst, sym}
use Rattle.acredact.proofs.OneFile.{so_there}
use Rattle.acredact.proofs.files.redact_input.Goals as goal

pub returns-clause-outcome : goal.returns-clause-outcome
returns-clause-outcome g c = λ plan by.
    let run = c.redact_with-lent in
    let same = sym run.ensures.same in
    let left = ap (λ device. g.I.Read.remaining device.reader) c.restart.ensures.device in
    so_there run.result.lent.source.now _ (λ there. DoesText g.W.Write run.result.done c.args.output.now run.new.output c.args.counts.now run.new.counts c.args.bytes.now run.result.lent.bytes c.args.input.now there (g.X.Way.means plan)) (search rules)
    (record { is = λ known kept. (run.ensures.outcome plan by).is known (subst (Keeps known) (sym left) kept) })
