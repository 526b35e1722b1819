-- A file that was not read to its end is told, and so is one that the output goes to.
use Rattle.acredact.proofs.Common.{Err, Keeps-refl, Ok, [], inl, inr, output_line, refl, rules, task_in, tells-nothing, true, unread_line, ◌≡◌}
use Rattle.acredact.proofs.Totals.{no_numbers}
use Rattle.acredact.proofs.Done.{told_line}
use Rattle.acredact.proofs.files.redact_told.Goals as goal

pub returns-then-is_output-clause-outcome : goal.returns-then-is_output-clause-outcome
returns-then-is_output-clause-outcome g c = λ plan by.
    told_line g.W.Write g.E.Sink (task_in g.F.Folder c.args.folder.now (g.X.Way.means plan)) c.args.name.now (output_line c.args.name.now)
    (inr (inr (refl, rw c.if-is_output.true at c.is_output.ensures, refl, Keeps-refl _))) c.tell_output.ensures.told (record { write_failed = refl; took_nothing = refl; only = tt }) refl
    (λ measured. no_numbers (g.F.Folder.holds c.args.folder.now) c.args.name.now _ c.args.counts.now _)

pub returns-in_err-redact_file-clause-outcome : goal.returns-in_err-redact_file-clause-outcome
returns-in_err-redact_file-clause-outcome g c =
    let is : c.from_residual.result ≡ Err c.in_err-redact_file.field-0.0 = search rules in λ plan by.
    let file = c.in_err-redact_file.ensures.outcome plan by in
    rw is
    (record {
      done = tt;
      cut = (file.comes, tells-nothing g.E.Sink _);
      whole = λ (is : Err c.in_err-redact_file.field-0.0 ≡ Ok true). absurd (cc);
      fails = record { write_failed = file.fails.write_failed; took_nothing = file.fails.took_nothing; only = file.fails.only };
      files = tt;
      most = file.most;
    })

pub returns-in-None-clause-outcome : goal.returns-in-None-clause-outcome
returns-in-None-clause-outcome g c = λ plan by.
    let file = rw c.in-None.is at (c.in_ok-redact_file.ensures.outcome plan by) in
    record {
      done = ([], refl, (inl (refl, rw c.if-is_output.false at c.is_output.ensures, file.comes), tells-nothing g.E.Sink _));
      cut = tt;
      whole = λ is. (refl, file.ranges refl, file.read refl);
      fails = record { write_failed = file.fails.write_failed; took_nothing = file.fails.took_nothing; only = tt };
      files = search rules;
      most = file.most;
    }

pub returns-in-Some-clause-outcome : goal.returns-in-Some-clause-outcome
returns-in-Some-clause-outcome g c = λ plan by.
    let file = rw c.in-Some.is at (c.in_ok-redact_file.ensures.outcome plan by) in
    told_line g.W.Write g.E.Sink (task_in g.F.Folder c.args.folder.now (g.X.Way.means plan)) c.args.name.now (unread_line c.args.name.now c.in-Some.reason)
    (inr (inl (c.in-Some.reason, refl, file.comes))) c.tell_unread.ensures.told (record { write_failed = file.fails.write_failed; took_nothing = file.fails.took_nothing; only = tt }) refl file.most
