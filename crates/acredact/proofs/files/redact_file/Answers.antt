-- The file is that of the input, or of the folder.
use Rattle.acredact.proofs.Common.{Keeps-refl, None, Ok, Some, inr, refl, sym, task_in, ◌∙◌, ◌≡◌}
use Rattle.acredact.proofs.Totals.{no_numbers}
use Rattle.acredact.proofs.Jobs.{named_does}
use Rattle.acredact.proofs.OneFile.{read_input, read_opened}
use Rattle.acredact.proofs.files.redact_file.Goals as goal

pub returns-then-is_input-clause-outcome : goal.returns-then-is_input-clause-outcome
returns-then-is_input-clause-outcome g c = λ plan by.
    named_does g.W.Write (task_in g.F.Folder c.args.folder.now (g.X.Way.means plan)) (read_input (sym c.is_input.ensures.is ∙ c.if-is_input.true)) (c.redact_input.ensures.outcome plan by)

pub returns-in-Ok-clause-outcome : goal.returns-in-Ok-clause-outcome
returns-in-Ok-clause-outcome g c = λ plan by.
    named_does g.W.Write (task_in g.F.Folder c.args.folder.now (g.X.Way.means plan)) (read_opened (sym c.is_input.ensures.is ∙ c.if-is_input.false) c.in-Ok.ensures.told) (c.redact_input-in-Ok.ensures.outcome plan by)

pub returns-in-Err-clause-outcome : goal.returns-in-Err-clause-outcome
returns-in-Err-clause-outcome g c = λ plan by. record {
  comes = inr (c.in-Err.ensures.refused, refl, Keeps-refl _);
  fails = record { write_failed = refl; took_nothing = refl; only = tt };
  ranges = λ (is : Ok (Some c.in-Err.reason) ≡ Ok None). absurd (cc);
  read = λ (is : Ok (Some c.in-Err.reason) ≡ Ok None). absurd (cc);
  most = λ measured. no_numbers (g.F.Folder.holds c.args.folder.now) c.args.name.now _ c.args.counts.now _;
}
