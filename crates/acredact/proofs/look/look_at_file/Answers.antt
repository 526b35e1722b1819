-- The output goes to the file, or it is that of the input, or of the folder.
use Rattle.acredact.proofs.Common.{inr, quest_of, rules, sym, ◌∙◌}
use Rattle.acredact.proofs.LookedFiles.{look_none, looked_file}
use Rattle.acredact.proofs.OneFile.{read_input, read_opened}
use Rattle.acredact.proofs.look.look_at_file.Goals as goal

pub returns-then-is_output-clause-looks : goal.returns-then-is_output-clause-looks
returns-then-is_output-clause-looks g c = λ s by. (inr (search rules), look_none (quest_of g.F.Folder c.args.files.now s) c.args.name.now _ _)

pub returns-then-is_input-clause-looks : goal.returns-then-is_input-clause-looks
returns-then-is_input-clause-looks g c = λ s by.
    looked_file (quest_of g.F.Folder c.args.files.now s) c.args.name.now c.look.result _ _ (read_input (sym c.is_input.ensures.is ∙ c.if-is_input.true)) c.look.ensures.only (c.look.ensures.looks s by)

pub returns-in-Ok-clause-looks : goal.returns-in-Ok-clause-looks
returns-in-Ok-clause-looks g c = λ s by.
    looked_file (quest_of g.F.Folder c.args.files.now s) c.args.name.now c.look-in-Ok.result _ _ (read_opened (sym c.is_input.ensures.is ∙ c.if-is_input.false) c.in-Ok.ensures.told) c.look-in-Ok.ensures.only (c.look-in-Ok.ensures.looks s by)

pub returns-in-Err-clause-looks : goal.returns-in-Err-clause-looks
returns-in-Err-clause-looks g c = λ s by. (inr c.in-Err.ensures.refused, look_none (quest_of g.F.Folder c.args.files.now s) c.args.name.now _ _)
