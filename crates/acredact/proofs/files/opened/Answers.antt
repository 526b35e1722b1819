-- What is read is the file that was opened.
use Rattle.acredact.proofs.Common.{Keeps, ap, subst, sym}
use Rattle.acredact.proofs.files.opened.Goals as goal

pub returns-in-Ok-clause-told : goal.returns-in-Ok-clause-told
returns-in-Ok-clause-told g c = subst (Keeps (g.F.Folder.holds c.args.folder.now c.args.name.now)) (sym (ap g.F.File.Read.remaining c.new.ensures.reader)) c.in-Ok.ensures.told
