-- A message is told.
use Rattle.std.proofs.Common.{None, Some, inr}
use Rattle.acgrep.specs.Told.{obstacle_text}
use Rattle.acgrep.proofs.Told.{obstacle_caused, tells-cause}
use Rattle.acgrep.proofs.tell.tell_file.Goals as goal

pub returns : goal.returns
returns g c =
    let exact = rw c.cause_of.ensures.cause at c.tell.ensures.told in
    let name = c.args.name.now in
    let why = c.args.why in
    record { told = λ names is. tells-cause g.E.Sink names _ _ (Some name) None (obstacle_text name why) (inr is) (obstacle_caused name why) exact; exact = exact }
