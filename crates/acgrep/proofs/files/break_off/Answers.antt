-- A flush keeps what was written, and behind it a beginning of the total stands.
use Rattle.acgrep.specs.Told.{IsMessage}
use Rattle.acgrep.proofs.FilesBegun.{total_kept, total_none}
use Rattle.acgrep.proofs.Told.{unread-then}
use Rattle.acgrep.proofs.files.break_off.Goals as goal

pub returns-then-tell_stop-clause-begun : goal.returns-then-tell_stop-clause-begun
returns-then-tell_stop-clause-begun g c = total_none _ _ _ _ c.flush.ensures.kept

pub returns-in-Ok-clause-begun : goal.returns-in-Ok-clause-begun
returns-in-Ok-clause-begun g c = total_kept _ _ _ _ _ c.flush.ensures.kept c.put_total.ensures.begun

pub returns-in-Err-clause-begun : goal.returns-in-Err-clause-begun
returns-in-Err-clause-begun g c = total_kept _ _ _ _ _ c.flush.ensures.kept c.put_total.ensures.begun

pub returns-in-Err-clause-told : goal.returns-in-Err-clause-told
returns-in-Err-clause-told g c = λ names is.
    unread-then g.E.Sink (IsMessage names) c.args.job.now.hushed c.args.errors.now c.tell_stop.new.errors c.tell_total.new.errors
    (rw c.if-tell_stop.false at c.tell_stop.ensures.told names is) (c.tell_total.ensures.told names)
