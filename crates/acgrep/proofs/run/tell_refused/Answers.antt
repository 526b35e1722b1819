-- What is told of wrong arguments.
use Rattle.acgrep.proofs.run.tell_refused.Goals as goal

pub returns-in-Wrong : goal.returns-in-Wrong
returns-in-Wrong g c = record { exact = rw c.in-Wrong.is c.tell_wrong.ensures.told }

pub returns-in-OutOfMemory : goal.returns-in-OutOfMemory
returns-in-OutOfMemory g c = record { exact = rw c.in-OutOfMemory.is c.tell_memory.ensures.exact }
