use Rattle.std.proofs.Common.{arith}
use Rattle.chromesquid_c.proofs.Written.{written-fits}
use Rattle.chromesquid_c.proofs.replace.put_bytes.Goals as goal

pub returns-clause-put : goal.returns-clause-put
returns-clause-put c = λ _. (omega arith, rw c.copy_from_slice.ensures.after (written-fits c.args.room.now c.args.bytes.now (omega arith)))
