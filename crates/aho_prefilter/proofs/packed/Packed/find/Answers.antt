use Rattle.std.proofs.Common.{arith}
use Rattle.aho_prefilter.specs.Packed.{MeetsAt}
use Rattle.aho_prefilter.proofs.Firsts.{first_after}
use Rattle.aho_prefilter.proofs.packed.Packed.find.Goals as goal

pub returns-in-None : goal.returns-in-None
returns-in-None c = record { first = first_after (MeetsAt c.args.self.now c.args.bytes.now) 0 _ _ c.find_in_rest.result (omega arith) c.in-None.ensures.first c.find_in_rest.ensures.first }
