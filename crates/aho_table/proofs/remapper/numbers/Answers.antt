use Rattle.std.proofs.Common.{rules}
use Rattle.aho_table.proofs.Renumbered.{range_with_len-push}
use Rattle.aho_table.proofs.remapper.numbers.Goals as goal

pub loop-number-preserved : goal.loop-number-preserved
loop-number-preserved c = search (rules, range_with_len-push c.loop-number.number)
