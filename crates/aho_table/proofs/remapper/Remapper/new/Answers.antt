use Rattle.std.proofs.Common.{sym, subst}
use Rattle.std.specs.List.{range_with_len}
use Rattle.aho_table.specs.Remapping.{AreInverse}
use Rattle.aho_table.proofs.Renumbered.{AreInverse-range}
use Rattle.aho_table.proofs.remapper.Remapper.new.Goals as goal

pub invariant_of-result : goal.invariant_of-result
invariant_of-result g c =
    subst (λ origins. AreInverse c.in_ok-numbers.field-0.items origins) (sym c.in_ok-numbers-2.ensures.numbers)
    (subst (λ places. AreInverse places (range_with_len 0 c.state_len-len.result)) (sym c.in_ok-numbers.ensures.numbers) (AreInverse-range c.state_len-len.result))
