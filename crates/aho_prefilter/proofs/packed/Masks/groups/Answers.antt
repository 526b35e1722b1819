use Rattle.std.proofs.Common.{bit_and, get_or, ap, ◌∙◌, ℕ}
use Rattle.aho_prefilter.proofs.Lanes.{HasLanes-zip2}
use Rattle.aho_prefilter.proofs.packed.Masks.groups.Goals as goal

pub returns : goal.returns
returns c =
    let low = c.low_groups.ensures.groups in
    let high = c.by_high_half.ensures.held in
    let both = HasLanes-zip2 bit_and c.low_groups.result c.by_high_half.result low.long high.long in
    record {
      groups = record {
        long = both.long;
        each = λ k l. both.each k l ∙ ap (λ (x : ℕ). bit_and x (get_or c.by_high_half.result k 0)) (low.each k l) ∙ ap (bit_and _) (high.each k l);
      };
    }
