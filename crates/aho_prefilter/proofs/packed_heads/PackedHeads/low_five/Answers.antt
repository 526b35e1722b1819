use Rattle.aho_prefilter.specs.Packed.{low_groups_of}
use Rattle.aho_prefilter.proofs.Loaded.{both, of_behind}
use Rattle.aho_prefilter.proofs.packed_heads.PackedHeads.low_five.Goals as goal

pub returns : goal.returns
returns c =
    let last = of_behind (low_groups_of c.args.self.now.fifth) c.args.bytes.now c.low_groups.result c.load.result c.args.at 4 c.load.ensures.loaded c.low_groups.ensures.groups in
    record { groups = both c.low_four.result c.low_groups.result _ _ c.low_four.ensures.groups last }
