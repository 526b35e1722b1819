use Rattle.aho_prefilter.specs.Packed.{groups_of}
use Rattle.aho_prefilter.proofs.Loaded.{both, of_behind}
use Rattle.aho_prefilter.proofs.packed_heads.PackedHeads.four.Goals as goal

pub returns : goal.returns
returns c =
    let last = of_behind (groups_of c.args.self.now.fourth) c.args.bytes.now c.groups-2.result c.load.result c.args.at 3 c.load.ensures.loaded c.groups-2.ensures.groups in
    record { groups = both c.groups.result c.groups-2.result _ _ c.groups.ensures.groups last }
