use Rattle.std.proofs.Common.{bit_and}
use Rattle.std.specs.Simd.Lanes.{zip2}
use Rattle.aho_prefilter.specs.Packed.{low_groups_of}
use Rattle.aho_prefilter.proofs.Loaded.{both, of_behind, of_first}
use Rattle.aho_prefilter.proofs.packed.Packed.low_groups.Goals as goal

pub returns : goal.returns
returns c =
    let bytes = c.args.bytes.now in
    let at = c.args.at in
    let first = of_first (low_groups_of c.args.self.now.first) bytes c.low_groups-first.result c.load.result at c.load.ensures.loaded c.low_groups-first.ensures.groups in
    let second = of_behind (low_groups_of c.args.self.now.second) bytes c.low_groups-second.result c.load-2.result at 1 c.load-2.ensures.loaded c.low_groups-second.ensures.groups in
    let third = of_behind (low_groups_of c.args.self.now.third) bytes c.low_groups-third.result c.load-3.result at 2 c.load-3.ensures.loaded c.low_groups-third.ensures.groups in
    let two = both c.low_groups-first.result c.low_groups-second.result _ _ first second in
    record { groups = both (zip2 bit_and c.low_groups-first.result c.low_groups-second.result) c.low_groups-third.result _ _ two third }
