use Rattle.std.proofs.Common.{rules, ◌≡◌}
use Rattle.aho_table.specs.Remapping.{place_of_state}
use Rattle.aho_table.specs.Renaming.{AllZip-weaker}
use Rattle.aho_table.proofs.remapper.Remapper.remap.Goals as goal

pub returns : goal.returns
returns g c = record {
  kept = c.remap.ensures.kept;
  marks = c.remap.ensures.marks;
  renamed = AllZip-weaker _ _
      (g.R.Remappable.renames_by _ (λ named now. now ≡ place_of_state c.args.self named) (λ named now called. search rules))
      (g.R.Remappable.states c.args.r.now) (g.R.Remappable.states c.remap.new.self) c.remap.ensures.renamed;
}
