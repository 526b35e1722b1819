use Rattle.std.proofs.Common.{[], refl}
use Rattle.aho_build.specs.Items.{patterns_of}
use Rattle.aho_build.specs.Settings.{default_settings}
use Rattle.compare.proofs.automata.packed_of.Goals as goal

pub loop-word-init : goal.loop-word-init
loop-word-init c = c.new-builder.ensures.empty (patterns_of (record default_settings { kind = c.args.kind; ignore_case = c.args.ignore_case }) []) refl refl
