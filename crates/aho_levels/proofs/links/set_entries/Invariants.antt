use Rattle.aho_levels.specs.Linking.{AreSet}
use Rattle.aho_levels.proofs.links.set_entries.Given as goal

abbrev pub invariant-loop-index : goal.invariant-loop-index
invariant-loop-index l = AreSet l.ignore_case l.bytes l.first l.row l.index l.fn.rows.items l.rows.items
