use Rattle.std.proofs.Common.{arith}
use Rattle.aho_levels.proofs.Rows.{set-more}
use Rattle.aho_levels.proofs.links.set_entries.Goals as goal

pub loop-index-preserved : goal.loop-index-preserved
loop-index-preserved c =
    set-more c.args.ignore_case c.args.bytes.now c.args.first c.args.row c.loop-index.index c.args.rows.now.items c.loop-index.rows.items c.new_unchecked-child.result c.upper.result
    c.requires.folded c.requires.rising (omega (arith, c.loop-index-test.true, c.loop-index.auto.index-end)) (omega arith) c.requires.room c.new_unchecked-child.ensures.value c.upper.ensures.upper
    c.loop-index.invariant
