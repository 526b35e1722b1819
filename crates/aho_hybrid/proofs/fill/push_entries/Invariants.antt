use Rattle.aho_hybrid.specs.Filled.{HasEntries, parts_of}
use Rattle.aho_hybrid.proofs.fill.push_entries.Given as goal

abbrev pub invariant-loop-class : goal.invariant-loop-class
invariant-loop-class l = HasEntries (parts_of l.nfa l.plan.firsts l.plan.numbers.items l.plan.lists.items l.plan.places.items l.plan.depths.items l.plan.row_depth l.plan.skips) l.sid l.class l.fn.entries.items l.entries.items
