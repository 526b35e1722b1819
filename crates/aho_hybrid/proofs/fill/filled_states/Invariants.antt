use Rattle.aho_hybrid.specs.Filled.{AreLaidOut, parts_of}
use Rattle.aho_hybrid.proofs.fill.filled_states.Given as goal

abbrev pub invariant-loop-index : goal.invariant-loop-index
invariant-loop-index l = AreLaidOut (parts_of l.nfa l.plan.firsts l.plan.numbers.items l.plan.lists.items l.plan.places.items l.plan.depths.items l.plan.row_depth l.plan.skips) l.index l.filled
