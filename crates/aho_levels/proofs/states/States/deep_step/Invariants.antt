-- The step from the state that is looked at now leads where the whole step does, and its look-ups are those still to come.
use Rattle.std.proofs.Common.{◌≡◌, ◌+◌, ◌<◌, ◌≤◌, length}
use Rattle.aho_core.specs.declared.search.Anchored.TheVariants.{No}
use Rattle.aho_levels.specs.Layout.{depth_at, looks_of_step, next_at}
use Rattle.aho_levels.proofs.states.States.deep_step.Given as goal

abbrev pub invariant-links : goal.invariant-links
invariant-links l = record {
  linked : l.sid < length l.self.fails;
  next : next_at l.self No l.sid l.byte ≡ next_at l.self No l.fn.from l.byte;
  looks : l.work + looks_of_step l.self No l.sid l.byte ≡ l.initial.work + looks_of_step l.self No l.fn.from l.byte;
  room : l.work + depth_at l.self l.sid ≤ l.initial.work + depth_at l.self l.fn.from;
}

abbrev pub decreases-links : goal.decreases-links
decreases-links l = l.sid
