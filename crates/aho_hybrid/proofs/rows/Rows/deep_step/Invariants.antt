-- The step from the state that is looked at now leads where the whole step does, and its look-ups are those still to come.
use Rattle.std.proofs.Common.{◌≡◌, ◌+◌, ◌≤◌}
use Rattle.aho_hybrid.specs.Layout.{IsStateIn, depth_below_rows, looks_in, next_state_in}
use Rattle.aho_hybrid.proofs.rows.Rows.deep_step.Given as goal

abbrev pub invariant-links : goal.invariant-links
invariant-links l = record {
  state : IsStateIn l.self l.sid;
  next : next_state_in l.self l.sid l.byte ≡ next_state_in l.self l.fn.from l.byte;
  looks : l.work + looks_in l.self l.sid l.byte ≡ l.initial.work + looks_in l.self l.fn.from l.byte;
  room : l.work + depth_below_rows l.self l.sid ≤ l.initial.work + depth_below_rows l.self l.fn.from;
}

abbrev pub decreases-links : goal.decreases-links
decreases-links l = depth_below_rows l.self l.sid
