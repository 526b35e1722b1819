use Rattle.std.proofs.Common.{◌≡◌}
use Rattle.aho_build.specs.Starts.{IsLedBelow, ListsAllBytes}
use Rattle.aho_table.specs.Table.{next_in, transitions_count}
use Rattle.aho_build.specs.FirstStates.{anchored_id, root_id}
use Rattle.aho_build.proofs.compiler.failure.set_anchored_start_state.Given as goal

abbrev pub invariant-loop-byte : goal.invariant-loop-byte
invariant-loop-byte l = record {
  led : IsLedBelow anchored_id l.byte (next_in l.fn.table.states root_id) l.fn.table.states l.table.states;
  limit : l.table.limit ≡ l.fn.table.limit;
  listed : ListsAllBytes l.fn.table.states anchored_id → ListsAllBytes l.table.states anchored_id;
  transitions : ListsAllBytes l.fn.table.states anchored_id → transitions_count l.table.states ≡ transitions_count l.fn.table.states;
}
