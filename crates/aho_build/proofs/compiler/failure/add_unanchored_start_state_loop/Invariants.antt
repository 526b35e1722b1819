use Rattle.std.proofs.Common.{◌≡◌}
use Rattle.aho_build.specs.Starts.{IsLedBelow, ListsAllBytes, looped}
use Rattle.aho_table.specs.Table.{transitions_count}
use Rattle.aho_build.specs.FirstStates.{root_id}
use Rattle.aho_build.proofs.compiler.failure.add_unanchored_start_state_loop.Given as goal

abbrev pub invariant-loop-byte : goal.invariant-loop-byte
invariant-loop-byte l = record {
  led : IsLedBelow root_id l.byte (looped l.fn.kind l.fn.table.states) l.fn.table.states l.table.states;
  limit : l.table.limit ≡ l.fn.table.limit;
  listed : ListsAllBytes l.fn.table.states root_id → ListsAllBytes l.table.states root_id;
  transitions : ListsAllBytes l.fn.table.states root_id → transitions_count l.table.states ≡ transitions_count l.fn.table.states;
}
