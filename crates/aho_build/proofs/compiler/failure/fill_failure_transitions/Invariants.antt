use Rattle.std.proofs.Common.{◌≡◌, ◌≤◌, ◌+◌, ◌-◌, ℕ, List, Option, vec_len, slice_index}
use Rattle.aho_core.specs.Patterns.{Patterns}
use Rattle.aho_build.specs.Starts.{IsReady}
use Rattle.aho_build.specs.FailureLinks.{IsLinking, OnlyCopies, unlinked_count}
use Rattle.aho_build.proofs.compiler.failure.fill_failure_transitions.Given as goal

abbrev pub invariant-states : goal.invariant-states
invariant-states l = record {
  within : l.head ≤ vec_len l.queue;
  copies : OnlyCopies l.fn.table l.table;
  linking : (p : Patterns) (names : List (Option (List ℕ))) → p.kind ≡ l.kind → IsReady p names l.fn.table.states → IsLinking p names l.queue.items l.head 0 l.table.states;
}

abbrev pub decreases-states : goal.decreases-states
decreases-states l = (unlinked_count l.table.states + vec_len l.queue) - l.head

abbrev pub invariant-transitions : goal.invariant-transitions
invariant-transitions l = record {
  counted : unlinked_count l.table.states + vec_len l.queue ≡ unlinked_count l.initial.table.states + vec_len l.initial.queue;
  longer : vec_len l.initial.queue ≤ vec_len l.queue;
  head : slice_index l.queue.items l.head ≡ slice_index l.initial.queue.items l.head;
  same : OnlyCopies l.initial.table l.table;
  copies : OnlyCopies l.fn.table l.table;
  linking : (p : Patterns) (names : List (Option (List ℕ))) → p.kind ≡ l.kind → IsReady p names l.fn.table.states → IsLinking p names l.queue.items l.head l.index l.table.states;
}
