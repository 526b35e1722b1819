-- The step from the state that is looked at now leads where the whole step does, and its look-ups are those still to come.
use Rattle.std.proofs.Common.{◌≡◌, ℕ, ◌+◌, ◌<◌, ◌≤◌, List}
use Rattle.std.specs.Prelude.{Option}
use Rattle.aho_core.specs.Bytes.{folded}
use Rattle.aho_core.specs.Patterns.{Patterns}
use Rattle.aho_core.specs.Step.{follow, lookups}
use Rattle.aho_build.specs.Automaton.{IsAutomaton, IsHeldAs}
use Rattle.aho_build.specs.declared.special.Special.{Special}
use Rattle.aho_build.specs.Walking.{IsState, links_left, step_along, step_in}
use Rattle.aho_build.proofs.steps.step.Given as goal

abbrev pub invariant-links : goal.invariant-links
invariant-links l = record {
  state : IsState l.table.states l.sid;
  paid : l.work + links_left l.table.states l.sid ≤ l.initial.work + links_left l.table.states l.fn.from;
  grows : l.initial.work ≤ l.work;
  next : (left : ℕ) × (links_left l.table.states l.sid < left) × (step_in l.table.states l.anchored l.fn.from l.byte ≡ step_along l.table.states l.anchored l.byte left l.sid);
  walked : (p : Patterns) (special : Special) (names : List (Option (List ℕ))) (state : Option (List ℕ)) → IsAutomaton special p names l.table.states → IsHeldAs special l.anchored names state l.fn.from
      → (further : Option (List ℕ)) × IsHeldAs special l.anchored names further l.sid
      × (follow p l.anchored state (folded p l.byte) ≡ follow p l.anchored further (folded p l.byte))
      × (l.initial.work + lookups p l.anchored state (folded p l.byte) ≡ l.work + lookups p l.anchored further (folded p l.byte));
}

abbrev pub decreases-links : goal.decreases-links
decreases-links l = links_left l.table.states l.sid
