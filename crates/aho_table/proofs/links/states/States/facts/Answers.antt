-- What is true of every table.
use Rattle.std.proofs.Common.{subst, arith}
use Rattle.aho_table.specs.Inside.{LimitedStates}
use Rattle.aho_table.specs.Table.{IsWithinLimit, AllRising}
use Rattle.aho_table.proofs.Records.{length-recorded_states, AllRising-lists}
use Rattle.aho_table.proofs.links.states.States.facts.Goals as goal

pub returns-clause-within : goal.returns-clause-within
returns-clause-within c =
    subst (λ (t : LimitedStates). IsWithinLimit t.limit t.states) c.self.view_is
    (record {
      state_count = omega (arith, c.self.invariant.states_within, length-recorded_states c.self.inside.transitions.lists c.self.inside.matches.lists c.self.inside.records.items);
      transitions = omega (arith, c.facts.ensures.within, c.self.invariant.transitions_are, c.self.invariant.transitions_limit);
      matches = omega (arith, c.facts-2.ensures.within, c.self.invariant.matches_are, c.self.invariant.matches_limit);
    })

pub returns-clause-rising : goal.returns-clause-rising
returns-clause-rising c =
    subst (λ (t : LimitedStates). AllRising t.states) c.self.view_is (AllRising-lists c.self.inside.records.items c.self.inside.transitions c.self.inside.matches c.facts.ensures.rising)
