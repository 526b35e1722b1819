-- One record more, of no lists.
use Rattle.std.proofs.Common.{ℕ, List, [], ◌∷◌, ◌++◌, length, refl, sym, ap, subst, ◌∙◌, arith}
use Rattle.aho_table.specs.Lists.{list_at}
use Rattle.aho_table.proofs.Results.{overflow_at, out_of_memory_at}
use Rattle.aho_table.specs.Table.{new_state}
use Rattle.aho_table.specs.Inside.{LimitedStates, recorded_states, IsConsistent}
use Rattle.aho_table.specs.declared.links.states.Record.{Record}
use Rattle.aho_table.proofs.Records.{count_is, recorded_states-append, same_table}
use Rattle.aho_table.proofs.Changes.{IsConsistent-push}
use Rattle.aho_table.proofs.links.states.States.add_state.Goals as goal

pub returns-then-index-self-clause-refused : goal.returns-then-index-self-clause-refused
returns-then-index-self-clause-refused c =
    c.overflow.ensures.overflow
    ∙ overflow_at c.args.self.now.limit (length c.args.self.now.states)
    (omega (arith, count_is c.self.inside.records.items c.self.inside.transitions c.self.inside.matches c.self.inside.limit c.args.self.now c.self.view_is, ap (λ (t : LimitedStates). t.limit) c.self.view_is, c.self.inside.records.ok))

pub returns-in_default-clause-refused : goal.returns-in_default-clause-refused
returns-in_default-clause-refused c =
    out_of_memory_at c.args.self.now.limit (length c.args.self.now.states)
    (omega (arith, count_is c.self.inside.records.items c.self.inside.transitions c.self.inside.matches c.self.inside.limit c.args.self.now c.self.view_is, ap (λ (t : LimitedStates). t.limit) c.self.view_is, c.self.inside.records.ok))

pub invariant_of-self-2 : goal.invariant_of-self-2
invariant_of-self-2 c =
    subst (λ (rs : List Record). IsConsistent rs c.self.inside.transitions c.self.inside.matches c.self.inside.limit) (sym c.in-Ok.ensures.items)
    (IsConsistent-push c.self.inside.records.items c.self.inside.transitions c.self.inside.matches c.self.inside.limit (record { transitions = 0; matches = 0; fail = 1; depth = c.args.depth })
    c.self.invariant (omega (arith, c.self.inside.records.ok)) refl refl c.facts.ensures.empty c.facts-2.ensures.empty)

pub returns-clause-number : goal.returns-clause-number
returns-clause-number c = omega (arith, c.new_unchecked.ensures.value, count_is c.self.inside.records.items c.self.inside.transitions c.self.inside.matches c.self.inside.limit c.args.self.now c.self.view_is, c.self.inside.records.ok)

pub returns-clause-added : goal.returns-clause-added
returns-clause-added c =
    same_table
    (ap (recorded_states c.self.inside.transitions.lists c.self.inside.matches.lists) c.in-Ok.ensures.items
    ∙ recorded_states-append c.self.inside.transitions.lists c.self.inside.matches.lists c.self.inside.records.items (record { transitions = 0; matches = 0; fail = 1; depth = c.args.depth })
    ∙ ap (λ (xs : List (ℕ × ℕ)). recorded_states c.self.inside.transitions.lists c.self.inside.matches.lists c.self.inside.records.items
    ++ record { transitions = xs; matches = list_at c.self.inside.matches.lists 0; fail = 1; depth = c.args.depth } ∷ []) c.facts.ensures.empty
    ∙ ap (λ (xs : List ℕ). recorded_states c.self.inside.transitions.lists c.self.inside.matches.lists c.self.inside.records.items
    ++ record { transitions = []; matches = xs; fail = 1; depth = c.args.depth } ∷ []) c.facts-2.ensures.empty
    ∙ ap (λ (t : LimitedStates). t.states ++ new_state c.args.depth ∷ []) c.self.view_is)
    (ap (λ (t : LimitedStates). t.limit) c.self.view_is)

pub returns-clause-within : goal.returns-clause-within
returns-clause-within c = omega (arith, count_is c.self.inside.records.items c.self.inside.transitions c.self.inside.matches c.self.inside.limit c.args.self.now c.self.view_is, ap (λ (t : LimitedStates). t.limit) c.self.view_is, c.self.inside.records.ok)
