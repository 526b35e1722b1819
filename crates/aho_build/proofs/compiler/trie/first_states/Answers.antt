use Rattle.std.proofs.Common.{◌≡◌, ◌∙◌, ◌++◌, ◌∷◌, [], ℕ, List, ap}
use Rattle.aho_table.specs.Table.{State, Tables, new_state}
use Rattle.aho_build.proofs.FirstStates.{HoldsFirst-made}
use Rattle.aho_build.proofs.compiler.trie.first_states.Goals as goal

rows_are : {old new : Tables} → old ≡ new → old.states ≡ new.states
rows_are e = ap (λ (t : Tables). t.states) e

at_zero : (depth : ℕ) (states : List State) → depth ≡ 0 → states ++ new_state depth ∷ [] ≡ states ++ new_state 0 ∷ []
at_zero depth states e = ap (λ (n : ℕ). states ++ new_state n ∷ []) e

pub returns-clause-start : goal.returns-clause-start
returns-clause-start c =
    let depth = c.new_unchecked-depth.result in
    let zero_is = c.new_unchecked-depth.ensures.value in
    λ p.
    HoldsFirst-made p c.in_ok-table.table.states c.add_state.new.self.states c.add_state-2.new.self.states c.add_state-3.new.self.states c.add_state-4.new.self.states
    c.init_full_state.new.table.states c.init_full_state-2.new.table.states c.init_full_state-3.new.table.states
    c.set_fail.new.self.states c.set_fail-2.new.self.states c.set_fail-3.new.self.states
    c.in_ok-dead.dead c.in_ok-fail.fail c.in_ok-unanchored.unanchored c.in_ok-anchored.anchored (rows_are c.in_ok-table.ensures.empty)
    (c.in_ok-dead.ensures.number, rows_are c.in_ok-dead.ensures.added ∙ at_zero depth c.in_ok-table.table.states zero_is)
    (c.in_ok-fail.ensures.number, rows_are c.in_ok-fail.ensures.added ∙ at_zero depth c.add_state.new.self.states zero_is)
    (c.in_ok-unanchored.ensures.number, rows_are c.in_ok-unanchored.ensures.added ∙ at_zero depth c.add_state-2.new.self.states zero_is)
    (c.in_ok-anchored.ensures.number, rows_are c.in_ok-anchored.ensures.added ∙ at_zero depth c.add_state-3.new.self.states zero_is)
    c.in_ok-init_full_state.ensures.filled c.in_ok-init_full_state-2.ensures.filled c.in_ok-init_full_state-3.ensures.filled
    (rows_are c.set_fail.ensures.set) (rows_are c.set_fail-2.ensures.set) (rows_are c.set_fail-3.ensures.set)
