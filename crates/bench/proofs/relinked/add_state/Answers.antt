use Rattle.std.proofs.Common.{◌≡◌, ◌∙◌, List, ℕ, sym, ap}
use Rattle.aho_corasick.specs.ReadOut.{states_of}
use Rattle.aho_table.specs.Table.{State, Tables, state_at}
use Rattle.bench.proofs.Relinking.{four_changes, state_added}
use Rattle.bench.proofs.relinked.add_state.Goals as goal

pub returns-clause-added : goal.returns-clause-added
returns-clause-added c =
    let state : State = state_at (states_of c.args.nfa.now) c.args.sid in
    let depth = c.new_unchecked.ensures.value ∙ c.depth.ensures.depth in
    let read : state ≡ record { transitions = c.transitions.result; matches = c.matches.result; fail = c.fail.result; depth = c.new_unchecked.result } =
    ap (λ (l : List (ℕ × ℕ)). record state { transitions = l }) (sym c.transitions.ensures.listed)
    ∙ ap (λ (l : List ℕ). record state { transitions = c.transitions.result; matches = l }) (sym c.matches.ensures.listed)
    ∙ ap (λ (n : ℕ). record state { transitions = c.transitions.result; matches = c.matches.result; fail = n }) (sym c.fail.ensures.fail)
    ∙ ap (λ (n : ℕ). record { transitions = c.transitions.result; matches = c.matches.result; fail = c.fail.result; depth = n }) (sym depth) in
    let added = c.in_ok-added.ensures.added in
    let listed = c.in_ok-add_transitions.ensures.set in
    let told = c.in_ok-add_matches.ensures.listed in
    let states = state_added c.args.table.now.states c.add_state.new.self.states c.add_transitions.new.table.states c.add_matches.new.table.states c.set_fail.new.self.states
    c.in_ok-added.added c.new_unchecked.result c.fail.result c.transitions.result c.matches.result state
    c.in_ok-added.ensures.number (ap (λ (t : Tables). t.states) added) (ap (λ (t : Tables). t.states) listed) (ap (λ (t : Tables). t.states) told)
    (ap (λ (t : Tables). t.states) c.set_fail.ensures.set) read in
    four_changes c.args.table.now c.add_state.new.self c.add_transitions.new.table c.add_matches.new.table c.set_fail.new.self _ _ _ _ _ _ _ added listed told c.set_fail.ensures.set
    (sym (ap (λ (t : Tables). t.states) c.set_fail.ensures.set) ∙ states)
