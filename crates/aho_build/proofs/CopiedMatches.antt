-- A state whose link is set, and then its list copied.
use Rattle.std.proofs.Common.{◌≡◌, ℕ, ◌<◌, ◌≢◌, List, ◌++◌, length, sym, ap, ◌∙◌}
use Rattle.std.proofs.Math.ListN.{set}
use Rattle.std.proofs.lemmas.List.{set-set}
use Rattle.aho_build.specs.FailureLinks.{append_matches, linked_state}
use Rattle.aho_table.specs.Table.{State, state_at, matches_in, set_fail_of}
use Rattle.aho_table.proofs.States.{state_at-set_same, state_at-set_other}

-- another state's list stays
pub copied_keeps : (states : List State) (to from : ℕ) (state : State) → to ≢ from → matches_in (set states to state) from ≡ matches_in states from
copied_keeps states to from state apart = ap (λ (r : State). r.matches) (state_at-set_other states to from state (λ e. apart (sym e)))

-- the link is set and the list copied
pub linked_state-both : (old new : List State) (sid fail : ℕ) → sid < length old → sid ≢ fail → new ≡ append_matches (set_fail_of old sid fail) sid fail → new ≡ linked_state old sid fail
linked_state-both old new sid fail below apart new_is =
    let state : State = record (state_at old sid) { fail = fail } in
    let list : matches_in (set old sid state) fail ≡ matches_in old fail = copied_keeps old sid fail state apart in
    new_is
    ∙ ap (λ (r : State). set (set old sid state) sid (record r { matches = r.matches ++ matches_in (set old sid state) fail })) (state_at-set_same old sid state below)
    ∙ set-set old sid state (record state { matches = state.matches ++ matches_in (set old sid state) fail })
    ∙ ap (λ (l : List ℕ). set old sid (record state { matches = state.matches ++ l })) list
