-- What one state, read, changed or added, says of the table.
use Rattle.std.proofs.Common.{◌≡◌, ℕ, ◌+◌, ◌<◌, ◌≢◌, List, [], ◌∷◌, ◌++◌, length, get_or, refl, sym, ap, subst, ◌∙◌, inl, inr, arith}
use Rattle.std.proofs.Math.ListN.{set}
use Rattle.std.proofs.lemmas.Bool.{cases_eq, cases_order}
use Rattle.std.proofs.lemmas.List.{get_or_past, length_push, get_or-set_same, get_or-set_other, get_or_append_left, get_or_push}
use Rattle.std.proofs.lemmas.List.Sums.{sum_by-set}
use Rattle.aho_table.specs.Table.{State, new_state, state_at, IsRising, AllRising, transitions_count, matches_count}

pub transitions_count-set : (states : List State) (sid : ℕ) (state old : State) → sid < length states → old ≡ get_or states sid old
    → transitions_count (set states sid state) + length old.transitions ≡ transitions_count states + length state.transitions
transitions_count-set states sid state old below is =
    omega (arith, sum_by-set (λ (r : State). length r.transitions) states sid state old below, ap (λ (r : State). length r.transitions) is)

pub matches_count-set : (states : List State) (sid : ℕ) (state old : State) → sid < length states → old ≡ get_or states sid old
    → matches_count (set states sid state) + length old.matches ≡ matches_count states + length state.matches
matches_count-set states sid state old below is =
    omega (arith, sum_by-set (λ (r : State). length r.matches) states sid state old below, ap (λ (r : State). length r.matches) is)

-- ---- the states after one was changed or added

pub state_at-set_same : (states : List State) (sid : ℕ) (state : State) → sid < length states → state_at (set states sid state) sid ≡ state
state_at-set_same states sid state below = get_or-set_same states sid state (new_state 0) below

pub state_at-set_other : (states : List State) (sid other : ℕ) (state : State) → other ≢ sid → state_at (set states sid state) other ≡ state_at states other
state_at-set_other states sid other state ne = get_or-set_other states sid other state (new_state 0) ne

-- a part of the states that a change leaves
pub part-set : {X : Type 0} (part : State → X) (states : List State) (sid : ℕ) (state : State) → sid < length states → part state ≡ part (state_at states sid)
    → (i : ℕ) → part (state_at (set states sid state) i) ≡ part (state_at states i)
part-set part states sid state below same i =
    elim (cases_eq i sid) [
      | inl here ↦ ap (λ (n : ℕ). part (state_at (set states sid state) n)) here ∙ ap part (state_at-set_same states sid state below) ∙ same ∙ ap (λ (n : ℕ). part (state_at states n)) (sym here)
      | inr there ↦ ap part (state_at-set_other states sid i state there)
    ]

pub state_at-push_old : (table : List State) (state : State) (other : ℕ) → other < length table → state_at (table ++ state ∷ []) other ≡ state_at table other
state_at-push_old table state other below = get_or_append_left table (state ∷ []) (new_state 0) other below

pub state_at-push_new : (table : List State) (state : State) → state_at (table ++ state ∷ []) (length table) ≡ state
state_at-push_new table state = get_or_push table state (new_state 0) (length table) refl

-- ---- the lists still rise

-- one state more lists nothing
pub AllRising-push : (states : List State) (depth : ℕ) → AllRising states → AllRising (states ++ new_state depth ∷ [])
AllRising-push states depth rising i =
    elim (cases_order i (length states)) [
      | inl last ↦
          subst (λ (r : State). IsRising r.transitions) (sym (ap (state_at (states ++ new_state depth ∷ [])) last ∙ state_at-push_new states (new_state depth))) tt
      | inr apart ↦
          elim apart [
            | inl below ↦ subst (λ (r : State). IsRising r.transitions) (sym (state_at-push_old states (new_state depth) i below)) (rising i)
            | inr past ↦ subst (λ (r : State). IsRising r.transitions) (sym (get_or_past (states ++ new_state depth ∷ []) i (new_state 0) (omega (arith, past, length_push states (new_state depth))))) tt
          ]
    ]
