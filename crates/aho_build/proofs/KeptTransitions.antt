-- What the links keep: the states, and how many transitions they list together.
use Rattle.std.proofs.Common.{◌≡◌, ℕ, suc, ◌<◌, ◌≤◌, ◌≢◌, true, List, [], ◌∷◌, ◌++◌, length, get_or, refl, sym, ap, ◌∙◌, inl, inr, arith}
use Rattle.std.specs.Prelude.{sum_by, slice_set}
use Rattle.std.proofs.lemmas.Bool.{cases_eq}
use Rattle.std.proofs.lemmas.List.{length-set}
use Rattle.std.proofs.lemmas.List.Sums.{sum_by-cons}
use Rattle.aho_build.specs.Starts.{IsLedBelow, ListsAllBytes}
use Rattle.aho_build.specs.FailureLinks.{rows_of, HasSameTransitions, OnlyCopies, append_matches}
use Rattle.aho_table.specs.Table.{fail_id, State, Tables, new_state, state_at, matches_in, with_transition, set_transition, lists_transition, transitions_count, matches_count}
use Rattle.aho_table.proofs.States.{state_at-set_same, state_at-set_other, part-set}
use Rattle.aho_build.proofs.ListedBytes.{lists_transition-with_transition, lists_transition-with_transition_other}

-- sums of terms that are no larger, place by place
pub sum_by-places : {X Y : Type 0} (f : X → ℕ) (g : Y → ℕ) (xs : List X) (ys : List Y) (d : X) (e : Y) → length xs ≡ length ys
    → ((i : ℕ) → i < length xs → f (get_or xs i d) ≤ g (get_or ys i e)) → sum_by f xs ≤ sum_by g ys
sum_by-places f g [] [] d e size each = omega arith
sum_by-places f g [] (y ∷ ys) d e size each = absurd (omega arith)
sum_by-places f g (x ∷ xs) [] d e size each = absurd (omega arith)
sum_by-places f g (x ∷ xs) (y ∷ ys) d e size each =
    let first : f x ≤ g y = each 0 (omega arith) in
    let rest = sum_by-places f g xs ys d e (omega arith) (λ i below. each (suc i) (omega arith)) in
    omega (arith, sum_by-cons f x xs, sum_by-cons g y ys, first, rest)

-- tables with the same transitions list as many
pub transitions_count-same : (old new : List State) → length new ≡ length old → HasSameTransitions old new → transitions_count new ≡ transitions_count old
transitions_count-same old new size same =
    let weight : State → ℕ = λ r. length r.transitions in
    let less = sum_by-places weight weight new old (new_state 0) (new_state 0) size (λ i below. omega (arith, ap (λ (l : List (ℕ × ℕ)). length l) (same i))) in
    let more = sum_by-places weight weight old new (new_state 0) (new_state 0) (sym size) (λ i below. omega (arith, ap (λ (l : List (ℕ × ℕ)). length l) (same i))) in
    omega (arith, less, more)

-- and those with the same patterns
pub matches_count-same : (old new : List State) → length new ≡ length old → ((i : ℕ) → matches_in new i ≡ matches_in old i) → matches_count new ≡ matches_count old
matches_count-same old new size same =
    let weight : State → ℕ = λ r. length r.matches in
    let less = sum_by-places weight weight new old (new_state 0) (new_state 0) size (λ i below. omega (arith, ap (λ (l : List ℕ). length l) (same i))) in
    let more = sum_by-places weight weight old new (new_state 0) (new_state 0) (sym size) (λ i below. omega (arith, ap (λ (l : List ℕ). length l) (same i))) in
    omega (arith, less, more)

-- patterns that are copied change no transitions
pub transitions_count-append : (states new : List State) (to from : ℕ) → to < length states → new ≡ append_matches states to from → transitions_count new ≡ transitions_count states
transitions_count-append states new to from below is =
    let state : State = record (state_at states to) { matches = (state_at states to).matches ++ matches_in states from } in
    ap transitions_count is
    ∙ transitions_count-same states (slice_set states to state) (length-set states to state) (part-set (λ (r : State). r.transitions) states to state below refl)

-- a byte that is listed stays so
lists_transition-stays : (transitions : List (ℕ × ℕ)) (byte next other : ℕ) → lists_transition transitions other ≡ true → lists_transition (with_transition transitions byte next) other ≡ true
lists_transition-stays transitions byte next other listed =
    elim (cases_eq other byte) [
      | inl same ↦ ap (lists_transition (with_transition transitions byte next)) same ∙ lists_transition-with_transition transitions byte next
      | inr apart ↦ lists_transition-with_transition_other transitions byte next other apart ∙ listed
    ]

-- a byte that is led elsewhere leaves every byte listed
pub ListsAllBytes-set : (states new : List State) (sid byte next : ℕ) → sid < length states → new ≡ set_transition states sid byte next → ListsAllBytes states sid → ListsAllBytes new sid
ListsAllBytes-set states new sid byte next below new_is listed other small =
    let state : State = record (state_at states sid) { transitions = with_transition (state_at states sid).transitions byte next } in
    ap (λ (t : List State). lists_transition (state_at t sid).transitions other) new_is
    ∙ ap (λ (r : State). lists_transition r.transitions other) (state_at-set_same states sid state below)
    ∙ lists_transition-stays (state_at states sid).transitions byte next other (listed other small)

-- and so do patterns that are copied
pub ListsAllBytes-append : (states new : List State) (to from sid : ℕ) → to < length states → new ≡ append_matches states to from → ListsAllBytes states sid → ListsAllBytes new sid
ListsAllBytes-append states new to from sid below is listed other small =
    let state : State = record (state_at states to) { matches = (state_at states to).matches ++ matches_in states from } in
    ap (λ (t : List State). lists_transition (state_at t sid).transitions other) is
    ∙ ap (λ (l : List (ℕ × ℕ)). lists_transition l other) (part-set (λ (r : State). r.transitions) states to state below refl sid)
    ∙ listed other small

-- and so does a change of another state
pub ListsAllBytes-state : (states new : List State) (sid : ℕ) → state_at new sid ≡ state_at states sid → ListsAllBytes states sid → ListsAllBytes new sid
ListsAllBytes-state states new sid same listed other small = ap (λ (r : State). lists_transition r.transitions other) same ∙ listed other small

-- bytes that are led elsewhere change no list of patterns
pub matches_count-led : (sid count : ℕ) (leads : ℕ → ℕ) (old new : List State) → IsLedBelow sid count leads old new → matches_count new ≡ matches_count old
matches_count-led sid count leads old new led =
    matches_count-same old new led.sized
    (λ i. elim (cases_eq i sid) [
      | inl here ↦ ap (matches_in new) here ∙ led.matches ∙ ap (matches_in old) (sym here)
      | inr there ↦ ap (λ (r : State). r.matches) (led.others i there)
    ])

-- one change after another
pub OnlyCopies-both : (old mid new : Tables) → OnlyCopies old mid → OnlyCopies mid new → OnlyCopies old new
OnlyCopies-both old mid new first second = record {
  limit = second.limit ∙ first.limit;
  rows = second.rows ∙ first.rows;
  state_count = second.state_count ∙ first.state_count;
  transitions = λ i. second.transitions i ∙ first.transitions i;
  fail_state = second.fail_state ∙ first.fail_state;
}

-- another state's link and patterns
pub OnlyCopies-state : (old new : Tables) (sid : ℕ) (state : State) → sid < length old.states → sid ≢ fail_id → state.transitions ≡ (state_at old.states sid).transitions
    → new.limit ≡ old.limit → rows_of new ≡ rows_of old → new.states ≡ slice_set old.states sid state → OnlyCopies old new
OnlyCopies-state old new sid state below apart same limit rows states_are = record {
  limit = limit;
  rows = rows;
  state_count = ap (λ (t : List State). length t) states_are ∙ length-set old.states sid state;
  transitions = λ i. ap (λ (t : List State). (state_at t i).transitions) states_are ∙ part-set (λ (r : State). r.transitions) old.states sid state below same i;
  fail_state = ap (λ (t : List State). state_at t fail_id) states_are ∙ state_at-set_other old.states sid fail_id state (λ e. apart (sym e));
}
