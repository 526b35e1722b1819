-- Two states that change places: the counts stay, the lists still rise, and each row is that of its state.
use Rattle.std.proofs.Common.{◌≡◌, ℕ, ◌+◌, ◌<◌, Bool, List, length, sym, ap, subst, ◌∙◌, arith}
use Rattle.std.specs.Prelude.{sum_by}
use Rattle.std.specs.List.{swap}
use Rattle.std.proofs.lemmas.List.Edits.{length-swap}
use Rattle.std.proofs.lemmas.List.Sorted.{IsPermutation-swap, sum_by-IsPermutation}
use Rattle.aho_table.specs.Table.{State, new_state, state_at, transitions_count, matches_count}
use Rattle.aho_table.specs.Inside.{IsRowOf, start_in, HasRows}
use Rattle.aho_table.specs.Remapping.{transposed}
use Rattle.aho_table.proofs.Renumbered.{swap-at}

module _ (states swapped : List State) (a b : ℕ) (of_a : a < length states) (of_b : b < length states) (is : swapped ≡ swap states a b) where
  sum_stays : (f : State → ℕ) → sum_by f swapped ≡ sum_by f states
  sum_stays f = sum_by-IsPermutation f states swapped (IsPermutation-swap states swapped a b of_a of_b is)

  pub transitions_count-swapped : transitions_count swapped ≡ transitions_count states
  transitions_count-swapped = ap (λ (n : ℕ). 1 + n) (sum_stays (λ (state : State). length state.transitions))

  pub matches_count-swapped : matches_count swapped ≡ matches_count states
  matches_count-swapped = ap (λ (n : ℕ). 1 + n) (sum_stays (λ (state : State). length state.matches))

  pub HasRows-swapped : (limit : ℕ) (starts starts' : List ℕ) (classes : List Bool) (entries : List ℕ) → starts' ≡ swap starts a b → HasRows states starts classes entries limit → HasRows swapped starts' classes entries limit
  HasRows-swapped limit starts starts' classes entries starts_are has =
      let same_len : length swapped ≡ length states = ap length is ∙ length-swap states a b in
      let starts_len : length starts' ≡ length starts = ap length starts_are ∙ length-swap starts a b in
      let state_count = has.state_count in
      let recorded_state : (n : ℕ) → state_at swapped n ≡ state_at states (transposed a b n) = swap-at (new_state 0) states swapped a b of_a of_b is in
      let start_of : (n : ℕ) → start_in starts' n ≡ start_in starts (transposed a b n) = swap-at 0 starts starts' a b (omega arith) (omega arith) starts_are in
      record {
        state_count = starts_len ∙ state_count ∙ sym same_len;
        bounded = has.bounded;
        rows = λ n some.
            subst (λ (start : ℕ). IsRowOf classes entries (state_at swapped n).transitions start) (sym (start_of n))
            (subst (λ (state : State). IsRowOf classes entries state.transitions (start_in starts (transposed a b n))) (sym (recorded_state n))
            (has.rows (transposed a b n) (subst (λ (start : ℕ). 0 < start) (start_of n) some)));
      }
