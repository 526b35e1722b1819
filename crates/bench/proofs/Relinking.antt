-- A table that is filled with what is read out, one entry after another.
use Rattle.std.proofs.Common.{◌≡◌, ℕ, zero, suc, ◌+◌, ◌<◌, ◌≤◌, ◌*◌, cond, Bool, List, [], ◌∷◌, ◌++◌, length, get_or, take, refl, sym, ap, ◌∙◌, arith}
use Rattle.std.specs.Prelude.{slice_set}
use Rattle.std.proofs.Math.Seq.{set-append_seam}
use Rattle.std.proofs.lemmas.List.{set-set, set-get_or, take_more, take_all}
use Rattle.std.specs.List.{count_by}
use Rattle.std.proofs.lemmas.List.Sums.{sum_by-cons}
use Rattle.aho_core.specs.Patterns.{Patterns}
use Rattle.aho_table.specs.Table.{State, Tables, IsRising, new_state, state_at, with_transition, set_transition, push_match, set_fail_of}
use Rattle.aho_table.proofs.States.{state_at-set_same, state_at-push_new}
use Rattle.aho_table.proofs.TransitionLists.{with_transition-more}
use Rattle.aho_build.specs.Dense.{classes_size, dense_size, is_near}
use Rattle.aho_build.specs.Sizes.{nodes}

-- a list that rises is made by adding one entry after another
with_transition-front : (transitions : List (ℕ × ℕ)) (count : ℕ) (d : ℕ × ℕ) → IsRising transitions → count < length transitions
    → with_transition (take count transitions) (get_or transitions count d).0 (get_or transitions count d).1 ≡ take (suc count) transitions
with_transition-front [] count d rising below = absurd (omega arith)
with_transition-front (transition ∷ transitions) zero d rising below = refl
with_transition-front (transition ∷ transitions) (suc count) d rising below =
    let within : count < length transitions = omega arith in
    with_transition-more transition (take count transitions) (get_or transitions count d).0 (get_or transitions count d).1 (rising.0 count d within)
    ∙ ap (λ (l : List (ℕ × ℕ)). transition ∷ l) (with_transition-front transitions count d rising.1 within)

-- the state with the first of these transitions, or of these patterns
abbrev pub with_transitions : List State → ℕ → List (ℕ × ℕ) → ℕ → List State
with_transitions states sid transitions count = slice_set states sid (record (state_at states sid) { transitions = take count transitions })

abbrev pub with_matches : List State → ℕ → List ℕ → ℕ → List State
with_matches states sid matches count = slice_set states sid (record (state_at states sid) { matches = take count matches })

module _ (states : List State) (sid : ℕ) where
  pub transitions_none : (transitions : List (ℕ × ℕ)) → (state_at states sid).transitions ≡ [] → states ≡ with_transitions states sid transitions 0
  transitions_none transitions empty =
      sym (ap (λ (l : List (ℕ × ℕ)). slice_set states sid (record (state_at states sid) { transitions = l })) (sym empty) ∙ set-get_or states sid (new_state 0))

  pub transitions_more : (transitions : List (ℕ × ℕ)) (count : ℕ) (item : ℕ × ℕ) → sid < length states → IsRising transitions → count < length transitions → item ≡ get_or transitions count item
      → set_transition (with_transitions states sid transitions count) sid item.0 item.1 ≡ with_transitions states sid transitions (count + 1)
  transitions_more transitions count item below rising within is =
      let state : State = record (state_at states sid) { transitions = take count transitions } in
      let one_more : suc count ≡ count + 1 = omega arith in
      let list : with_transition (take count transitions) item.0 item.1 ≡ take (count + 1) transitions =
      ap (λ (t : ℕ × ℕ). with_transition (take count transitions) t.0 t.1) is ∙ with_transition-front transitions count item rising within
      ∙ ap (λ (n : ℕ). take n transitions) one_more in
      ap (λ (r : State). slice_set (slice_set states sid state) sid (record r { transitions = with_transition r.transitions item.0 item.1 })) (state_at-set_same states sid state below)
      ∙ set-set states sid state (record state { transitions = with_transition (take count transitions) item.0 item.1 })
      ∙ ap (λ (l : List (ℕ × ℕ)). slice_set states sid (record (state_at states sid) { transitions = l })) list

  pub transitions_all : (transitions : List (ℕ × ℕ)) (count : ℕ) → length transitions ≤ count
      → with_transitions states sid transitions count ≡ slice_set states sid (record (state_at states sid) { transitions = transitions })
  transitions_all transitions count past = ap (λ (l : List (ℕ × ℕ)). slice_set states sid (record (state_at states sid) { transitions = l })) (take_all count transitions past)

  pub matches_none : (matches : List ℕ) → (state_at states sid).matches ≡ [] → states ≡ with_matches states sid matches 0
  matches_none matches empty =
      sym (ap (λ (l : List ℕ). slice_set states sid (record (state_at states sid) { matches = l })) (sym empty) ∙ set-get_or states sid (new_state 0))

  pub matches_more : (matches : List ℕ) (count item : ℕ) → sid < length states → count < length matches → item ≡ get_or matches count item
      → push_match (with_matches states sid matches count) sid item ≡ with_matches states sid matches (count + 1)
  matches_more matches count item below within is =
      let state : State = record (state_at states sid) { matches = take count matches } in
      let list : take count matches ++ item ∷ [] ≡ take (count + 1) matches = ap (λ (n : ℕ). take count matches ++ n ∷ []) is ∙ sym (take_more matches count item within) in
      ap (λ (r : State). slice_set (slice_set states sid state) sid (record r { matches = r.matches ++ item ∷ [] })) (state_at-set_same states sid state below)
      ∙ set-set states sid state (record state { matches = take count matches ++ item ∷ [] })
      ∙ ap (λ (l : List ℕ). slice_set states sid (record (state_at states sid) { matches = l })) list

  pub matches_all : (matches : List ℕ) (count : ℕ) → length matches ≤ count
      → with_matches states sid matches count ≡ slice_set states sid (record (state_at states sid) { matches = matches })
  matches_all matches count past = ap (λ (l : List ℕ). slice_set states sid (record (state_at states sid) { matches = l })) (take_all count matches past)

-- the last state is changed
last-changed : (states : List State) (state : State) (change : State → State) → slice_set (states ++ state ∷ []) (length states) (change (state_at (states ++ state ∷ []) (length states))) ≡ states ++ change state ∷ []
last-changed states state change =
    ap (λ (r : State). slice_set (states ++ state ∷ []) (length states) (change r)) (state_at-push_new states state) ∙ set-append_seam states state [] (change state)

-- a state is added, with its transitions, its patterns and its link
pub state_added : (old one two three new : List State) (sid depth fail : ℕ) (transitions : List (ℕ × ℕ)) (matches : List ℕ) (state : State) → sid ≡ length old → one ≡ old ++ new_state depth ∷ []
    → two ≡ slice_set one sid (record (state_at one sid) { transitions = transitions }) → three ≡ slice_set two sid (record (state_at two sid) { matches = matches })
    → new ≡ set_fail_of three sid fail → state ≡ record { transitions = transitions; matches = matches; fail = fail; depth = depth } → new ≡ old ++ state ∷ []
state_added old one two three new sid depth fail transitions matches state place one_is two_is three_is new_is state_is =
    let first : State = record (new_state depth) { transitions = transitions } in
    let second : State = record first { matches = matches } in
    let two_last : two ≡ old ++ first ∷ [] =
    two_is
    ∙ ap (λ (n : ℕ). slice_set one n (record (state_at one n) { transitions = transitions })) place
    ∙ ap (λ (l : List State). slice_set l (length old) (record (state_at l (length old)) { transitions = transitions })) one_is
    ∙ last-changed old (new_state depth) (λ r. record r { transitions = transitions }) in
    let three_last : three ≡ old ++ second ∷ [] =
    three_is
    ∙ ap (λ (n : ℕ). slice_set two n (record (state_at two n) { matches = matches })) place
    ∙ ap (λ (l : List State). slice_set l (length old) (record (state_at l (length old)) { matches = matches })) two_last
    ∙ last-changed old first (λ r. record r { matches = matches }) in
    new_is
    ∙ ap (λ (n : ℕ). set_fail_of three n fail) place
    ∙ ap (λ (l : List State). set_fail_of l (length old) fail) three_last
    ∙ last-changed old second (λ r. record r { fail = fail })
    ∙ ap (λ (r : State). old ++ r ∷ []) (sym state_is)

-- four changes of the states are one, whatever rows the first two leave
pub four_changes : (old one two three new : Tables) (first second third fourth states : List State) (rows left : List Bool) → one ≡ record old { states = first; rows = rows }
    → two ≡ record one { states = second; rows = left } → three ≡ record two { states = third } → new ≡ record three { states = fourth } → fourth ≡ states
    → new ≡ record old { states = states; rows = new.rows }
four_changes old one two three new first second third fourth states rows left one_is two_is three_is new_is last =
    let all : new ≡ record old { states = fourth; rows = left } =
    new_is
    ∙ ap (λ (t : Tables). record t { states = fourth }) (three_is ∙ ap (λ (t : Tables). record t { states = third }) (two_is ∙ ap (λ (t : Tables). record t { states = second; rows = left }) one_is)) in
    all
    ∙ ap (λ (l : List State). record old { states = l; rows = left }) last
    ∙ ap (λ (l : List Bool). record old { states = states; rows = l }) (sym (ap (λ (t : Tables). t.rows) all))

-- at depth 0 no state has a row
no_rows : (words : List (List ℕ)) → count_by (λ word. is_near 0 (length word)) words ≡ 0
no_rows [] = refl
no_rows (word ∷ words) = sum_by-cons (λ (w : List ℕ). cond (is_near 0 (length w)) 1 0) word words ∙ ap (λ (n : ℕ). cond (is_near 0 (length word)) 1 0 + n) (no_rows words)

nothing_and_one : (n : ℕ) → 0 * n + 1 ≡ 1
nothing_and_one n = omega arith

pub dense_size-none : (p : Patterns) → dense_size 0 p ≡ 1
dense_size-none p = ap (λ (n : ℕ). n * classes_size p + 1) (no_rows ([] ∷ [] ∷ nodes p)) ∙ nothing_and_one (classes_size p)
