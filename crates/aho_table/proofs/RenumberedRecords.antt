-- Records that change places, and numbers of states that are exchanged in the records and in the lists of transitions.
use Rattle.std.proofs.Common.{◌≡◌, ℕ, ◌<◌, List, [], ◌∷◌, length, map, get_or, refl, sym, ap, subst, ◌∙◌, arith}
use Rattle.std.specs.List.{AllZip, swap}
use Rattle.std.proofs.lemmas.List.{length-map, ext_get_or}
use Rattle.std.proofs.lemmas.List.Edits.{length-swap}
use Rattle.std.proofs.lemmas.List.Elements.{length_all_zip}
use Rattle.aho_table.specs.Lists.{Lists, PatternLists, list_at}
use Rattle.aho_table.specs.Renaming.{IsTransitionLed}
use Rattle.aho_table.specs.Table.{State, new_state}
use Rattle.aho_table.specs.Inside.{record_at, recorded_state, recorded_states, transition_numbers, IsNone, IsShared, AreNumbers, IsConsistent, IsLinkLed}
use Rattle.aho_table.specs.Remapping.{transposed}
use Rattle.aho_table.specs.Renaming.{IsRenamed}
use Rattle.aho_table.specs.declared.links.states.Record.{Record}
use Rattle.aho_table.proofs.Records.{length-recorded_states, state_at-recorded_states, transition_number, match_number}
use Rattle.aho_table.proofs.Renumbered.{swap-at, transposed-below, transposed-twice}
use Rattle.aho_table.proofs.SwappedStates.{transitions_count-swapped, matches_count-swapped}
use Rattle.aho_table.proofs.RenamedStates.{transitions_count-renamed, matches_count-renamed}

-- ---- two records change places

module _ (records swapped : List Record) (a b : ℕ) (of_a : a < length records) (of_b : b < length records) (is : swapped ≡ swap records a b) where
  same_length : length swapped ≡ length records
  same_length = ap length is ∙ length-swap records a b

  moved : (i : ℕ) → record_at swapped i ≡ record_at records (transposed a b i)
  moved i = swap-at (record { transitions = 0; matches = 0; fail = 1; depth = 0 }) records swapped a b of_a of_b is i

  -- numbers that change places with their records
  AreNumbers-swapped : {X : Type 0} (IsCommon : ℕ → Type 0) (number : Record → ℕ) (lists : List (List X)) (read : (rs : List Record) (i : ℕ) → i < length rs → get_or (map number rs) i 0 ≡ number (record_at rs i))
      → AreNumbers IsCommon (map number records) lists → AreNumbers IsCommon (map number swapped) lists
  AreNumbers-swapped {X = X} IsCommon number lists read are = record {
    known = λ i below.
        let inside : i < length records = omega (arith, same_length, length-map swapped number) in
        subst (λ (n : ℕ). AreKnown n) (sym (at i inside)) (are.known (transposed a b i) (omega (arith, place i inside, length-map records number)));
    apart = λ i j below below' ne same.
        let inside : i < length records = omega (arith, same_length, length-map swapped number) in
        let inside' : j < length records = omega (arith, same_length, length-map swapped number) in
        subst IsCommon (sym (at i inside))
        (are.apart (transposed a b i) (transposed a b j) (omega (arith, place i inside, length-map records number)) (omega (arith, place j inside', length-map records number))
        (λ e. ne (sym (transposed-twice a b i) ∙ ap (transposed a b) e ∙ transposed-twice a b j))
        (sym (at i inside) ∙ same ∙ at j inside'));
  }
    where
      AreKnown : ℕ → Type 0
      AreKnown n = list_at lists n ≡ [] → n ≡ 0

      place : (i : ℕ) → i < length records → transposed a b i < length records
      place i inside = transposed-below a b i (length records) of_a of_b inside

      at : (i : ℕ) → i < length records → get_or (map number swapped) i 0 ≡ get_or (map number records) (transposed a b i) 0
      at i inside = read swapped i (omega (arith, same_length)) ∙ ap number (moved i) ∙ sym (read records (transposed a b i) (place i inside))

  pub recorded_states-swapped : (transitions : List (List (ℕ × ℕ))) (matches : List (List ℕ)) → recorded_states transitions matches swapped ≡ swap (recorded_states transitions matches records) a b
  recorded_states-swapped transitions matches =
      let count = length-recorded_states transitions matches records in
      let count' = length-recorded_states transitions matches swapped in
      let states : List State = recorded_states transitions matches records in
      ext_get_or (new_state 0) (recorded_states transitions matches swapped) (swap states a b)
      (omega (arith, same_length, length-swap states a b))
      (λ i inside.
      let below : i < length records = omega (arith, same_length) in
      let place = transposed-below a b i (length records) of_a of_b below in
      state_at-recorded_states transitions matches swapped i (omega (arith, same_length))
      ∙ ap (recorded_state transitions matches) (moved i)
      ∙ sym (state_at-recorded_states transitions matches records (transposed a b i) place)
      ∙ sym (swap-at (new_state 0) states (swap states a b) a b (omega arith) (omega arith) refl i))

  pub IsConsistent-swapped : (transitions : Lists (ℕ × ℕ)) (matches : PatternLists) (limit : ℕ) → IsConsistent records transitions matches limit → IsConsistent swapped transitions matches limit
  IsConsistent-swapped transitions matches limit old =
      let states : List State = recorded_states transitions.lists matches.lists records in
      let now : List State = recorded_states transitions.lists matches.lists swapped in
      let count = length-recorded_states transitions.lists matches.lists records in
      record {
        small = old.small;
        states_within = omega (arith, same_length, old.states_within);
        transitions_limit = old.transitions_limit;
        matches_limit = old.matches_limit;
        transition_lists = AreNumbers-swapped IsNone (λ (r : Record). r.transitions) transitions.lists transition_number old.transition_lists;
        match_lists = AreNumbers-swapped (IsShared matches.closed) (λ (r : Record). r.matches) matches.lists match_number old.match_lists;
        transitions_are = old.transitions_are ∙ sym (transitions_count-swapped states now a b (omega arith) (omega arith) (recorded_states-swapped transitions.lists matches.lists));
        matches_are = old.matches_are ∙ sym (matches_count-swapped states now a b (omega arith) (omega arith) (recorded_states-swapped transitions.lists matches.lists));
      }

-- ---- numbers are exchanged

none-led : {X : Type 0} (R : X → X → Type 0) (old new : List X) → AllZip R old new → new ≡ [] → old ≡ []
none-led R [] new all none = refl
none-led R (x ∷ old) new all none = absurd (omega (arith, length_all_zip R (x ∷ old) new all, ap length none))

same_numbers : (leads : ℕ → ℕ → Type 0) (number : Record → ℕ) → ((x y : Record) → IsLinkLed leads x y → number y ≡ number x) → (old new : List Record) → AllZip (IsLinkLed leads) old new → map number old ≡ map number new
same_numbers leads number same [] [] all = refl
same_numbers leads number same [] (y ∷ ys) all = absurd all
same_numbers leads number same (x ∷ xs) [] all = absurd all
same_numbers leads number same (x ∷ xs) (y ∷ ys) all =
    ap (λ (n : ℕ). n ∷ map number xs) (sym (same x y all.0)) ∙ ap (λ (ns : List ℕ). number y ∷ ns) (same_numbers leads number same xs ys all.1)

module _ (leads : ℕ → ℕ → Type 0) (before after : Lists (ℕ × ℕ)) (matches : PatternLists)
    (lists : (list : ℕ) → AllZip (IsTransitionLed leads) (list_at before.lists list) (list_at after.lists list)) where
  pub recorded_states-renamed : (old new : List Record) → AllZip (IsLinkLed leads) old new → AllZip (IsRenamed leads) (recorded_states before.lists matches.lists old) (recorded_states after.lists matches.lists new)
  unfolding recorded_states
  recorded_states-renamed [] [] all = tt
  recorded_states-renamed [] (y ∷ ys) all = absurd all
  recorded_states-renamed (x ∷ xs) [] all = absurd all
  recorded_states-renamed (x ∷ xs) (y ∷ ys) all = (
    record {
      transitions = subst (λ (n : ℕ). AllZip (IsTransitionLed leads) (list_at before.lists x.transitions) (list_at after.lists n)) (sym all.0.transitions) (lists x.transitions);
      matches = ap (list_at matches.lists) all.0.matches;
      fail = all.0.fail;
      depth = all.0.depth;
    },
    recorded_states-renamed xs ys all.1,
  )

  pub IsConsistent-renamed : (old new : List Record) (limit : ℕ) → AllZip (IsLinkLed leads) old new → length after.lists ≡ length before.lists → after.limit ≡ before.limit
      → IsConsistent old before matches limit → IsConsistent new after matches limit
  IsConsistent-renamed old new limit all count same was =
      let renamed = recorded_states-renamed old new all in
      let states : List State = recorded_states before.lists matches.lists old in
      let now : List State = recorded_states after.lists matches.lists new in
      record {
        small = was.small;
        states_within = omega (arith, length_all_zip (IsLinkLed leads) old new all, was.states_within);
        transitions_limit = same ∙ was.transitions_limit;
        matches_limit = was.matches_limit;
        transition_lists = subst (λ (ns : List ℕ). AreNumbers IsNone ns after.lists) (same_numbers leads (λ (r : Record). r.transitions) (λ x y led. led.transitions) old new all) (record {
          known = λ i below none. was.transition_lists.known i below (none-led (IsTransitionLed leads) _ _ (lists (get_or (transition_numbers old) i 0)) none);
          apart = was.transition_lists.apart;
        });
        match_lists = subst (λ (ns : List ℕ). AreNumbers (IsShared matches.closed) ns matches.lists) (same_numbers leads (λ (r : Record). r.matches) (λ x y led. led.matches) old new all) was.match_lists;
        transitions_are = count ∙ was.transitions_are ∙ sym (transitions_count-renamed leads states now renamed);
        matches_are = was.matches_are ∙ sym (matches_count-renamed leads states now renamed);
      }
