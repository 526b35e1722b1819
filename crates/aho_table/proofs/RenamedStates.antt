-- Numbers that are exchanged for others, in lists, links and rows.
use Rattle.std.proofs.Common.{◌≡◌, ℕ, ◌+◌, ◌-◌, Bool, List, [], ◌∷◌, length, get_or, refl, sym, ap, subst, ◌∙◌, inl, inr, arith}
use Rattle.std.specs.Prelude.{sum_by, nat_eq, if◌then◌else◌, ◌||◌}
use Rattle.std.specs.List.{AllZip}
use Rattle.std.proofs.lemmas.Bool.{cases_eq, cases_lt, cases_Bool}
use Rattle.std.proofs.lemmas.List.{get_or_past}
use Rattle.std.proofs.lemmas.List.Elements.{AllZip-get_or, length_all_zip}
use Rattle.std.proofs.lemmas.List.Sums.{sum_by-cons}
use Rattle.std.proofs.lemmas.Slice.Zip.{AllZip-long}
use Rattle.aho_table.specs.Alphabet.{class_of}
use Rattle.aho_table.specs.Inside.{HasRows, start_in}
use Rattle.aho_table.specs.Table.{State, new_state, state_at, transition_at, lists_transition, transitions_count, matches_count}
use Rattle.aho_table.specs.Renaming.{IsLed, IsTransitionLed, IsRenamed}

-- ---- a whole table

-- a total of what a change leaves
sum_by-kept : {X : Type 0} (R : X → X → Type 0) (f : X → ℕ) → ((x y : X) → R x y → f y ≡ f x) → (xs ys : List X) → AllZip R xs ys → sum_by f ys ≡ sum_by f xs
sum_by-kept R f same [] [] both = refl
sum_by-kept R f same [] (y ∷ ys) both = absurd both
sum_by-kept R f same (x ∷ xs) [] both = absurd both
sum_by-kept R f same (x ∷ xs) (y ∷ ys) both = omega (arith, sum_by-cons f x xs, sum_by-cons f y ys, same x y both.0, sum_by-kept R f same xs ys both.1)

module _ (leads : ℕ → ℕ → Type 0) where
  pub transitions_count-renamed : (old new : List State) → AllZip (IsRenamed leads) old new → transitions_count new ≡ transitions_count old
  transitions_count-renamed old new all =
      ap (λ (n : ℕ). 1 + n)
      (sum_by-kept (IsRenamed leads) (λ (state : State). length state.transitions)
      (λ x y renamed. AllZip-long (IsTransitionLed leads) x.transitions y.transitions renamed.transitions) old new all)

  pub matches_count-renamed : (old new : List State) → AllZip (IsRenamed leads) old new → matches_count new ≡ matches_count old
  matches_count-renamed old new all =
      ap (λ (n : ℕ). 1 + n) (sum_by-kept (IsRenamed leads) (λ (state : State). length state.matches) (λ x y renamed. ap length renamed.matches) old new all)

  -- where a byte leads is led, and FAIL where it leads nowhere
  pub IsLed-transition : (old new : List (ℕ × ℕ)) (byte : ℕ) → AllZip (IsTransitionLed leads) old new → IsLed leads (transition_at old byte) (transition_at new byte)
  IsLed-transition [] [] byte both = record { none = λ e. refl; some = λ ne. absurd (ne refl) }
  IsLed-transition [] (y ∷ ys) byte both = absurd both
  IsLed-transition (x ∷ xs) [] byte both = absurd both
  IsLed-transition (x ∷ xs) (y ∷ ys) byte both =
      subst (λ (own : ℕ). IsLed leads (transition_at (x ∷ xs) byte) (if nat_eq own byte then y.1 else transition_at ys byte)) (sym both.0.0)
      (elim (cases_Bool (nat_eq x.0 byte)) [
        | inl here ↦ rw here both.0.1
        | inr there ↦ rw there (IsLed-transition xs ys byte both.1)
      ])

  -- the bytes that are listed stay
  pub lists_transition-led : (old new : List (ℕ × ℕ)) (byte : ℕ) → AllZip (IsTransitionLed leads) old new → lists_transition new byte ≡ lists_transition old byte
  lists_transition-led [] [] byte both = refl
  lists_transition-led [] (y ∷ ys) byte both = absurd both
  lists_transition-led (x ∷ xs) [] byte both = absurd both
  lists_transition-led (x ∷ xs) (y ∷ ys) byte both =
      ap (λ (own : ℕ). nat_eq own byte || lists_transition ys byte) both.0.0 ∙ ap (λ (rest : Bool). nat_eq x.0 byte || rest) (lists_transition-led xs ys byte both.1)

  -- so is each state
  pub renamed_at : (old new : List State) → AllZip (IsRenamed leads) old new → (n : ℕ) → IsRenamed leads (state_at old n) (state_at new n)
  renamed_at old new all n =
      elim (cases_lt n (length old)) [
        | inl below ↦ AllZip-get_or (IsRenamed leads) old new n (new_state 0) (new_state 0) all below
        | inr past ↦
            subst (λ (state : State). IsRenamed leads state (state_at new n)) (sym (get_or_past old n (new_state 0) past))
            (subst (λ (state : State). IsRenamed leads (new_state 0) state) (sym (get_or_past new n (new_state 0) (omega (arith, length_all_zip (IsRenamed leads) old new all)))) stays)
      ]
    where
      stays : IsRenamed leads (new_state 0) (new_state 0)
      stays = record { transitions = tt; matches = refl; fail = record { none = λ e. refl; some = λ ne. absurd (ne refl) }; depth = refl }

  module _ (one : (n a b : ℕ) → leads n a → leads n b → a ≡ b) where
    -- a number is led to one
    IsLed-one : (n a b : ℕ) → IsLed leads n a → IsLed leads n b → a ≡ b
    IsLed-one n a b of_a of_b =
        elim (cases_eq n 1) [
          | inl fails ↦ of_a.none fails ∙ sym (of_b.none fails)
          | inr leads_on ↦ one n a b (of_a.some leads_on) (of_b.some leads_on)
        ]

    entry_at : (old new : List ℕ) → AllZip (IsLed leads) old new → (n : ℕ) → IsLed leads (get_or old n 1) (get_or new n 1)
    entry_at old new all n =
        elim (cases_lt n (length old)) [
          | inl below ↦ AllZip-get_or (IsLed leads) old new n 1 1 all below
          | inr past ↦
              subst (λ (entry : ℕ). IsLed leads entry (get_or new n 1)) (sym (get_or_past old n 1 past))
              (subst (λ (entry : ℕ). IsLed leads 1 entry) (sym (get_or_past new n 1 (omega (arith, length_all_zip (IsLed leads) old new all)))) (record { none = λ e. refl; some = λ ne. absurd (ne refl) }))
        ]

    pub HasRows-renamed : (old new : List State) (limit : ℕ) (starts : List ℕ) (classes : List Bool) (entries entries' : List ℕ) → AllZip (IsRenamed leads) old new → AllZip (IsLed leads) entries entries'
        → HasRows old starts classes entries limit → HasRows new starts classes entries' limit
    HasRows-renamed old new limit starts classes entries entries' all led has =
        let same_len : length old ≡ length new = length_all_zip (IsRenamed leads) old new all in
        let entries_len : length entries ≡ length entries' = length_all_zip (IsLed leads) entries entries' led in
        record {
          state_count = has.state_count ∙ same_len;
          bounded = let bounded = has.bounded in omega arith;
          rows = λ n some.
              let row = has.rows n some in
              record {
                row = record { some = row.row.some; within = let within = row.row.within in omega arith };
                leads = λ byte below.
                    let at = renamed_at old new all n in
                    let next = IsLed-transition (state_at old n).transitions (state_at new n).transitions byte at.transitions in
                    let entry = subst (λ (number : ℕ). IsLed leads number (get_or entries' (start_in starts n + class_of classes byte - 1) 1)) (row.leads byte below)
                    (entry_at entries entries' led (start_in starts n + class_of classes byte - 1)) in
                    IsLed-one (transition_at (state_at old n).transitions byte) _ _ entry next;
              };
        }
