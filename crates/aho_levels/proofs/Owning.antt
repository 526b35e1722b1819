-- The patterns that end at a state, of those that stand by their states.
use Rattle.std.proofs.Common.{◌≡◌, ◌≢◌, ◌⊎◌, ◌∙◌, ℕ, suc, ◌+◌, ◌-◌, ◌<◌, ◌≤◌, Bool, true, false, inl, inr, List, [], ◌∷◌, ◌++◌, ap, arith, drop, get_or, length, nat_eq, refl, subst, sym, take}
use Rattle.std.proofs.lemmas.Bool.{cases_eq, cases_lt, cond-true, cond-false, eq-eqb, ne_eqb}
use Rattle.std.proofs.lemmas.List.{append-nil, drop-drop, get_or-drop, get_or-take, length-drop, length-take, take-append-drop}
use Rattle.std.proofs.lemmas.List.Elements.{filter-append}
use Rattle.std.specs.List.{filter}
use Rattle.aho_levels.specs.Building.{owns_at}
use Rattle.aho_levels.specs.Listing.{AreAllAt, ArePassed, numbers_of}
use Rattle.aho_levels.specs.declared.trie.Own.{Own}

-- a test that no element passes keeps none, and one that each passes keeps all
filter-none : (test : Own → Bool) (xs : List Own) → ((i : ℕ) (d : Own) → i < length xs → test (get_or xs i d) ≡ false) → filter test xs ≡ []
filter-none test [] none = refl
filter-none test (x ∷ xs) none =
    cond-false (test x) (x ∷ filter test xs) (filter test xs) (none 0 x (omega arith))
    ∙ filter-none test xs (λ i d less. none (suc i) d (omega (arith, less)))

filter-whole : (test : Own → Bool) (xs : List Own) → ((i : ℕ) (d : Own) → i < length xs → test (get_or xs i d) ≡ true) → filter test xs ≡ xs
filter-whole test [] all = refl
filter-whole test (x ∷ xs) all =
    cond-true (test x) (x ∷ filter test xs) (filter test xs) (all 0 x (omega arith))
    ∙ ap (λ (l : List Own). x ∷ l) (filter-whole test xs (λ i d less. all (suc i) d (omega (arith, less))))

-- the patterns that stand by their states rise with them
abbrev pub AreByState : List Own → Type 0
AreByState owns = (i j : ℕ) (d : Own) → i < j → j < length owns → (get_or owns i d).state ≤ (get_or owns j d).state

module _ (owns : List Own) (own next sid : ℕ) (at : AreAllAt owns own next sid) (passed : ArePassed owns own sid) (rising : AreByState owns) where
  -- those from the next one on end at later states
  later : (i : ℕ) (d : Own) → next ≤ i → i < length owns → sid + 1 ≤ (get_or owns i d).state
  later i d from within =
      let other : sid < (get_or owns next d).state = above (cases_eq (get_or owns next d).state sid) in
      elim (cases_eq i next) [
        | inl same ↦ subst (λ (n : ℕ). sid + 1 ≤ (get_or owns n d).state) (sym same) (omega (arith, other))
        | inr more ↦ omega (arith, other, rising next i d (omega (arith, from, more)) within)
      ]
    where
      above : ((get_or owns next d).state ≡ sid) ⊎ ((get_or owns next d).state ≢ sid) → sid < (get_or owns next d).state
      above (inl same) = absurd (at.ends d (omega (arith, from, within)) same)
      above (inr other) = omega (arith, other, passed.behind next d at.ordered (omega (arith, from, within)))

  -- so just those of this state are passed besides
  pub passed-more : ArePassed owns next (sid + 1)
  passed-more = record {
    before = λ i d less.
        elim (cases_lt i own) [
          | inl before ↦ omega (arith, passed.before i d before)
          | inr behind ↦ omega (arith, at.all i d behind less)
        ];
    behind = later;
  }

  -- and they are all that end there
  pub owns-run : owns_at owns sid ≡ numbers_of (take (next - own) (drop own owns))
  owns-run = ap numbers_of whole
    where
      test : Own → Bool
      test x = nat_eq x.state sid

      middle : List Own
      middle = take (next - own) (drop own owns)

      parts : owns ≡ take own owns ++ (middle ++ drop next owns)
      parts =
          let whole : own + (next - own) ≡ next = omega (arith, at.ordered) in
          sym (take-append-drop own owns)
          ∙ ap (λ (l : List Own). take own owns ++ l)
          (sym (take-append-drop (next - own) (drop own owns))
          ∙ ap (λ (l : List Own). middle ++ l) (drop-drop (next - own) own owns ∙ ap (λ (n : ℕ). drop n owns) whole))

      none_before : filter test (take own owns) ≡ []
      none_before =
          filter-none test (take own owns) (λ i d less.
          let before : i < own = omega (arith, less, length-take own owns) in
          ap test (get_or-take own owns i d before) ∙ ne_eqb (get_or owns i d).state sid (λ same. omega (arith, same, passed.before i d before)))

      all_middle : filter test middle ≡ middle
      all_middle =
          filter-whole test middle (λ i d less.
          let short : i < next - own = omega (arith, less, length-take (next - own) (drop own owns)) in
          ap test (get_or-take (next - own) (drop own owns) i d short ∙ get_or-drop own owns i d)
          ∙ eq-eqb (get_or owns (own + i) d).state sid (at.all (own + i) d (omega arith) (omega (arith, short))))

      none_behind : filter test (drop next owns) ≡ []
      none_behind =
          filter-none test (drop next owns) (λ i d less.
          let within : next + i < length owns = omega (arith, less, length-drop next owns) in
          ap test (get_or-drop next owns i d) ∙ ne_eqb (get_or owns (next + i) d).state sid (λ same. omega (arith, same, later (next + i) d (omega arith) within)))

      whole : filter test owns ≡ middle
      whole =
          ap (filter test) parts
          ∙ filter-append test (take own owns) (middle ++ drop next owns)
          ∙ ap (λ (l : List Own). l ++ filter test (middle ++ drop next owns)) none_before
          ∙ filter-append test middle (drop next owns)
          ∙ ap (λ (l : List Own). l ++ filter test (drop next owns)) all_middle
          ∙ ap (λ (l : List Own). middle ++ l) none_behind
          ∙ append-nil middle
