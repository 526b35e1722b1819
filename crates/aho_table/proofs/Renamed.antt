-- Numbers that are exchanged for others in a list, and in the lists of a vector of transitions.
use Rattle.std.proofs.Common.{◌≡◌, ℕ, suc, ◌<◌, ◌≤◌, List, [], ◌∷◌, length, get_or, refl, sym, ap, subst, ◌∙◌, inl, inr, arith}
use Rattle.std.specs.List.{AllZip}
use Rattle.std.proofs.lemmas.Bool.{cases_eq, cases_lt}
use Rattle.std.proofs.lemmas.List.{get_or_past}
use Rattle.std.proofs.lemmas.List.Elements.{AllZip-get_or}
use Rattle.std.proofs.lemmas.Slice.Zip.{AllZip-long}
use Rattle.aho_table.specs.Rings.{Entries, list_ending, lists_of, IsRun, here, on, AreRings, AreSideBySide}
use Rattle.aho_table.specs.Lists.{list_at}
use Rattle.aho_table.specs.ListsInside.{transition_of, transition_entries, with_first, IsEntryLed, IsStore}
use Rattle.aho_table.specs.Renaming.{IsTransitionLed, IsWritten}
use Rattle.aho_table.specs.declared.lists.transitions.Transition.{Transition}
use Rattle.aho_table.proofs.Runs.{list_ending-none, list_ending-ring}
use Rattle.aho_table.proofs.Stores.{length-lists_of, list_at-lists_of, list_at-zero}

-- ---- a list is written anew, one item after another

module _ {X : Type 0} (R : X → X → Type 0) (default : X) where
  AllZip-each : (old new : List X) → length new ≡ length old → ((k : ℕ) → k < length old → R (get_or old k default) (get_or new k default)) → AllZip R old new
  AllZip-each [] [] sized each = tt
  AllZip-each [] (y ∷ new) sized each = absurd (omega arith)
  AllZip-each (x ∷ old) [] sized each = absurd (omega arith)
  AllZip-each (x ∷ old) (y ∷ new) sized each = (each 0 (omega arith), AllZip-each old new (omega arith) (λ k less. each (suc k) (omega arith)))

  pub AllZip-written : (count : ℕ) (old new : List X) → IsWritten R default count old new → length old ≤ count → AllZip R old new
  AllZip-written count old new all past = AllZip-each old new all.sized (λ k less. all.written k (omega arith) less)

-- ---- the lists of a vector

module _ (leads : ℕ → ℕ → Type 0) where
  -- what a run passes is led
  run-led : {old new : Entries (ℕ × ℕ)} {count last at : ℕ} {xs : List (ℕ × ℕ)} → ((i : ℕ) → i < count → IsTransitionLed leads (old.item i) (new.item i)) → ((i : ℕ) → i < count → new.link i ≡ old.link i)
      → ((i : ℕ) → i < count → new.key i ≡ old.key i) → ((i : ℕ) → i < count → old.link i < count) → at < count → last < count → IsRun old last at xs
      → (ys : List (ℕ × ℕ)) × IsRun new last at ys × AllZip (IsTransitionLed leads) xs ys
  run-led {new = new} {last = last} items links keys within below ends (here is eq) =
      (new.item last ∷ [], here is refl, subst (λ (l : List (ℕ × ℕ)). AllZip (IsTransitionLed leads) l (new.item last ∷ [])) (sym eq) (items last ends, tt))
  run-led {old = old} {new = new} {last = last} {at = at} items links keys within below ends (on {ys = zs} ne less run eq) =
      let rest = run-led items links keys within (within at below) ends run in (
        new.item at ∷ rest.0,
        on ne (omega (arith, keys at below, ap new.key (links at below), keys (old.link at) (within at below))) (subst (λ (n : ℕ). IsRun new last n rest.0) (sym (links at below)) rest.1) refl,
        subst (λ (l : List (ℕ × ℕ)). AllZip (IsTransitionLed leads) l (new.item at ∷ rest.0)) (sym eq) (items at below, rest.2),
      )

  module _ (old new : List Transition) (all : AllZip (IsEntryLed leads) old new) where
    pub count-led : length new ≡ length old
    count-led = AllZip-long (IsEntryLed leads) old new all

    entry-led : (i : ℕ) → i < length old → IsEntryLed leads (transition_of old i) (transition_of new i)
    entry-led i below = AllZip-get_or (IsEntryLed leads) old new i (record { byte = 0; next = 0; link = 0 }) (record { byte = 0; next = 0; link = 0 }) all below

    run-ring : AreRings (transition_entries old) (length old) → (last : ℕ) → last < length old → {xs : List (ℕ × ℕ)} → IsRun (transition_entries old) last (transition_of old last).link xs
        → (ys : List (ℕ × ℕ)) × IsRun (transition_entries new) last (transition_of new last).link ys × AllZip (IsTransitionLed leads) xs ys
    run-ring rings last below run =
        let led = run-led {old = transition_entries old} {new = transition_entries new} (λ i less. ((entry-led i less).byte, (entry-led i less).next)) (λ i less. (entry-led i less).link)
        (λ i less. (entry-led i less).byte) rings.within (rings.within last below) below run in
        (led.0, subst (λ (n : ℕ). IsRun (transition_entries new) last n led.0) (sym (entry-led last below).link) led.1, led.2)

    pub IsStore-led : (limit : ℕ) → IsStore (transition_entries old) (length old) limit → IsStore (transition_entries new) (length new) limit
    IsStore-led limit store = record {
      small = store.small;
      count_within = omega (arith, count-led, store.count_within);
      rings = subst (λ (n : ℕ). AreRings (transition_entries new) n) (sym count-led) (record {
        some = store.rings.some;
        within = λ i below. omega (arith, store.rings.within i below, (entry-led i below).link);
        joined = λ last some below ends.
            let link = (entry-led last below).link in
            let inside = store.rings.within last below in
            let joined = store.rings.joined last some below (omega (arith, ends, ap (transition_entries new).key link, (entry-led last below).byte, (entry-led (transition_of old last).link inside).byte)) in
            let led = run-ring store.rings last below joined.1 in
            (led.0, led.1);
      });
    }

    pub AreSideBySide-led : (beside : ℕ) → AreRings (transition_entries old) (length old) → AreSideBySide (transition_entries old) (length old) beside → AreSideBySide (transition_entries new) (length new) beside
    AreSideBySide-led beside rings side = record {
      within = omega (arith, count-led, side.within);
      linked = λ i below less.
          let inside : i < length old = let within = side.within in omega arith in
          let link = (entry-led i inside).link in
          link ∙ side.linked i below (omega (arith, less, (entry-led i inside).byte, ap (transition_entries new).key link, (entry-led (transition_of old i).link (rings.within i inside)).byte));
    }

    -- each list is led
    pub lists-led : (limit : ℕ) → IsStore (transition_entries old) (length old) limit → (list : ℕ)
        → AllZip (IsTransitionLed leads) (list_at (lists_of (transition_entries old) (length old)) list) (list_at (lists_of (transition_entries new) (length new)) list)
    lists-led limit store list =
        elim (cases_lt list (length old)) [
          | inr past ↦ none (get_or_past old_lists list [] (omega (arith, length-lists_of (transition_entries old) (length old))))
              (get_or_past new_lists list [] (omega (arith, count-led, length-lists_of (transition_entries new) (length new))))
          | inl below ↦ elim (cases_eq list 0) [
            | inl zero_list ↦ none (ap (list_at old_lists) zero_list ∙ list_at-zero (transition_entries old) (length old) store.rings.some)
                (ap (list_at new_lists) zero_list ∙ list_at-zero (transition_entries new) (length new) (omega (arith, count-led, store.rings.some)))
            | inr ne ↦ elim (cases_lt (transition_of old list).byte (transition_of old (transition_of old list).link).byte) [
              | inl less ↦ none (of_old below ∙ list_ending-none (transition_entries old) list less) (of_new below ∙ list_ending-none (transition_entries new) list (omega (arith, less, last-key below, first-key below)))
              | inr ends ↦
                  let joined = store.rings.joined list (omega (arith, ne)) below ends in
                  let led = (the-run below joined.1) in
                  subst (λ (l : List (ℕ × ℕ)). AllZip (IsTransitionLed leads) l (list_at new_lists list)) (sym (of_old below ∙ list_ending-ring (omega (arith, ne)) ends joined.1))
                  (subst (λ (l : List (ℕ × ℕ)). AllZip (IsTransitionLed leads) joined.0 l) (sym (of_new below ∙ list_ending-ring (omega (arith, ne)) (omega (arith, ends, last-key below, first-key below)) led.1)) led.2)
            ]
          ]
        ]
      where
        old_lists : List (List (ℕ × ℕ))
        old_lists = lists_of (transition_entries old) (length old)

        new_lists : List (List (ℕ × ℕ))
        new_lists = lists_of (transition_entries new) (length new)

        none : list_at old_lists list ≡ [] → list_at new_lists list ≡ [] → AllZip (IsTransitionLed leads) (list_at old_lists list) (list_at new_lists list)
        none empty also =
            subst (λ (l : List (ℕ × ℕ)). AllZip (IsTransitionLed leads) l (list_at new_lists list)) (sym empty)
            (subst (λ (l : List (ℕ × ℕ)). AllZip (IsTransitionLed leads) [] l) (sym also) tt)

        of_old : list < length old → list_at old_lists list ≡ list_ending (transition_entries old) list
        of_old below = list_at-lists_of (transition_entries old) (length old) list below

        of_new : list < length old → list_at new_lists list ≡ list_ending (transition_entries new) list
        of_new below = list_at-lists_of (transition_entries new) (length new) list (omega (arith, count-led))

        last-key : list < length old → (transition_of new list).byte ≡ (transition_of old list).byte
        last-key below = (entry-led list below).byte

        first-key : list < length old → (transition_of new (transition_of new list).link).byte ≡ (transition_of old (transition_of old list).link).byte
        first-key below = ap (transition_entries new).key (entry-led list below).link ∙ (entry-led (transition_of old list).link (store.rings.within list below)).byte

        the-run : list < length old → {xs : List (ℕ × ℕ)} → IsRun (transition_entries old) list (transition_of old list).link xs
            → (ys : List (ℕ × ℕ)) × IsRun (transition_entries new) list (transition_of new list).link ys × AllZip (IsTransitionLed leads) xs ys
        the-run below run = run-ring store.rings list below run

-- the entries with the one at index 0 are led where the others are
pub with_first-led : (leads : ℕ → ℕ → Type 0) (old new : List Transition) → AllZip (IsEntryLed leads) old new → AllZip (IsEntryLed leads) (with_first old) (with_first new)
with_first-led leads [] [] all = (record { byte = refl; link = refl; next = record { none = λ e. refl; some = λ ne. absurd (ne refl) } }, tt)
with_first-led leads [] (y ∷ ys) all = absurd all
with_first-led leads (x ∷ xs) [] all = absurd all
with_first-led leads (x ∷ xs) (y ∷ ys) all = all
