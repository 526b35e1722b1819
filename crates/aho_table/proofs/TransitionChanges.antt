-- A store of transitions where one of its lists is changed: each lemma of what the code makes of the vector.
use Rattle.std.proofs.Common.{◌≡◌, ℕ, ◌+◌, ◌<◌, ◌≤◌, false, List, [], ◌∷◌, ◌++◌, length, set, sym, ap, subst, ◌∙◌, inl, inr, arith}
use Rattle.std.proofs.lemmas.List.{length-set, length_push}
use Rattle.aho_table.specs.Rings.{lists_of, IsRun, AreRings}
use Rattle.aho_table.specs.Lists.{list_at, IsList}
use Rattle.aho_table.specs.TransitionList.{number_after, set_transition_in, lists_transition, transition_at, IsRising}
use Rattle.aho_table.specs.ListsInside.{transition_of, transition_entries, redirected, linked_behind, IsStore, IsOn, IsGapBehind}
use Rattle.aho_table.specs.declared.lists.transitions.Transition.{Transition}
use Rattle.aho_table.proofs.Stores.{is_last, ring_at, list_at-cases}
use Rattle.aho_table.proofs.TransitionRuns.{run-rising, transition_at-on, transition_at-none, apart-gap}
use Rattle.aho_table.proofs.TransitionStores.{keyed, AreRings-started, lists_of-started, AreRings-redirected, lists_of-redirected, number-redirected}
use Rattle.aho_table.proofs.TransitionGaps.{lists_in, AreRings-behind, lists_of-behind, number-beyond, number-inside, unlisted}

-- ---- a list of one entry

module _ (entries new : List Transition) (limit byte next : ℕ) (store : IsStore (transition_entries entries) (length entries) limit)
    (pushed : new ≡ entries ++ record { byte = byte; next = next; link = length entries } ∷ []) where
  pub IsStore-started : length entries ≤ limit → IsStore (transition_entries new) (length new) limit
  IsStore-started within =
      let count = length_push entries (record { byte = byte; next = next; link = length entries }) in
      subst (λ (es : List Transition). IsStore (transition_entries es) (length es) limit) (sym pushed)
      (record {
        small = store.small;
        count_within = omega arith;
        rings = subst (λ (n : ℕ). AreRings (transition_entries (entries ++ record { byte = byte; next = next; link = length entries } ∷ [])) n) (sym count) (AreRings-started entries byte next store.rings);
      })

  pub lists_in-started : lists_in new ≡ lists_in entries ++ ((byte, next) ∷ []) ∷ []
  lists_in-started =
      ap lists_in pushed
      ∙ ap (lists_of (transition_entries (entries ++ record { byte = byte; next = next; link = length entries } ∷ []))) (length_push entries (record { byte = byte; next = next; link = length entries }))
      ∙ lists_of-started entries byte next store.rings

-- ---- a list that there is

module _ (entries : List Transition) (limit list byte : ℕ) (store : IsStore (transition_entries entries) (length entries) limit) (known : IsList (lists_in entries) list) (some : 0 < list) where
  pub list_in : list < length entries
  list_in = (is_last (transition_entries entries) (length entries) list known some).0

  pub list_ends : (transition_of entries (transition_of entries list).link).byte ≤ (transition_of entries list).byte
  list_ends = (is_last (transition_entries entries) (length entries) list known some).1

  pub list_run : IsRun (transition_entries entries) list (transition_of entries list).link (list_at (lists_in entries) list)
  list_run = ring_at (transition_entries entries) (length entries) list store.rings known some

  pub follow-on : (place : ℕ) → IsOn (transition_entries entries) list byte place → (transition_of entries place).next ≡ transition_at (list_at (lists_in entries) list) byte
  follow-on place found = sym (transition_at-on (keyed entries) list_run found)

  pub follow-gap : (place : ℕ) → IsGapBehind (transition_entries entries) list byte place → 1 ≡ transition_at (list_at (lists_in entries) list) byte
  follow-gap place gap = sym (transition_at-none (list_at (lists_in entries) list) byte (apart-gap (keyed entries) list_run gap))

  module _ (next place : ℕ) (inside : place < length entries) (new : List Transition) where
    pub IsStore-redirected : IsOn (transition_entries entries) list byte place → new ≡ redirected entries place next → IsStore (transition_entries new) (length new) limit
    IsStore-redirected found is =
        let count = length-set entries place (record (transition_of entries place) { next = next }) in
        subst (λ (es : List Transition). IsStore (transition_entries es) (length es) limit) (sym is)
        (record {
          small = store.small;
          count_within = omega (arith, store.count_within);
          rings = subst (λ (n : ℕ). AreRings (transition_entries (redirected entries place next)) n) (sym count)
              (AreRings-redirected entries list byte next place store.rings some list_in list_ends inside found list_run);
        })

    pub lists_in-redirected : IsOn (transition_entries entries) list byte place → new ≡ redirected entries place next → lists_in new ≡ set_transition_in (lists_in entries) list byte next
    lists_in-redirected found is =
        ap lists_in is
        ∙ ap (lists_of (transition_entries (redirected entries place next))) (length-set entries place (record (transition_of entries place) { next = next }))
        ∙ lists_of-redirected entries list byte next place store.rings some list_in list_ends inside found list_run

    pub number-on : IsOn (transition_entries entries) list byte place → number_after (lists_in entries) list byte ≡ list
    number-on found = number-redirected entries list byte next place store.rings some list_in list_ends inside found list_run

    behind-count : length (linked_behind entries place byte next) ≡ length entries + 1
    behind-count =
        length_push (set entries place (record (transition_of entries place) { link = length entries })) (record { byte = byte; next = next; link = (transition_of entries place).link })
        ∙ ap (λ (n : ℕ). n + 1) (length-set entries place (record (transition_of entries place) { link = length entries }))

    pub IsStore-behind : IsGapBehind (transition_entries entries) list byte place → length entries ≤ limit → new ≡ linked_behind entries place byte next
        → IsStore (transition_entries new) (length new) limit
    IsStore-behind gap within is =
        subst (λ (es : List Transition). IsStore (transition_entries es) (length es) limit) (sym is)
        (record {
          small = store.small;
          count_within = omega (arith, behind-count);
          rings = subst (λ (n : ℕ). AreRings (transition_entries (linked_behind entries place byte next)) n) (sym behind-count)
              (AreRings-behind entries list byte next store.rings some list_in list_ends list_run place inside gap);
        })

    pub lists_in-behind : IsGapBehind (transition_entries entries) list byte place → new ≡ linked_behind entries place byte next → lists_in new ≡ set_transition_in (lists_in entries) list byte next
    lists_in-behind gap is =
        ap lists_in is ∙ ap (lists_of (transition_entries (linked_behind entries place byte next))) behind-count
        ∙ lists_of-behind entries list byte next store.rings some list_in list_ends list_run place inside gap

    pub number-above : (transition_of entries list).byte < byte → number_after (lists_in entries) list byte ≡ length entries
    number-above above = number-beyond entries list byte next store.rings some list_in list_ends list_run above

    pub number-below : byte ≤ (transition_of entries list).byte → number_after (lists_in entries) list byte ≡ list
    number-below le = number-inside entries list byte next store.rings some list_in list_ends list_run le

    pub unlisted-gap : IsGapBehind (transition_entries entries) list byte place → lists_transition (list_at (lists_in entries) list) byte ≡ false
    unlisted-gap gap = unlisted entries list byte next store.rings some list_in list_ends list_run place gap

-- every list rises
pub list_at-rising : (entries : List Transition) → AreRings (transition_entries entries) (length entries) → (list : ℕ) → IsRising (list_at (lists_in entries) list)
list_at-rising entries rings list =
    elim (list_at-cases (transition_entries entries) (length entries) rings list) as (λ _. IsRising (list_at (lists_in entries) list)) [
      | inl none ↦ subst (λ (l : List (ℕ × ℕ)). IsRising l) (sym none) tt
      | inr run ↦ run-rising (keyed entries) run
    ]
