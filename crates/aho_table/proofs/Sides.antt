-- How far the entries lie side by side, after each change of a store.
use Rattle.std.proofs.Common.{◌≡◌, ℕ, ◌+◌, ◌<◌, ◌≤◌, ◌⊎◌, Bool, true, List, [], ◌∷◌, ◌++◌, length, set, sym, ap, subst, ◌∙◌, inl, inr, arith}
use Rattle.std.proofs.lemmas.List.{length-set, length_push}
use Rattle.aho_table.specs.Rings.{Entries, AreRings, AreSideBySide, IsBesideBehind}
use Rattle.aho_table.specs.ListsInside.{transition_of, transition_entries, redirected, linked_behind}
use Rattle.aho_table.specs.declared.lists.transitions.Transition.{Transition}
use Rattle.aho_table.proofs.SideBySide.{AreSideBySide-kept, AreSideBySide-longer, AreSideBySide-behind}
use Rattle.aho_table.proofs.TransitionStores.{transition_of-pushed, transition_of-push, redirected-link, redirected-byte, behind-key, behind-link, to_new, from_new, new_byte}

-- an entry that is the last of its list stands at the end: where no link that there was changed
alone : {X : Type 0} (old new : Entries X) (count beside now : ℕ) → AreRings old count → AreSideBySide old count beside → ((i : ℕ) → i < count → new.key i ≡ old.key i)
    → ((i : ℕ) → i < count → new.link i ≡ old.link i) → new.link count ≡ count → (now ≡ beside) ⊎ ((beside ≡ count) × (now ≡ count + 1)) → AreSideBySide new (count + 1) now
alone old new count beside now rings side keys links itself is =
    elim is [
      | inl same ↦ subst (λ (n : ℕ). AreSideBySide new (count + 1) n) (sym same)
          (AreSideBySide-kept old new count count beside rings side keys (λ i below ne. links i below) (count + 1) (omega arith) (λ below. absurd (omega arith)))
      | inr longer ↦ subst (λ (n : ℕ). AreSideBySide new (count + 1) n) (sym longer.1)
          (AreSideBySide-longer old new count count beside rings side keys (λ i below ne. links i below) longer.0 (λ below. absurd (omega arith)) (omega (arith, ap new.key itself)))
    ]

-- ---- transitions

module _ (entries new : List Transition) (beside : ℕ) (rings : AreRings (transition_entries entries) (length entries)) (side : AreSideBySide (transition_entries entries) (length entries) beside) where
  pub side-redirected : (next place : ℕ) → place < length entries → new ≡ redirected entries place next → AreSideBySide (transition_entries new) (length new) beside
  side-redirected next place inside is =
      subst (λ (es : List Transition). AreSideBySide (transition_entries es) (length es) beside) (sym is)
      (AreSideBySide-kept (transition_entries entries) (transition_entries (redirected entries place next)) (length entries) place beside rings side
      (λ i below. redirected-byte entries next place inside i) (λ i below ne. redirected-link entries next place inside i) (length (redirected entries place next))
      (omega (arith, length-set entries place (record (transition_of entries place) { next = next }))) (λ below. redirected-link entries next place inside place))

  pub side-started : (byte next now : ℕ) → new ≡ entries ++ record { byte = byte; next = next; link = length entries } ∷ []
      → (now ≡ beside) ⊎ ((beside ≡ length entries) × (now ≡ length entries + 1)) → AreSideBySide (transition_entries new) (length new) now
  side-started byte next now is longer =
      let more : Transition = record { byte = byte; next = next; link = length entries } in
      subst (λ (es : List Transition). AreSideBySide (transition_entries es) (length es) now) (sym is)
      (subst (λ (n : ℕ). AreSideBySide (transition_entries (entries ++ more ∷ [])) n now) (sym (length_push entries more))
      (alone (transition_entries entries) (transition_entries (entries ++ more ∷ [])) (length entries) beside now rings side
      (λ i below. ap (λ (t : Transition). t.byte) (transition_of-pushed entries more i below)) (λ i below. ap (λ (t : Transition). t.link) (transition_of-pushed entries more i below))
      (ap (λ (t : Transition). t.link) (transition_of-push entries more)) longer))

  pub side-behind : (last byte next place now : ℕ) (above : Bool) → place < length entries → new ≡ linked_behind entries place byte next
      → (above ≡ true → place ≡ last → (transition_of entries (transition_of entries place).link).byte ≤ byte) → IsBesideBehind beside last place (length entries) above now
      → AreSideBySide (transition_entries new) (length new) now
  side-behind last byte next place now above inside is ends longer =
      let count : length (linked_behind entries place byte next) ≡ length entries + 1 =
      length_push (set entries place (record (transition_of entries place) { link = length entries })) (record { byte = byte; next = next; link = (transition_of entries place).link })
      ∙ ap (λ (n : ℕ). n + 1) (length-set entries place (record (transition_of entries place) { link = length entries })) in
      subst (λ (es : List Transition). AreSideBySide (transition_entries es) (length es) now) (sym is)
      (subst (λ (n : ℕ). AreSideBySide (transition_entries (linked_behind entries place byte next)) n now) (sym count)
      (AreSideBySide-behind (transition_entries entries) (transition_entries (linked_behind entries place byte next)) (length entries) place beside rings side
      (behind-key entries last byte next place inside) (behind-link entries last byte next place inside) last now above inside (to_new entries last byte next place inside)
      (λ yes here. omega (
        arith,
        ends yes here,
        ap (transition_entries (linked_behind entries place byte next)).key (from_new entries last byte next place inside),
        behind-key entries last byte next place inside (transition_of entries place).link (rings.within place inside),
        new_byte entries last byte next place inside,
      )) longer))
