-- The lists of a vector of transitions where one of them has one entry more.
use Rattle.std.proofs.Common.{◌≡◌, ℕ, ◌+◌, ◌-◌, ◌<◌, ◌≤◌, ◌≢◌, false, List, [], ◌∷◌, ◌++◌, length, set, replicate, refl, sym, ap, subst, ◌∙◌, arith}
use Rattle.aho_table.specs.Rings.{lists_of, IsRun, here, on, IsPassed, AreRings}
use Rattle.aho_table.specs.Lists.{list_at}
use Rattle.aho_table.specs.TransitionList.{with_transition, lists_transition, number_after, set_transition_in}
use Rattle.aho_table.specs.ListsInside.{transition_of, transition_entries, linked_behind, IsGapBehind, first, beyond, between}
use Rattle.aho_table.specs.declared.lists.transitions.Transition.{Transition}
use Rattle.aho_table.proofs.Runs.{key-le, run-next, run-from, run-kept, run-longer}
use Rattle.aho_table.proofs.Stores.{length-lists_of}
use Rattle.aho_table.proofs.ListChanges.{IsChange, IsGrowth, lists_of-grown, AreRings-grown, lists_of-inserted, AreRings-inserted}
use Rattle.aho_table.proofs.TransitionRuns.{run-between, apart-gap, lists_transition-none, is_above-behind, is_above-within, with_transition-before, with_transition-behind}
use Rattle.aho_table.proofs.TransitionStores.{keyed, behind-item, behind-key, behind-link, to_new, from_new, new_byte, new_item, set_transition_in-within, set_transition_in-behind, number_after-within, number_after-behind}

-- the lists before the change
abbrev pub lists_in : List Transition → List (List (ℕ × ℕ))
lists_in entries = lists_of (transition_entries entries) (length entries)

module _ (entries : List Transition) (last byte next : ℕ) (rings : AreRings (transition_entries entries) (length entries)) (some : 0 < last) (below : last < length entries)
    (ends : (transition_of entries (transition_of entries last).link).byte ≤ (transition_of entries last).byte)
    (run : IsRun (transition_entries entries) last (transition_of entries last).link (list_at (lists_in entries) last)) where
  -- ---- behind the last entry

  last-change : IsChange (transition_entries entries) (transition_entries (linked_behind entries last byte next)) (length entries) last last
  last-change = record {
    items = λ i less ne. behind-item entries last byte next last below i less;
    keys = λ i less. behind-key entries last byte next last below i less;
    links = λ i less ne. behind-link entries last byte next last below i less ne;
    ends = λ less. ends;
    of_list = λ less. ((transition_entries entries).item last ∷ [], here refl refl);
    rises = λ less ne. absurd (ne refl);
  }

  new_first : byte < (transition_entries entries).key (transition_of entries last).link
      → (transition_entries (linked_behind entries last byte next)).key (length entries)
      < (transition_entries (linked_behind entries last byte next)).key ((transition_entries (linked_behind entries last byte next)).link (length entries))
  new_first less =
      omega (
        arith,
        new_byte entries last byte next last below,
        ap (transition_entries (linked_behind entries last byte next)).key (from_new entries last byte next last below),
        behind-key entries last byte next last below (transition_of entries last).link (rings.within last below),
      )

  first-run : byte < (transition_entries entries).key (transition_of entries last).link
      → IsRun (transition_entries (linked_behind entries last byte next)) last ((transition_entries (linked_behind entries last byte next)).link last)
      (with_transition (list_at (lists_in entries) last) byte next)
  first-run less =
      subst (λ (n : ℕ). IsRun (transition_entries (linked_behind entries last byte next)) last n (with_transition (list_at (lists_in entries) last) byte next)) (sym (to_new entries last byte next last below))
      (on (λ e. omega arith) (new_first less)
      (subst (λ (n : ℕ). IsRun (transition_entries (linked_behind entries last byte next)) last n (list_at (lists_in entries) last)) (sym (from_new entries last byte next last below))
      (run-kept (λ (i : ℕ). i < length entries)
      (λ i at_in. (behind-item entries last byte next last below i at_in, behind-key entries last byte next last below i at_in, λ ne. behind-link entries last byte next last below i at_in ne))
      (λ i at_in ne rises. rings.within i at_in) (rings.within last below) run))
      (with_transition-before (keyed entries) run byte next less ∙ ap (λ (x : ℕ × ℕ). x ∷ list_at (lists_in entries) last) (sym (new_item entries last byte next last below))))

  AreRings-first : byte < (transition_entries entries).key (transition_of entries last).link → AreRings (transition_entries (linked_behind entries last byte next)) (length entries + 1)
  AreRings-first less =
      AreRings-inserted last-change rings below (to_new entries last byte next last below) (new_first less)
      (rw (from_new entries last byte next last below) (rings.within last below)) (first-run less)

  lists_of-first : byte < (transition_entries entries).key (transition_of entries last).link → byte < (transition_entries entries).key last
      → lists_of (transition_entries (linked_behind entries last byte next)) (length entries + 1) ≡ set (lists_in entries) last (with_transition (list_at (lists_in entries) last) byte next) ++ [] ∷ []
  lists_of-first less under =
      lists_of-inserted last-change rings some below (new_first less)
      (omega (arith, ap (transition_entries (linked_behind entries last byte next)).key (to_new entries last byte next last below), new_byte entries last byte next last below, behind-key entries last byte next last below last below))
      (first-run less)

  beyond-run : (transition_entries entries).key last < byte
      → IsRun (transition_entries (linked_behind entries last byte next)) (length entries) ((transition_entries (linked_behind entries last byte next)).link (length entries))
      (with_transition (list_at (lists_in entries) last) byte next)
  beyond-run above =
      subst (λ (n : ℕ). IsRun (transition_entries (linked_behind entries last byte next)) (length entries) n (with_transition (list_at (lists_in entries) last) byte next))
      (sym (from_new entries last byte next last below))
      (subst (λ (xs : List (ℕ × ℕ)). IsRun (transition_entries (linked_behind entries last byte next)) (length entries) (transition_of entries last).link xs)
      (sym (with_transition-behind (keyed entries) run byte next above))
      (run-longer (λ (i : ℕ). i < length entries)
      (λ i at_in. ((λ e. omega arith), behind-item entries last byte next last below i at_in, behind-key entries last byte next last below i at_in, λ ne. behind-link entries last byte next last below i at_in ne))
      (λ i at_in ne rises. rings.within i at_in)
      (length entries) (to_new entries last byte next last below)
      (omega (arith, new_byte entries last byte next last below, behind-key entries last byte next last below last below))
      (here refl (ap (λ (x : ℕ × ℕ). x ∷ []) (sym (new_item entries last byte next last below))))
      (rings.within last below) run))

  beyond-growth : IsGrowth (transition_entries (linked_behind entries last byte next)) (length entries) (length entries) ((byte, next) ∷ [])
  beyond-growth = record {
    more = omega arith;
    run = here refl (ap (λ (x : ℕ × ℕ). x ∷ []) (sym (new_item entries last byte next last below)));
    rises = λ i over under. absurd (omega arith);
    inside = λ i over under. absurd (omega arith);
  }

  goes_on : (transition_entries entries).key last < byte
      → (transition_entries (linked_behind entries last byte next)).key last < (transition_entries (linked_behind entries last byte next)).key ((transition_entries (linked_behind entries last byte next)).link last)
  goes_on above =
      omega (arith, ap (transition_entries (linked_behind entries last byte next)).key (to_new entries last byte next last below), new_byte entries last byte next last below, behind-key entries last byte next last below last below)

  AreRings-beyond : (transition_entries entries).key last < byte → AreRings (transition_entries (linked_behind entries last byte next)) (length entries + 1)
  AreRings-beyond above =
      AreRings-grown last-change rings beyond-growth (λ positive. goes_on above) (beyond-run above)
      (λ less. omega (arith, to_new entries last byte next last below)) (omega (arith, from_new entries last byte next last below, rings.within last below))

  lists_of-beyond : (transition_entries entries).key last < byte
      → lists_of (transition_entries (linked_behind entries last byte next)) (length entries + 1) ≡ set (lists_in entries) last [] ++ with_transition (list_at (lists_in entries) last) byte next ∷ []
  lists_of-beyond above =
      let nothing : length entries - length entries ≡ 0 = omega arith in
      lists_of-grown last-change rings below beyond-growth (λ positive. goes_on above)
      (omega (
        arith,
        ap (transition_entries (linked_behind entries last byte next)).key (from_new entries last byte next last below),
        new_byte entries last byte next last below,
        behind-key entries last byte next last below (transition_of entries last).link (rings.within last below),
      ))
      (beyond-run above)
      ∙ ap (λ (n : ℕ). set (lists_in entries) last [] ++ (replicate {A = List (ℕ × ℕ)} n [] ++ with_transition (list_at (lists_in entries) last) byte next ∷ [])) nothing

  -- ---- between two entries

  module _ (place : ℕ) (inside : place < length entries) (other : place ≢ last) (passed : IsPassed (transition_entries entries) last place (transition_of entries last).link)
      (above : (transition_entries entries).key place < byte) (under : byte < (transition_entries entries).key (transition_of entries place).link) where
    inner-change : IsChange (transition_entries entries) (transition_entries (linked_behind entries place byte next)) (length entries) place last
    inner-change = record {
      items = λ i less ne. behind-item entries last byte next place inside i less;
      keys = λ i less. behind-key entries last byte next place inside i less;
      links = λ i less ne. behind-link entries last byte next place inside i less ne;
      ends = λ less. ends;
      of_list = λ less. run-from run passed;
      rises = λ less ne. omega (
        arith,
        ap (transition_entries (linked_behind entries place byte next)).key (to_new entries last byte next place inside),
        new_byte entries last byte next place inside,
        behind-key entries last byte next place inside place inside,
      );
    }

    inner-rises : (transition_entries (linked_behind entries place byte next)).key (length entries)
        < (transition_entries (linked_behind entries place byte next)).key ((transition_entries (linked_behind entries place byte next)).link (length entries))
    inner-rises =
        omega (
          arith,
          new_byte entries last byte next place inside,
          ap (transition_entries (linked_behind entries place byte next)).key (from_new entries last byte next place inside),
          behind-key entries last byte next place inside (transition_of entries place).link (rings.within place inside),
        )

    first_link : (transition_entries (linked_behind entries place byte next)).link last ≡ (transition_of entries last).link
    first_link = behind-link entries last byte next place inside last below (λ e. other (sym e))

    inner-run : IsRun (transition_entries (linked_behind entries place byte next)) last ((transition_entries (linked_behind entries place byte next)).link last)
        (with_transition (list_at (lists_in entries) last) byte next)
    inner-run =
        subst (λ (n : ℕ). IsRun (transition_entries (linked_behind entries place byte next)) last n (with_transition (list_at (lists_in entries) last) byte next)) (sym first_link)
        (run-between byte next (keyed entries) rings.within
        (λ i at_in. ((λ ne. behind-link entries last byte next place inside i at_in ne), behind-key entries last byte next place inside i at_in, behind-item entries last byte next place inside i at_in))
        below other above under (to_new entries last byte next place inside) (from_new entries last byte next place inside) (new_byte entries last byte next place inside)
        (new_item entries last byte next place inside) (rings.within last below) run passed)

    AreRings-inner : AreRings (transition_entries (linked_behind entries place byte next)) (length entries + 1)
    AreRings-inner =
        AreRings-inserted inner-change rings inside (to_new entries last byte next place inside) inner-rises
        (rw (from_new entries last byte next place inside) (rings.within place inside)) inner-run

    lists_of-inner : lists_of (transition_entries (linked_behind entries place byte next)) (length entries + 1) ≡ set (lists_in entries) last (with_transition (list_at (lists_in entries) last) byte next) ++ [] ∷ []
    lists_of-inner =
        lists_of-inserted inner-change rings some below inner-rises
        (omega (
          arith,
          ap (transition_entries (linked_behind entries place byte next)).key first_link,
          behind-key entries last byte next place inside last below,
          behind-key entries last byte next place inside (transition_of entries last).link (rings.within last below),
        ))
        inner-run

    -- the byte is below the last
    inner-under : byte < (transition_entries entries).key last
    inner-under = omega (arith, key-le (run-next (run-from run passed).1 other).2)

  -- ---- behind the place that was found

  pub unlisted : (place : ℕ) → IsGapBehind (transition_entries entries) last byte place → lists_transition (list_at (lists_in entries) last) byte ≡ false
  unlisted place gap = lists_transition-none (list_at (lists_in entries) last) byte (apart-gap (keyed entries) run gap)

  is_in : last < length (lists_in entries)
  is_in = omega (arith, length-lists_of (transition_entries entries) (length entries))

  pub number-beyond : (transition_of entries last).byte < byte → number_after (lists_in entries) last byte ≡ length entries
  number-beyond above =
      number_after-behind (lists_in entries) last byte (is_above-behind (keyed entries) run byte above) ∙ length-lists_of (transition_entries entries) (length entries)

  pub number-inside : byte ≤ (transition_of entries last).byte → number_after (lists_in entries) last byte ≡ last
  number-inside le = number_after-within (lists_in entries) last byte (is_above-within (keyed entries) run byte le)

  pub AreRings-behind : (place : ℕ) → place < length entries → IsGapBehind (transition_entries entries) last byte place
      → AreRings (transition_entries (linked_behind entries place byte next)) (length entries + 1)
  AreRings-behind place inside (first is less under) = subst (λ (n : ℕ). AreRings (transition_entries (linked_behind entries n byte next)) (length entries + 1)) (sym is) (AreRings-first less)
  AreRings-behind place inside (beyond is above) = subst (λ (n : ℕ). AreRings (transition_entries (linked_behind entries n byte next)) (length entries + 1)) (sym is) (AreRings-beyond above)
  AreRings-behind place inside (between other passed above under) = AreRings-inner place inside other passed above under

  pub lists_of-behind : (place : ℕ) → place < length entries → IsGapBehind (transition_entries entries) last byte place
      → lists_of (transition_entries (linked_behind entries place byte next)) (length entries + 1) ≡ set_transition_in (lists_in entries) last byte next
  lists_of-behind place inside (first is less under) =
      subst (λ (n : ℕ). lists_of (transition_entries (linked_behind entries n byte next)) (length entries + 1) ≡ set_transition_in (lists_in entries) last byte next) (sym is)
      (lists_of-first less under
      ∙ sym (set_transition_in-within (lists_in entries) last byte next (unlisted place (first is less under)) (is_above-within (keyed entries) run byte (omega arith)) is_in))
  lists_of-behind place inside (beyond is above) =
      subst (λ (n : ℕ). lists_of (transition_entries (linked_behind entries n byte next)) (length entries + 1) ≡ set_transition_in (lists_in entries) last byte next) (sym is)
      (lists_of-beyond above
      ∙ sym (set_transition_in-behind (lists_in entries) last byte next (unlisted place (beyond is above)) (is_above-behind (keyed entries) run byte above) is_in))
  lists_of-behind place inside (between other passed above under) =
      let below_last = inner-under place inside other passed above under in
      lists_of-inner place inside other passed above under
      ∙ sym (set_transition_in-within (lists_in entries) last byte next (unlisted place (between other passed above under)) (is_above-within (keyed entries) run byte (omega arith)) is_in)
