-- The lists of a vector of transitions where one of them is changed.
use Rattle.std.proofs.Common.{◌≡◌, ℕ, ◌+◌, ◌-◌, ◌<◌, ◌≤◌, ◌≢◌, true, false, List, [], ◌∷◌, ◌++◌, length, set, replicate, refl, sym, ap, subst, ◌∙◌, inl, inr, arith}
use Rattle.std.proofs.lemmas.List.{length-set, get_or-set_same, get_or-set_other, get_or_append_left, get_or_push, set-set, set_at, set-append_left, set-get_or}
use Rattle.std.proofs.lemmas.Bool.{cases_eq}
use Rattle.aho_table.specs.Rings.{Entries, lists_of, IsRun, here, AreRings}
use Rattle.aho_table.specs.Lists.{list_at}
use Rattle.aho_table.specs.TransitionList.{with_transition, lists_transition, is_above, number_after, set_transition_in}
use Rattle.aho_table.specs.ListsInside.{transition_of, transition_entries, redirected, relinked, linked_behind, IsOn}
use Rattle.aho_table.specs.declared.lists.transitions.Transition.{Transition}
use Rattle.aho_table.proofs.Runs.{key-le, run-next, run-from, list_ending-zero, list_ending-ring}
use Rattle.aho_table.proofs.Stores.{list_at-lists_of}
use Rattle.aho_table.proofs.ListChanges.{IsChange, IsGrowth, lists_of-set, other_lists, AreRings-changed, lists_of-grown, AreRings-grown}
use Rattle.aho_table.proofs.TransitionRuns.{run-replaced, lists_transition-on, is_above-within}

-- ---- entries

pub transition_of-pushed : (entries : List Transition) (more : Transition) (place : ℕ) → place < length entries → transition_of (entries ++ more ∷ []) place ≡ transition_of entries place
transition_of-pushed entries more place below = get_or_append_left entries (more ∷ []) (record { byte = 0; next = 0; link = 0 }) place below

pub transition_of-push : (entries : List Transition) (more : Transition) → transition_of (entries ++ more ∷ []) (length entries) ≡ more
transition_of-push entries more = get_or_push entries more (record { byte = 0; next = 0; link = 0 }) (length entries) refl

pub transition_of-set_same : (entries : List Transition) (place : ℕ) (other : Transition) → place < length entries → transition_of (set entries place other) place ≡ other
transition_of-set_same entries place other below = get_or-set_same entries place other (record { byte = 0; next = 0; link = 0 }) below

pub transition_of-set_other : (entries : List Transition) (place i : ℕ) (other : Transition) → i ≢ place → transition_of (set entries place other) i ≡ transition_of entries i
transition_of-set_other entries place i other ne = get_or-set_other entries place i other (record { byte = 0; next = 0; link = 0 }) ne

pub keyed : (entries : List Transition) (i : ℕ) → ((transition_entries entries).item i).0 ≡ (transition_entries entries).key i
keyed entries i = refl

-- ---- the lists of a vector

-- no list has the number 0
pub set_zero : {X : Type 0} (entries : Entries X) (count : ℕ) → 0 < count → set (lists_of entries count) 0 [] ≡ lists_of entries count
set_zero {X = X} entries count some =
    ap (λ (l : List X). set (lists_of entries count) 0 l) (sym (list_at-lists_of entries count 0 some ∙ list_ending-zero entries)) ∙ set-get_or (lists_of entries count) 0 []

-- a list of one entry
started-change : (entries : List Transition) (more : Transition)
    → IsChange (transition_entries entries) (transition_entries (entries ++ more ∷ [])) (length entries) (length entries) 0
started-change entries more = record {
  items = λ i below ne. ap (λ (t : Transition). (t.byte, t.next)) (transition_of-pushed entries more i below);
  keys = λ i below. ap (λ (t : Transition). t.byte) (transition_of-pushed entries more i below);
  links = λ i below ne. ap (λ (t : Transition). t.link) (transition_of-pushed entries more i below);
  ends = λ less. absurd (omega arith);
  of_list = λ less. absurd (omega arith);
  rises = λ less ne. absurd (omega arith);
}

module _ (entries : List Transition) (byte next : ℕ) (rings : AreRings (transition_entries entries) (length entries)) where
  one : Transition
  one = record { byte = byte; next = next; link = length entries }

  new_link : (transition_entries (entries ++ record { byte = byte; next = next; link = length entries } ∷ [])).link (length entries) ≡ length entries
  new_link = ap (λ (t : Transition). t.link) (transition_of-push entries (record { byte = byte; next = next; link = length entries }))

  new_growth : IsGrowth (transition_entries (entries ++ record { byte = byte; next = next; link = length entries } ∷ [])) (length entries) (length entries) ((byte, next) ∷ [])
  new_growth = record {
    more = omega arith;
    run = here refl (ap (λ (t : Transition). (t.byte, t.next) ∷ []) (sym (transition_of-push entries (record { byte = byte; next = next; link = length entries }))));
    rises = λ i above below. absurd (omega arith);
    inside = λ i above below. absurd (omega arith);
  }

  new_run : IsRun (transition_entries (entries ++ record { byte = byte; next = next; link = length entries } ∷ [])) (length entries)
      ((transition_entries (entries ++ record { byte = byte; next = next; link = length entries } ∷ [])).link (length entries)) ((byte, next) ∷ [])
  new_run = subst (λ (n : ℕ). IsRun (transition_entries (entries ++ record { byte = byte; next = next; link = length entries } ∷ [])) (length entries) n ((byte, next) ∷ []))
      (sym new_link) new_growth.run

  pub AreRings-started : AreRings (transition_entries (entries ++ record { byte = byte; next = next; link = length entries } ∷ [])) (length entries + 1)
  AreRings-started = AreRings-grown (started-change entries (record { byte = byte; next = next; link = length entries })) rings new_growth (λ some. absurd (omega arith)) new_run
      (λ less. absurd (omega arith)) (omega (arith, new_link))

  pub lists_of-started : lists_of (transition_entries (entries ++ record { byte = byte; next = next; link = length entries } ∷ [])) (length entries + 1)
      ≡ lists_of (transition_entries entries) (length entries) ++ ((byte, next) ∷ []) ∷ []
  lists_of-started =
      let nothing : length entries - length entries ≡ 0 = omega arith in
      lists_of-grown (started-change entries (record { byte = byte; next = next; link = length entries })) rings rings.some new_growth (λ some. absurd (omega arith))
      (omega (arith, ap (transition_entries (entries ++ record { byte = byte; next = next; link = length entries } ∷ [])).key new_link)) new_run
      ∙ ap (λ (n : ℕ). set (lists_of (transition_entries entries) (length entries)) 0 [] ++ (replicate {A = List (ℕ × ℕ)} n [] ++ ((byte, next) ∷ []) ∷ [])) nothing
      ∙ ap (λ (ls : List (List (ℕ × ℕ))). ls ++ ((byte, next) ∷ []) ∷ []) (set_zero (transition_entries entries) (length entries) rings.some)

-- ---- a store after one byte of a list was led to a state

pub set_transition_in-listed : (lists : List (List (ℕ × ℕ))) (number byte next : ℕ) → lists_transition (list_at lists number) byte ≡ true → is_above (list_at lists number) byte ≡ false
    → set_transition_in lists number byte next ≡ set lists number (with_transition (list_at lists number) byte next)
set_transition_in-listed lists number byte next listed within = rw (listed, within) (set-set lists number [] (with_transition (list_at lists number) byte next))

pub set_transition_in-within : (lists : List (List (ℕ × ℕ))) (number byte next : ℕ) → lists_transition (list_at lists number) byte ≡ false → is_above (list_at lists number) byte ≡ false → number < length lists
    → set_transition_in lists number byte next ≡ set lists number (with_transition (list_at lists number) byte next) ++ [] ∷ []
set_transition_in-within lists number byte next unlisted within below =
    rw (unlisted, within)
    (set-set (lists ++ [] ∷ []) number [] (with_transition (list_at lists number) byte next) ∙ set-append_left lists ([] ∷ []) number (with_transition (list_at lists number) byte next) below)

pub set_transition_in-behind : (lists : List (List (ℕ × ℕ))) (number byte next : ℕ) → lists_transition (list_at lists number) byte ≡ false → is_above (list_at lists number) byte ≡ true → number < length lists
    → set_transition_in lists number byte next ≡ set lists number [] ++ with_transition (list_at lists number) byte next ∷ []
set_transition_in-behind lists number byte next unlisted above below =
    rw (unlisted, above)
    (ap (λ (ls : List (List (ℕ × ℕ))). set ls (length lists) (with_transition (list_at lists number) byte next)) (set-append_left lists ([] ∷ []) number [] below)
    ∙ set_at (set lists number []) [] [] (with_transition (list_at lists number) byte next) (length lists) (length-set lists number []))

pub number_after-within : (lists : List (List (ℕ × ℕ))) (number byte : ℕ) → is_above (list_at lists number) byte ≡ false → number_after lists number byte ≡ number
number_after-within lists number byte within = rw within refl

pub number_after-behind : (lists : List (List (ℕ × ℕ))) (number byte : ℕ) → is_above (list_at lists number) byte ≡ true → number_after lists number byte ≡ length lists
number_after-behind lists number byte above = rw above refl

-- ---- the byte's entry leads elsewhere

module _ (entries : List Transition) (next place : ℕ) (inside : place < length entries) where
  pub redirected-link : (i : ℕ) → (transition_of (redirected entries place next) i).link ≡ (transition_of entries i).link
  redirected-link i = elim (cases_eq i place) [
    | inl is ↦ subst (λ (n : ℕ). (transition_of (redirected entries place next) n).link ≡ (transition_of entries n).link) (sym is)
        (ap (λ (t : Transition). t.link) (transition_of-set_same entries place (record (transition_of entries place) { next = next }) inside))
    | inr ne ↦ ap (λ (t : Transition). t.link) (transition_of-set_other entries place i (record (transition_of entries place) { next = next }) ne)
  ]

  pub redirected-byte : (i : ℕ) → (transition_of (redirected entries place next) i).byte ≡ (transition_of entries i).byte
  redirected-byte i = elim (cases_eq i place) [
    | inl is ↦ subst (λ (n : ℕ). (transition_of (redirected entries place next) n).byte ≡ (transition_of entries n).byte) (sym is)
        (ap (λ (t : Transition). t.byte) (transition_of-set_same entries place (record (transition_of entries place) { next = next }) inside))
    | inr ne ↦ ap (λ (t : Transition). t.byte) (transition_of-set_other entries place i (record (transition_of entries place) { next = next }) ne)
  ]

module _ (entries : List Transition) (last byte next place : ℕ) (rings : AreRings (transition_entries entries) (length entries)) (some : 0 < last) (below : last < length entries)
    (ends : (transition_of entries (transition_of entries last).link).byte ≤ (transition_of entries last).byte) (inside : place < length entries)
    (found : IsOn (transition_entries entries) last byte place)
    (run : IsRun (transition_entries entries) last (transition_of entries last).link (list_at (lists_of (transition_entries entries) (length entries)) last)) where
  redirected-rises : place ≢ last → (transition_of (redirected entries place next) place).byte < (transition_of (redirected entries place next) (transition_of (redirected entries place next) place).link).byte
  redirected-rises ne =
      let from = run-from run found.passed in
      let less : (transition_of entries place).byte < (transition_of entries (transition_of entries place).link).byte = (run-next from.1 ne).1 in
      rw (redirected-link entries next place inside place, redirected-byte entries next place inside place, redirected-byte entries next place inside (transition_of entries place).link) less

  redirected-change : IsChange (transition_entries entries) (transition_entries (redirected entries place next)) (length entries) place last
  redirected-change = record {
    items = λ i less ne. ap (λ (t : Transition). (t.byte, t.next)) (transition_of-set_other entries place i (record (transition_of entries place) { next = next }) ne);
    keys = λ i less. redirected-byte entries next place inside i;
    links = λ i less ne. redirected-link entries next place inside i;
    ends = λ less. ends;
    of_list = λ less. run-from run found.passed;
    rises = λ less ne. redirected-rises ne;
  }

  redirected-run : IsRun (transition_entries (redirected entries place next)) last (transition_of (redirected entries place next) last).link
      (with_transition (list_at (lists_of (transition_entries entries) (length entries)) last) byte next)
  redirected-run =
      let this = ap (λ (t : Transition). (t.byte, t.next)) (transition_of-set_same entries place (record (transition_of entries place) { next = next }) inside) in
      subst (λ (n : ℕ). IsRun (transition_entries (redirected entries place next)) last n (with_transition (list_at (lists_of (transition_entries entries) (length entries)) last) byte next)) (sym (redirected-link entries next place inside last))
      (subst (λ (b : ℕ). IsRun (transition_entries (redirected entries place next)) last (transition_of entries last).link (with_transition (list_at (lists_of (transition_entries entries) (length entries)) last) b next)) found.of_byte
      (run-replaced next (keyed entries) (redirected-link entries next place inside) (redirected-byte entries next place inside)
      (λ i ne. ap (λ (t : Transition). (t.byte, t.next)) (transition_of-set_other entries place i (record (transition_of entries place) { next = next }) ne)) this run found.passed))

  pub AreRings-redirected : AreRings (transition_entries (redirected entries place next)) (length entries)
  AreRings-redirected = AreRings-changed redirected-change rings (λ less. rw (redirected-link entries next place inside place) (rings.within place less)) redirected-run

  found-within : (transition_entries entries).key place ≤ (transition_entries entries).key last
  found-within = key-le (run-from run found.passed).1

  pub lists_of-redirected : lists_of (transition_entries (redirected entries place next)) (length entries) ≡ set_transition_in (lists_of (transition_entries entries) (length entries)) last byte next
  lists_of-redirected =
      lists_of-set (transition_entries entries) (transition_entries (redirected entries place next)) (length entries) last (with_transition (list_at (lists_of (transition_entries entries) (length entries)) last) byte next) below
      (λ i less other. other_lists redirected-change rings i less other)
      (list_ending-ring some (omega (arith, redirected-byte entries next place inside last, redirected-byte entries next place inside (transition_of entries last).link, ap (transition_entries (redirected entries place next)).key (redirected-link entries next place inside last))) redirected-run)
      ∙ sym (set_transition_in-listed (lists_of (transition_entries entries) (length entries)) last byte next (lists_transition-on (keyed entries) run found)
      (is_above-within (keyed entries) run byte (omega (arith, found-within, found.of_byte))))

  pub number-redirected : number_after (lists_of (transition_entries entries) (length entries)) last byte ≡ last
  number-redirected = number_after-within (lists_of (transition_entries entries) (length entries)) last byte (is_above-within (keyed entries) run byte (omega (arith, found-within, found.of_byte)))

-- ---- one entry more in a list

module _ (entries : List Transition) (last byte next place : ℕ) (inside : place < length entries) where
  pub behind-new : transition_of (linked_behind entries place byte next) (length entries) ≡ record { byte = byte; next = next; link = (transition_of entries place).link }
  behind-new =
      let count = length-set entries place (record (transition_of entries place) { link = length entries }) in
      ap (transition_of (linked_behind entries place byte next)) (sym count)
      ∙ transition_of-push (set entries place (record (transition_of entries place) { link = length entries })) (record { byte = byte; next = next; link = (transition_of entries place).link })

  pub behind-old : (i : ℕ) → i < length entries → transition_of (linked_behind entries place byte next) i ≡ transition_of (set entries place (record (transition_of entries place) { link = length entries })) i
  behind-old i less =
      transition_of-pushed (set entries place (record (transition_of entries place) { link = length entries })) (record { byte = byte; next = next; link = (transition_of entries place).link }) i
      (omega (arith, length-set entries place (record (transition_of entries place) { link = length entries })))

  pub behind-place : transition_of (linked_behind entries place byte next) place ≡ record (transition_of entries place) { link = length entries }
  behind-place = behind-old place inside ∙ transition_of-set_same entries place (record (transition_of entries place) { link = length entries }) inside

  pub behind-other : (i : ℕ) → i < length entries → i ≢ place → transition_of (linked_behind entries place byte next) i ≡ transition_of entries i
  behind-other i less ne = behind-old i less ∙ transition_of-set_other entries place i (record (transition_of entries place) { link = length entries }) ne

  pub behind-item : (i : ℕ) → i < length entries → (transition_entries (linked_behind entries place byte next)).item i ≡ (transition_entries entries).item i
  behind-item i less = elim (cases_eq i place) [
    | inl is ↦ subst (λ (n : ℕ). (transition_entries (linked_behind entries place byte next)).item n ≡ (transition_entries entries).item n) (sym is) (ap (λ (t : Transition). (t.byte, t.next)) behind-place)
    | inr ne ↦ ap (λ (t : Transition). (t.byte, t.next)) (behind-other i less ne)
  ]

  pub behind-key : (i : ℕ) → i < length entries → (transition_entries (linked_behind entries place byte next)).key i ≡ (transition_entries entries).key i
  behind-key i less = ap (λ (p : ℕ × ℕ). p.0) (behind-item i less)

  pub behind-link : (i : ℕ) → i < length entries → i ≢ place → (transition_entries (linked_behind entries place byte next)).link i ≡ (transition_entries entries).link i
  behind-link i less ne = ap (λ (t : Transition). t.link) (behind-other i less ne)

  pub to_new : (transition_entries (linked_behind entries place byte next)).link place ≡ length entries
  to_new = ap (λ (t : Transition). t.link) behind-place

  pub from_new : (transition_entries (linked_behind entries place byte next)).link (length entries) ≡ (transition_entries entries).link place
  from_new = ap (λ (t : Transition). t.link) behind-new

  pub new_byte : (transition_entries (linked_behind entries place byte next)).key (length entries) ≡ byte
  new_byte = ap (λ (t : Transition). t.byte) behind-new

  pub new_item : (transition_entries (linked_behind entries place byte next)).item (length entries) ≡ (byte, next)
  new_item = ap (λ (t : Transition). (t.byte, t.next)) behind-new

-- ---- an entry is added, then another links to it

pub relinked-pushed : (entries : List Transition) (more : Transition) (place link : ℕ) → place < length entries → relinked (entries ++ more ∷ []) place link ≡ relinked entries place link ++ more ∷ []
relinked-pushed entries more place link below =
    ap (λ (t : Transition). set (entries ++ more ∷ []) place (record t { link = link })) (transition_of-pushed entries more place below)
    ∙ set-append_left entries (more ∷ []) place (record (transition_of entries place) { link = link }) below

-- ---- the first byte of a list

set_first : (lists : List (List (ℕ × ℕ))) → list_at lists 0 ≡ [] → set (lists ++ [] ∷ []) 0 [] ≡ lists ++ [] ∷ []
set_first [] none = refl
set_first (list ∷ lists) none = ap (λ (l : List (ℕ × ℕ)). l ∷ (lists ++ [] ∷ [])) (sym none)

pub set_transition_in-empty : (lists : List (List (ℕ × ℕ))) (byte next : ℕ) → list_at lists 0 ≡ [] → set_transition_in lists 0 byte next ≡ lists ++ ((byte, next) ∷ []) ∷ []
set_transition_in-empty lists byte next none =
    rw none (ap (λ (ls : List (List (ℕ × ℕ))). set ls (length lists) ((byte, next) ∷ [])) (set_first lists none) ∙ set_at lists [] [] ((byte, next) ∷ []) (length lists) refl)

pub number_after-empty : (lists : List (List (ℕ × ℕ))) (byte : ℕ) → list_at lists 0 ≡ [] → number_after lists 0 byte ≡ length lists
number_after-empty lists byte none = rw none refl
