-- What becomes of the lists of a vector where one of them is changed.
use Rattle.std.proofs.Common.{◌≡◌, ℕ, zero, suc, ◌+◌, ◌-◌, ◌<◌, ◌≤◌, ◌≢◌, ◌⊎◌, List, [], ◌∷◌, ◌++◌, get_or, set, replicate, refl, sym, ap, subst, ◌∙◌, inl, inr, arith}
use Rattle.std.proofs.lemmas.List.{same_lists, append_assoc, append-nil, length-set, get_or-set_same, get_or-set_other, get_or_default, replicate_more}
use Rattle.std.proofs.lemmas.List.FromFn.{map-range_with_len_more}
use Rattle.std.proofs.lemmas.Bool.{cases_eq, cases_order}
use Rattle.aho_table.specs.Rings.{Entries, list_ending, lists_of, IsRun, here, AreRings}
use Rattle.aho_table.proofs.Runs.{run-next, run-kept, one_end, list_ending-ring, list_ending-none, list_ending-zero}
use Rattle.aho_table.proofs.Stores.{length-lists_of, list_at-lists_of}

-- ---- the lists of more numbers

pub lists_of-more : {X : Type 0} (entries : Entries X) (count : ℕ) → lists_of entries (count + 1) ≡ lists_of entries count ++ list_ending entries count ∷ []
unfolding lists_of
lists_of-more entries count = map-range_with_len_more (list_ending entries) 0 count count (omega arith)

pub lists_of-none : {X : Type 0} (entries : Entries X) (count more : ℕ) → ((i : ℕ) → count ≤ i → i < count + more → list_ending entries i ≡ [])
    → lists_of entries (count + more) ≡ lists_of entries count ++ replicate more []
lists_of-none entries count zero none =
    let none_more : count + 0 ≡ count = omega arith in
    ap (lists_of entries) none_more ∙ sym (append-nil (lists_of entries count))
lists_of-none {X = X} entries count (suc more) none =
    let last_more : count + suc more ≡ count + more + 1 = omega arith in
    let one_more : more + 1 ≡ suc more = omega arith in
    ap (lists_of entries) last_more ∙ lists_of-more entries (count + more)
    ∙ ap (λ (l : List X). lists_of entries (count + more) ++ l ∷ []) (none (count + more) (omega arith) (omega arith))
    ∙ ap (λ (ls : List (List X)). ls ++ [] ∷ []) (lists_of-none entries count more (λ i above below. none i above (omega arith)))
    ∙ append_assoc (lists_of entries count) (replicate more []) ([] ∷ [])
    ∙ ap (λ (ls : List (List X)). lists_of entries count ++ ls) (replicate_more {X = List X} more [] ∙ ap (λ (n : ℕ). replicate {A = List X} n []) one_more)

-- one list is changed, and no other
pub lists_of-set : {X : Type 0} (old new : Entries X) (count number : ℕ) (items : List X) → number < count
    → ((i : ℕ) → i < count → i ≢ number → list_ending new i ≡ list_ending old i) → list_ending new number ≡ items
    → lists_of new count ≡ set (lists_of old count) number items
lists_of-set {X = X} old new count number items below others this =
    same_lists (lists_of new count) (set (lists_of old count) number items)
    (length-lists_of new count ∙ sym (length-set (lists_of old count) number items ∙ length-lists_of old count))
    (λ k d lt. at k d (omega (arith, length-lists_of new count)))
  where
    at : (k : ℕ) (d : List X) → k < count → get_or (lists_of new count) k d ≡ get_or (set (lists_of old count) number items) k d
    at k d lt =
        get_or_default (lists_of new count) k d [] (omega (arith, length-lists_of new count)) ∙ list_at-lists_of new count k lt
        ∙ elim (cases_eq k number) [
          | inl is ↦ ap (list_ending new) is ∙ this
              ∙ sym (ap (λ (n : ℕ). get_or (set (lists_of old count) number items) n d) is ∙ get_or-set_same (lists_of old count) number items d (omega (arith, length-lists_of old count)))
          | inr ne ↦ others k lt ne
              ∙ sym (get_or-set_other (lists_of old count) number k items d ne ∙ get_or_default (lists_of old count) k d [] (omega (arith, length-lists_of old count)) ∙ list_at-lists_of old count k lt)
        ]

-- ---- a changed vector

-- the entries below `count` are those that there were, but for the item and the link of one place, which is no place of a list or
-- one of the list that ends at `last`
pub record IsChange {X : Type 0} (old new : Entries X) (count place last : ℕ) : Type 0 where
  pub items : (i : ℕ) → i < count → i ≢ place → new.item i ≡ old.item i
  pub keys : (i : ℕ) → i < count → new.key i ≡ old.key i
  pub links : (i : ℕ) → i < count → i ≢ place → new.link i ≡ old.link i
  pub ends : place < count → old.key (old.link last) ≤ old.key last
  pub of_list : place < count → (xs : List X) × IsRun old last place xs
  pub rises : place < count → place ≢ last → new.key place < new.key (new.link place)

-- an entry that is not the last of the changed list is in the old vector what it is in the new one
pub record IsInner {X : Type 0} (old new : Entries X) (i : ℕ) : Type 0 where
  pub before : old.key i < old.key (old.link i)
  pub after : new.key i < new.key (new.link i)

pub record IsEnd {X : Type 0} (old new : Entries X) (i : ℕ) (xs : List X) : Type 0 where
  pub before : old.key (old.link i) ≤ old.key i
  pub after : new.key (new.link i) ≤ new.key i
  pub run : IsRun old i (old.link i) xs
  pub new_run : IsRun new i (new.link i) xs

-- what another list passes is not the place of the change
apart : {X : Type 0} {old new : Entries X} {count place last : ℕ} → IsChange old new count place last → (i at : ℕ) (xs : List X) → i ≢ last → at < count
    → old.key (old.link i) ≤ old.key i → IsRun old i at xs → at ≢ place
apart {X = X} {old = old} {last = last} change i at xs other below ends run is =
    let changed = change.of_list (omega arith) in
    other (one_end run (subst (λ (n : ℕ). IsRun old last n changed.0) (sym is) changed.1) ends (change.ends (omega arith)))

same_end : {X : Type 0} {old new : Entries X} {count place last : ℕ} → IsChange old new count place last → AreRings old count → (i : ℕ) → 0 < i → i < count → i ≢ last
    → old.key (old.link i) ≤ old.key i → (xs : List X) × IsEnd old new i xs
same_end {X = X} {old = old} {new = new} {count = count} {place = place} change rings i some below other ends =
    let joined = rings.joined i some below ends in
    let first = rings.within i below in
    let link = change.links i below (apart change i i (old.item i ∷ []) other below ends (here refl refl)) in (
      joined.0,
      record {
        before = ends;
        after = omega (arith, ap new.key link, change.keys i below, change.keys (old.link i) first);
        run = joined.1;
        new_run = subst (λ (n : ℕ). IsRun new i n joined.0) (sym link)
            (run-kept (λ (at : ℕ). (at < count) × (xs : List X) × IsRun old i at xs)
            (λ at on_run. let off = apart change i at on_run.1 other on_run.0 ends on_run.2 in
            (change.items at on_run.0 off, change.keys at on_run.0, λ ne. change.links at on_run.0 off))
            (λ at on_run ne less. let next = run-next on_run.2 ne in (rings.within at on_run.0, next.0, next.2))
            (first, joined.0, joined.1) joined.1);
      },
    )

same_inner : {X : Type 0} {old new : Entries X} {count place last : ℕ} → IsChange old new count place last → AreRings old count → (i : ℕ) → i < count → i ≢ last
    → old.key i < old.key (old.link i) → IsInner old new i
same_inner {old = old} {new = new} {place = place} {last = last} change rings i below other less =
    record {
      before = less;
      after = elim (cases_eq i place) [
        | inl is ↦ subst (λ (n : ℕ). new.key n < new.key (new.link n)) (sym is) (change.rises (omega arith) (λ e. other (is ∙ e)))
        | inr ne ↦ omega (arith, ap new.key (change.links i below ne), change.keys i below, change.keys (old.link i) (rings.within i below))
      ];
    }

pub same_entry : {X : Type 0} {old new : Entries X} {count place last : ℕ} → IsChange old new count place last → AreRings old count → (i : ℕ) → 0 < i → i < count → i ≢ last
    → IsInner old new i ⊎ ((xs : List X) × IsEnd old new i xs)
same_entry {X = X} {old = old} {new = new} change rings i some below other =
    elim (cases_order (old.key i) (old.key (old.link i))) as (λ _. IsInner old new i ⊎ ((xs : List X) × IsEnd old new i xs)) [
      | inl is ↦ inr (same_end change rings i some below other (omega arith))
      | inr apart ↦
          elim apart as (λ _. IsInner old new i ⊎ ((xs : List X) × IsEnd old new i xs)) [
            | inl less ↦ inl (same_inner change rings i below other less)
            | inr more ↦ inr (same_end change rings i some below other (omega arith))
          ]
    ]

-- the other lists are those that there were
pub other_lists : {X : Type 0} {old new : Entries X} {count place last : ℕ} → IsChange old new count place last → AreRings old count → (i : ℕ) → i < count → i ≢ last
    → list_ending new i ≡ list_ending old i
other_lists {X = X} {old = old} {new = new} change rings i below other =
    elim (cases_eq i 0) as (λ _. list_ending new i ≡ list_ending old i) [
      | inl is ↦ ap (list_ending new) is ∙ list_ending-zero new ∙ sym (ap (list_ending old) is ∙ list_ending-zero old)
      | inr ne ↦
          elim (same_entry change rings i (omega arith) below other) as (λ _. list_ending new i ≡ list_ending old i) [
            | inl inner ↦ list_ending-none new i inner.after ∙ sym (list_ending-none old i inner.before)
            | inr end ↦ list_ending-ring (omega arith) end.1.after end.1.new_run ∙ sym (list_ending-ring (omega arith) end.1.before end.1.run)
          ]
    ]

-- and where one of them ends its link leads to its first entry
pub other_joined : {X : Type 0} {old new : Entries X} {count place last : ℕ} → IsChange old new count place last → AreRings old count → (i : ℕ) → 0 < i → i < count → i ≢ last
    → new.key (new.link i) ≤ new.key i → (xs : List X) × IsRun new i (new.link i) xs
other_joined {X = X} {old = old} {new = new} change rings i some below other ends =
    elim (same_entry change rings i some below other) as (λ _. (xs : List X) × IsRun new i (new.link i) xs) [
      | inl inner ↦ absurd (let less = inner.after in omega arith)
      | inr end ↦ (end.0, end.1.new_run)
    ]

-- ---- where a list is changed without growing

pub AreRings-changed : {X : Type 0} {old new : Entries X} {count place last : ℕ} {xs : List X} → IsChange old new count place last → AreRings old count
    → (place < count → new.link place < count) → IsRun new last (new.link last) xs → AreRings new count
AreRings-changed {X = X} {old = old} {new = new} {count = count} {place = place} {last = last} {xs = xs} change rings inside run =
    record {
      some = rings.some;
      within = λ i below. elim (cases_eq i place) [
        | inl is ↦ subst (λ (n : ℕ). new.link n < count) (sym is) (inside (omega arith))
        | inr ne ↦ rw (change.links i below ne) (rings.within i below)
      ];
      joined = λ i some below ends. elim (cases_eq i last) as (λ _. (ys : List X) × IsRun new i (new.link i) ys) [
        | inl is ↦ (xs, subst (λ (n : ℕ). IsRun new n (new.link n) xs) (sym is) run)
        | inr ne ↦ other_joined change rings i some below ne ends
      ];
    }

-- ---- where the vector grows

-- the entries from `count` to `end` are a run of their own
pub record IsGrowth {X : Type 0} (new : Entries X) (count end : ℕ) (items : List X) : Type 0 where
  pub more : count ≤ end
  pub run : IsRun new end count items
  pub rises : (i : ℕ) → count ≤ i → i < end → new.key i < new.key (new.link i)
  pub inside : (i : ℕ) → count ≤ i → i < end → new.link i ≤ end

-- the list that ended at `last` ends at `end` now
pub lists_of-grown : {X : Type 0} {old new : Entries X} {count place last end : ℕ} {items all : List X} → IsChange old new count place last → AreRings old count → last < count
    → IsGrowth new count end items → (0 < last → new.key last < new.key (new.link last)) → new.key (new.link end) ≤ new.key end → IsRun new end (new.link end) all
    → lists_of new (end + 1) ≡ set (lists_of old count) last [] ++ (replicate (end - count) [] ++ all ∷ [])
lists_of-grown {X = X} {old = old} {new = new} {count = count} {place = place} {last = last} {end = end} {items = items} {all = all} change rings below growth goes_on ends run =
    lists_of-more new end
    ∙ ap (λ (l : List X). lists_of new end ++ l ∷ []) (list_ending-ring (omega (arith, growth.more)) ends run)
    ∙ ap (λ (n : ℕ). lists_of new n ++ all ∷ []) at_end
    ∙ ap (λ (ls : List (List X)). ls ++ all ∷ []) (lists_of-none new count (end - count) (λ i above less. list_ending-none new i (growth.rises i above (omega (arith, growth.more)))))
    ∙ ap (λ (ls : List (List X)). ls ++ replicate (end - count) [] ++ all ∷ []) (lists_of-set old new count last [] below (λ i less other. other_lists change rings i less other) none)
    ∙ append_assoc (set (lists_of old count) last []) (replicate (end - count) []) (all ∷ [])
  where
    at_end : end ≡ count + (end - count)
    at_end = omega (arith, growth.more)

    none : list_ending new last ≡ []
    none = elim (cases_eq last 0) [
      | inl is ↦ ap (list_ending new) is ∙ list_ending-zero new
      | inr ne ↦ list_ending-none new last (goes_on (omega arith))
    ]

pub AreRings-grown : {X : Type 0} {old new : Entries X} {count place last end : ℕ} {items all : List X} → IsChange old new count place last → AreRings old count
    → IsGrowth new count end items → (0 < last → new.key last < new.key (new.link last)) → IsRun new end (new.link end) all
    → (place < count → new.link place ≤ end) → new.link end ≤ end → AreRings new (end + 1)
AreRings-grown {X = X} {old = old} {new = new} {count = count} {place = place} {last = last} {end = end} {items = items} {all = all} change rings growth goes_on run linked back =
    record {
      some = omega arith;
      within = λ i below. elim (cases_order i count) [
        | inl is ↦ new_within i (omega arith) below
        | inr apart ↦ elim apart [ inl less ↦ old_within i less | inr more ↦ new_within i (omega arith) below ]
      ];
      joined = λ i some below ends. elim (cases_order i end) as (λ _. (xs : List X) × IsRun new i (new.link i) xs) [
        | inl is ↦ (all, subst (λ (n : ℕ). IsRun new n (new.link n) all) (sym is) run)
        | inr apart ↦ elim apart as (λ _. (xs : List X) × IsRun new i (new.link i) xs) [ inl less ↦ inner i some less ends | inr more ↦ absurd (omega arith) ]
      ];
    }
  where
    old_within : (i : ℕ) → i < count → new.link i < end + 1
    old_within i less = elim (cases_eq i place) [
      | inl is ↦ subst (λ (n : ℕ). new.link n < end + 1) (sym is) (omega (arith, linked (omega arith)))
      | inr ne ↦ omega (arith, change.links i less ne, rings.within i less, growth.more)
    ]

    new_within : (i : ℕ) → count ≤ i → i < end + 1 → new.link i < end + 1
    new_within i above below = elim (cases_eq i end) [
      | inl is ↦ subst (λ (n : ℕ). new.link n < end + 1) (sym is) (omega arith)
      | inr ne ↦ omega (arith, growth.inside i above (omega arith))
    ]

    rising : (i : ℕ) → i ≡ last → 0 < i → new.key (new.link i) ≤ new.key i → ⊥
    rising i is some ends = omega (arith, goes_on (omega arith), ap new.key is, ap (λ (n : ℕ). new.key (new.link n)) is)

    lower : (i : ℕ) → 0 < i → i < count → new.key (new.link i) ≤ new.key i → (xs : List X) × IsRun new i (new.link i) xs
    lower i some less ends = elim (cases_eq i last) as (λ _. (xs : List X) × IsRun new i (new.link i) xs) [
      | inl is ↦ absurd (rising i is some ends)
      | inr ne ↦ other_joined change rings i some less ne ends
    ]

    inner : (i : ℕ) → 0 < i → i < end → new.key (new.link i) ≤ new.key i → (xs : List X) × IsRun new i (new.link i) xs
    inner i some less ends = elim (cases_order i count) as (λ _. (xs : List X) × IsRun new i (new.link i) xs) [
      | inl is ↦ absurd (omega (arith, growth.rises i (omega arith) less))
      | inr apart ↦ elim apart as (λ _. (xs : List X) × IsRun new i (new.link i) xs) [
        | inl low ↦ lower i some low ends
        | inr high ↦ absurd (omega (arith, growth.rises i (omega arith) less))
      ]
    ]

-- one entry more between others of the list that ends at `last`
pub lists_of-inserted : {X : Type 0} {old new : Entries X} {count place last : ℕ} {all : List X} → IsChange old new count place last → AreRings old count → 0 < last → last < count
    → new.key count < new.key (new.link count) → new.key (new.link last) ≤ new.key last → IsRun new last (new.link last) all
    → lists_of new (count + 1) ≡ set (lists_of old count) last all ++ [] ∷ []
lists_of-inserted {X = X} {old = old} {new = new} {count = count} {last = last} {all = all} change rings some below rises ends run =
    lists_of-more new count
    ∙ ap (λ (l : List X). lists_of new count ++ l ∷ []) (list_ending-none new count rises)
    ∙ ap (λ (ls : List (List X)). ls ++ [] ∷ []) (lists_of-set old new count last all below (λ i less other. other_lists change rings i less other) (list_ending-ring some ends run))

pub AreRings-inserted : {X : Type 0} {old new : Entries X} {count place last : ℕ} {all : List X} → IsChange old new count place last → AreRings old count
    → place < count → new.link place ≡ count → new.key count < new.key (new.link count) → new.link count < count → IsRun new last (new.link last) all
    → AreRings new (count + 1)
AreRings-inserted {X = X} {old = old} {new = new} {count = count} {place = place} {last = last} {all = all} change rings below linked rises back run =
    record {
      some = omega arith;
      within = λ i less. elim (cases_eq i count) [
        | inl is ↦ subst (λ (n : ℕ). new.link n < count + 1) (sym is) (omega arith)
        | inr ne ↦ old_within i (omega arith)
      ];
      joined = λ i some less ends. elim (cases_eq i count) as (λ _. (xs : List X) × IsRun new i (new.link i) xs) [
        | inl is ↦ absurd (rising i is ends)
        | inr ne ↦ elim (cases_eq i last) as (λ _. (xs : List X) × IsRun new i (new.link i) xs) [
          | inl same ↦ (all, subst (λ (n : ℕ). IsRun new n (new.link n) all) (sym same) run)
          | inr other ↦ other_joined change rings i some (omega arith) other ends
        ]
      ];
    }
  where
    rising : (i : ℕ) → i ≡ count → new.key (new.link i) ≤ new.key i → ⊥
    rising i is ends = omega (arith, ap new.key is, ap (λ (n : ℕ). new.key (new.link n)) is)

    old_within : (i : ℕ) → i < count → new.link i < count + 1
    old_within i less = elim (cases_eq i place) [
      | inl is ↦ subst (λ (n : ℕ). new.link n < count + 1) (sym is) (omega arith)
      | inr ne ↦ omega (arith, change.links i less ne, rings.within i less)
    ]
