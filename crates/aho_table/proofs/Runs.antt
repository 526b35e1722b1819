-- Runs along the links of a vector of lists.
use Rattle.std.proofs.Common.{◌≡◌, ℕ, zero, suc, ◌+◌, ◌-◌, ◌<◌, ◌≤◌, ◌≢◌, List, [], ◌∷◌, ◌++◌, refl, sym, ap, subst, ◌∙◌, inl, inr, arith}
use Rattle.std.proofs.lemmas.Bool.{cases_eq, eq-eqb, le-ltb, lt-ltb, ne_eqb}
use Rattle.aho_table.specs.Rings.{Entries, list_along, list_to, list_ending, IsRun, here, on, IsPassed, stop, pass}

-- keys rise up to the last
pub key-le : {X : Type 0} {entries : Entries X} {last at : ℕ} {xs : List X} → IsRun entries last at xs → entries.key at ≤ entries.key last
key-le {entries = entries} (here is eq) = omega (arith, ap entries.key is)
key-le (on ne less run eq) = omega (arith, key-le run)

list_along-here : {X : Type 0} (entries : Entries X) (steps at last : ℕ) → at ≡ last → list_along entries (suc steps) at last ≡ entries.item last ∷ []
unfolding list_along
list_along-here entries steps at last is = rw (eq-eqb at last is) refl

list_along-on : {X : Type 0} (entries : Entries X) (steps at last : ℕ) → at ≢ last
    → list_along entries (suc steps) at last ≡ entries.item at ∷ list_along entries steps (entries.link at) last
unfolding list_along
list_along-on entries steps at last ne = rw (ne_eqb at last ne) refl

-- a run's items are those along the links, where there are steps enough
list_along-run : {X : Type 0} {entries : Entries X} {last at : ℕ} {xs : List X} → IsRun entries last at xs → (steps : ℕ) → entries.key last ≤ steps + entries.key at
    → list_along entries steps at last ≡ xs
unfolding list_along
list_along-run (here is eq) zero enough = sym eq
list_along-run (on ne less run eq) zero enough = absurd (omega (arith, key-le run))
list_along-run {entries = entries} {last = last} {at = at} (here is eq) (suc steps) enough = list_along-here entries steps at last is ∙ sym eq
list_along-run {X = X} {entries = entries} {last = last} {at = at} (on ne less run eq) (suc steps) enough =
    list_along-on entries steps at last ne ∙ ap (λ (l : List X). entries.item at ∷ l) (list_along-run run steps (omega arith)) ∙ sym eq

pub list_to-run : {X : Type 0} {entries : Entries X} {last at : ℕ} {xs : List X} → IsRun entries last at xs → list_to entries at last ≡ xs
unfolding list_to
list_to-run {entries = entries} {last = last} {at = at} run = list_along-run run (entries.key last - entries.key at) (omega arith)

-- ---- the list that ends at a place

pub list_ending-ring : {X : Type 0} {entries : Entries X} {last : ℕ} {xs : List X} → 0 < last → entries.key (entries.link last) ≤ entries.key last
    → IsRun entries last (entries.link last) xs → list_ending entries last ≡ xs
unfolding list_ending
list_ending-ring {entries = entries} {last = last} some ends run =
    rw (ne_eqb last 0 (λ e. omega arith), le-ltb (entries.key last) (entries.key (entries.link last)) ends) (list_to-run run)

pub list_ending-none : {X : Type 0} (entries : Entries X) (last : ℕ) → entries.key last < entries.key (entries.link last) → list_ending entries last ≡ []
unfolding list_ending
list_ending-none entries last less =
    elim (cases_eq last 0) [
      | inl is ↦ rw (eq-eqb last 0 is) refl
      | inr ne ↦ rw (ne_eqb last 0 ne, lt-ltb (entries.key last) (entries.key (entries.link last)) less) refl
    ]

pub list_ending-zero : {X : Type 0} (entries : Entries X) → list_ending entries 0 ≡ []
unfolding list_ending
list_ending-zero entries = refl

-- a run has an item
pub run-some : {X : Type 0} {entries : Entries X} {last at : ℕ} {xs : List X} → IsRun entries last at xs → xs ≢ []
run-some (here is eq) none = let e = sym eq ∙ none in cc
run-some (on ne less run eq) none = let e = sym eq ∙ none in cc

-- from one place the links lead to one last entry alone
pub one_end : {X : Type 0} {entries : Entries X} {y z at : ℕ} {xs ys : List X} → IsRun entries y at xs → IsRun entries z at ys
    → entries.key (entries.link y) ≤ entries.key y → entries.key (entries.link z) ≤ entries.key z → y ≡ z
one_end (here is eq) (here also eqs) first second = sym is ∙ also
one_end {entries = entries} (here is eq) (on ne less run eqs) first second = absurd (omega (arith, ap entries.key is, ap (λ (n : ℕ). entries.key (entries.link n)) is))
one_end {entries = entries} (on ne less run eq) (here is eqs) first second = absurd (omega (arith, ap entries.key is, ap (λ (n : ℕ). entries.key (entries.link n)) is))
one_end (on ne less run eq) (on nes lesss runs eqs) first second = one_end run runs first second

-- ---- runs in a changed vector

-- a run stays one where what it passes stays
pub run-kept : {X : Type 0} {old new : Entries X} {last : ℕ} (Q : ℕ → Type 0)
    → ((i : ℕ) → Q i → (new.item i ≡ old.item i) × (new.key i ≡ old.key i) × (i ≢ last → new.link i ≡ old.link i))
    → ((i : ℕ) → Q i → i ≢ last → old.key i < old.key (old.link i) → Q (old.link i))
    → {at : ℕ} {xs : List X} → Q at → IsRun old last at xs → IsRun new last at xs
run-kept {X = X} {old = old} {new = new} {last = last} Q same next {at = at} q (here is eq) =
    here is (eq ∙ ap (λ (x : X). x ∷ []) (ap old.item (sym is) ∙ sym (same at q).0 ∙ ap new.item is))
run-kept {X = X} {old = old} {new = new} {last = last} Q same next {at = at} q (on {ys = ys} ne less run eq) =
    let link = (same at q).2 ne in
    let there = next at q ne less in
    let run' : IsRun new last (old.link at) ys = run-kept Q same next there run in
    let key = (same (old.link at) there).1 in
    let here = (same at q).1 in
    on ne (omega (arith, ap new.key link))
    (subst (λ (n : ℕ). IsRun new last n ys) (sym link) run')
    (eq ∙ ap (λ (x : X). x ∷ ys) (sym (same at q).0))

-- one entry more behind the last: the run goes on to the new one
pub run-longer : {X : Type 0} {old new : Entries X} {last next : ℕ} {ys : List X} (Q : ℕ → Type 0)
    → ((i : ℕ) → Q i → (i ≢ next) × (new.item i ≡ old.item i) × (new.key i ≡ old.key i) × (i ≢ last → new.link i ≡ old.link i))
    → ((i : ℕ) → Q i → i ≢ last → old.key i < old.key (old.link i) → Q (old.link i))
    → (rest : ℕ) → new.link last ≡ rest → new.key last < new.key rest → IsRun new next rest ys
    → {at : ℕ} {xs : List X} → Q at → IsRun old last at xs → IsRun new next at (xs ++ ys)
run-longer {X = X} {old = old} {new = new} {last = last} {next = next} {ys = ys} Q same step rest link more there {at = at} q (here is eq) =
    on (same at q).0 (omega (arith, ap new.key is, ap (λ (n : ℕ). new.key (new.link n)) is, ap new.key link))
    (subst (λ (n : ℕ). IsRun new next n ys) (sym (ap new.link is ∙ link)) there)
    (ap (λ (l : List X). l ++ ys) eq ∙ ap (λ (x : X). x ∷ ys) (ap old.item (sym is) ∙ sym (same at q).1))
run-longer {X = X} {old = old} {new = new} {last = last} {next = next} {ys = ys} Q same step rest link more there {at = at} q (on {ys = zs} ne less run eq) =
    let passed = step at q ne less in
    let linked = (same at q).3 ne in
    let longer : IsRun new next (old.link at) (zs ++ ys) = run-longer Q same step rest link more there passed run in
    let key = (same (old.link at) passed).2 in
    let key' = (same at q).2 in
    on (same at q).0 (omega (arith, ap new.key linked))
    (subst (λ (n : ℕ). IsRun new next n (zs ++ ys)) (sym linked) longer)
    (ap (λ (l : List X). l ++ ys) eq ∙ ap (λ (x : X). x ∷ (zs ++ ys)) (sym (same at q).1))

-- a run goes on where it is not at its end
pub run-next : {X : Type 0} {entries : Entries X} {last at : ℕ} {xs : List X} → IsRun entries last at xs → at ≢ last
    → (ys : List X) × (entries.key at < entries.key (entries.link at)) × IsRun entries last (entries.link at) ys × (xs ≡ entries.item at ∷ ys)
run-next (here is eq) apart = absurd (apart is)
run-next (on {ys = ys} ne less run eq) apart = (ys, less, run, eq)

-- and what passes a place passes the next one
pub passed-next : {X : Type 0} {entries : Entries X} {last place from : ℕ} → IsPassed entries last place from → place ≢ last
    → entries.key place < entries.key (entries.link place) → IsPassed entries last (entries.link place) from
passed-next {entries = entries} (stop is) ne less = pass (λ e. ne (sym is ∙ e)) (omega (arith, ap entries.key is, ap (λ (n : ℕ). entries.key (entries.link n)) is)) (stop (ap entries.link is))
passed-next (pass apart rises rest) ne less = pass apart rises (passed-next rest ne less)

-- a run passes its last place
pub last-passed : {X : Type 0} {entries : Entries X} {last at : ℕ} {xs : List X} → IsRun entries last at xs → IsPassed entries last last at
last-passed (here is eq) = stop is
last-passed (on ne less run eq) = pass ne less (last-passed run)

-- from a place that is passed the run goes on
pub run-from : {X : Type 0} {entries : Entries X} {last place at : ℕ} {xs : List X} → IsRun entries last at xs → IsPassed entries last place at → (ys : List X) × IsRun entries last place ys
run-from {X = X} {entries = entries} {last = last} {xs = xs} (here is eq) (stop same) = (xs, subst (λ (n : ℕ). IsRun entries last n xs) same (here is eq))
run-from (here is eq) (pass ne rises rest) = absurd (ne is)
run-from {X = X} {entries = entries} {last = last} {xs = xs} (on ne less run eq) (stop same) = (xs, subst (λ (n : ℕ). IsRun entries last n xs) same (on ne less run eq))
run-from (on ne less run eq) (pass apart rises rest) = run-from run rest
