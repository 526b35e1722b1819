-- What a run says of a list of transitions that rises by byte.
use Rattle.std.proofs.Common.{◌≡◌, ℕ, ◌<◌, ◌≤◌, ◌≢◌, true, false, List, [], ◌∷◌, ◌++◌, refl, sym, ap, subst, ◌∙◌, inl, inr, arith, zero, suc}
use Rattle.std.proofs.lemmas.Bool.{cases_order}
use Rattle.std.proofs.lemmas.Bool.Decides.{nat_tests}
use Rattle.std.proofs.lemmas.List.Elements.{All-cons}
use Rattle.std.specs.List.{All}
use Rattle.aho_table.specs.Rings.{Entries, IsRun, here, on, IsPassed, stop, pass}
use Rattle.aho_table.specs.ListsInside.{IsOn, IsGapBehind, first, beyond, between}
use Rattle.aho_table.specs.TransitionList.{transition_at, with_transition, lists_transition, is_above, IsRising}
use Rattle.aho_table.proofs.Runs.{key-le, run-kept}

-- ---- one entry of a list

pub transition_at-same : (transition : ℕ × ℕ) (transitions : List (ℕ × ℕ)) (byte : ℕ) → transition.0 ≡ byte → transition_at (transition ∷ transitions) byte ≡ transition.1
transition_at-same transition transitions byte e = grind (arith, nat_tests)

pub transition_at-other : (transition : ℕ × ℕ) (transitions : List (ℕ × ℕ)) (byte : ℕ) → transition.0 ≢ byte → transition_at (transition ∷ transitions) byte ≡ transition_at transitions byte
transition_at-other transition transitions byte ne = grind (arith, nat_tests)

pub lists_transition-other : (transition : ℕ × ℕ) (transitions : List (ℕ × ℕ)) (byte : ℕ) → transition.0 ≢ byte → lists_transition (transition ∷ transitions) byte ≡ lists_transition transitions byte
lists_transition-other transition transitions byte ne = grind (arith, nat_tests)

pub lists_transition-same : (transition : ℕ × ℕ) (transitions : List (ℕ × ℕ)) (byte : ℕ) → transition.0 ≡ byte → lists_transition (transition ∷ transitions) byte ≡ true
lists_transition-same transition transitions byte is = grind (arith, nat_tests)

pub is_above-more : (transition : ℕ × ℕ) (transitions : List (ℕ × ℕ)) (byte : ℕ) → transition.0 < byte → is_above (transition ∷ transitions) byte ≡ is_above transitions byte
is_above-more transition transitions byte less = grind (arith, nat_tests)

pub is_above-not : (transition : ℕ × ℕ) (transitions : List (ℕ × ℕ)) (byte : ℕ) → byte ≤ transition.0 → is_above (transition ∷ transitions) byte ≡ false
is_above-not transition transitions byte le = grind (arith, nat_tests)

pub with_transition-more : (transition : ℕ × ℕ) (transitions : List (ℕ × ℕ)) (byte next : ℕ) → transition.0 < byte → with_transition (transition ∷ transitions) byte next ≡ transition ∷ with_transition transitions byte next
with_transition-more transition transitions byte next less = grind (arith, nat_tests)

pub with_transition-same : (transition : ℕ × ℕ) (transitions : List (ℕ × ℕ)) (byte next : ℕ) → transition.0 ≡ byte → with_transition (transition ∷ transitions) byte next ≡ (byte, next) ∷ transitions
with_transition-same transition transitions byte next same = grind (arith, nat_tests)

pub with_transition-less : (transition : ℕ × ℕ) (transitions : List (ℕ × ℕ)) (byte next : ℕ) → byte < transition.0 → with_transition (transition ∷ transitions) byte next ≡ (byte, next) ∷ transition ∷ transitions
with_transition-less transition transitions byte next less = grind (arith, nat_tests)

-- ---- a run rises by byte

-- the key of an entry is its byte
abbrev pub AreKeyed : Entries (ℕ × ℕ) → Type 0
AreKeyed entries = (i : ℕ) → (entries.item i).0 ≡ entries.key i

pub run-above : {entries : Entries (ℕ × ℕ)} {last at : ℕ} {xs : List (ℕ × ℕ)} → AreKeyed entries → IsRun entries last at xs → (low : ℕ) → low < entries.key at → All (λ later. low < later.0) xs
run-above {entries = entries} {last = last} keyed (here is eq) low less =
    rw eq (All-cons (λ later. low < later.0) (entries.item last) [] (omega (arith, keyed last, ap entries.key is)) (λ k d lt. absurd (omega arith)))
run-above {entries = entries} {at = at} keyed (on {ys = ys} ne rises run eq) low less =
    rw eq (All-cons (λ later. low < later.0) (entries.item at) ys (omega (arith, keyed at)) (run-above keyed run low (omega arith)))

pub run-below : {entries : Entries (ℕ × ℕ)} {last at : ℕ} {xs : List (ℕ × ℕ)} → AreKeyed entries → IsRun entries last at xs → (high : ℕ) → entries.key last < high → All (λ later. later.0 < high) xs
run-below {entries = entries} {last = last} keyed (here is eq) high less =
    rw eq (All-cons (λ later. later.0 < high) (entries.item last) [] (omega (arith, keyed last)) (λ k d lt. absurd (omega arith)))
run-below {entries = entries} {at = at} keyed (on {ys = ys} ne rises run eq) high less =
    rw eq (All-cons (λ later. later.0 < high) (entries.item at) ys (omega (arith, keyed at, key-le run)) (run-below keyed run high less))

pub run-rising : {entries : Entries (ℕ × ℕ)} {last at : ℕ} {xs : List (ℕ × ℕ)} → AreKeyed entries → IsRun entries last at xs → IsRising xs
run-rising keyed (here is eq) = rw eq (λ k d lt. absurd (omega arith), tt)
run-rising {entries = entries} {at = at} keyed (on ne rises run eq) = rw eq (run-above keyed run (entries.item at).0 (omega (arith, keyed at)), run-rising keyed run)

-- ---- the byte's entry is on the list

passed-le : {entries : Entries (ℕ × ℕ)} {last place from : ℕ} → IsPassed entries last place from → entries.key from ≤ entries.key place
passed-le {entries = entries} (stop is) = omega (arith, ap entries.key is)
passed-le (pass ne rises rest) = omega (arith, passed-le rest)

transition_at-passed : {entries : Entries (ℕ × ℕ)} {last place at : ℕ} {xs : List (ℕ × ℕ)} → AreKeyed entries → IsRun entries last at xs → IsPassed entries last place at
    → transition_at xs (entries.key place) ≡ (entries.item place).1
transition_at-passed {entries = entries} {last = last} {place = place} keyed (here is eq) (stop same) =
    rw eq (transition_at-same (entries.item last) [] (entries.key place) (keyed last ∙ ap entries.key (sym is ∙ same)) ∙ ap (λ (n : ℕ). (entries.item n).1) (sym is ∙ same))
transition_at-passed keyed (here is eq) (pass ne rises rest) = absurd (ne is)
transition_at-passed {entries = entries} {place = place} {at = at} keyed (on {ys = ys} ne rises run eq) (stop same) =
    rw eq (transition_at-same (entries.item at) ys (entries.key place) (keyed at ∙ ap entries.key same) ∙ ap (λ (n : ℕ). (entries.item n).1) same)
transition_at-passed {entries = entries} {place = place} {at = at} keyed (on {ys = ys} ne rises run eq) (pass apart less rest) =
    rw eq (transition_at-other (entries.item at) ys (entries.key place) (λ e. omega (arith, keyed at, passed-le rest)) ∙ transition_at-passed keyed run rest)

lists_transition-passed : {entries : Entries (ℕ × ℕ)} {last place at : ℕ} {xs : List (ℕ × ℕ)} → AreKeyed entries → IsRun entries last at xs → IsPassed entries last place at
    → lists_transition xs (entries.key place) ≡ true
lists_transition-passed {entries = entries} {last = last} {place = place} keyed (here is eq) (stop same) =
    rw eq (lists_transition-same (entries.item last) [] (entries.key place) (keyed last ∙ ap entries.key (sym is ∙ same)))
lists_transition-passed keyed (here is eq) (pass ne rises rest) = absurd (ne is)
lists_transition-passed {entries = entries} {place = place} {at = at} keyed (on {ys = ys} ne rises run eq) (stop same) =
    rw eq (lists_transition-same (entries.item at) ys (entries.key place) (keyed at ∙ ap entries.key same))
lists_transition-passed {entries = entries} {place = place} {at = at} keyed (on {ys = ys} ne rises run eq) (pass apart less rest) =
    rw eq (lists_transition-other (entries.item at) ys (entries.key place) (λ e. omega (arith, keyed at, passed-le rest)) ∙ lists_transition-passed keyed run rest)

pub transition_at-on : {entries : Entries (ℕ × ℕ)} {last byte place : ℕ} {xs : List (ℕ × ℕ)} → AreKeyed entries → IsRun entries last (entries.link last) xs → IsOn entries last byte place
    → transition_at xs byte ≡ (entries.item place).1
transition_at-on {xs = xs} keyed run found = ap (transition_at xs) (sym found.of_byte) ∙ transition_at-passed keyed run found.passed

pub lists_transition-on : {entries : Entries (ℕ × ℕ)} {last byte place : ℕ} {xs : List (ℕ × ℕ)} → AreKeyed entries → IsRun entries last (entries.link last) xs → IsOn entries last byte place
    → lists_transition xs byte ≡ true
lists_transition-on {xs = xs} keyed run found = ap (lists_transition xs) (sym found.of_byte) ∙ lists_transition-passed keyed run found.passed

-- ---- the byte has no entry

pub transition_at-none : (transitions : List (ℕ × ℕ)) (byte : ℕ) → All (λ transition. transition.0 ≢ byte) transitions → transition_at transitions byte ≡ 1
transition_at-none [] byte apart = refl
transition_at-none (transition ∷ transitions) byte apart =
    transition_at-other transition transitions byte (apart zero transition (omega arith)) ∙ transition_at-none transitions byte (λ k d lt. apart (suc k) d (omega arith))

pub lists_transition-none : (transitions : List (ℕ × ℕ)) (byte : ℕ) → All (λ transition. transition.0 ≢ byte) transitions → lists_transition transitions byte ≡ false
lists_transition-none [] byte apart = refl
lists_transition-none (transition ∷ transitions) byte apart =
    lists_transition-other transition transitions byte (apart zero transition (omega arith)) ∙ lists_transition-none transitions byte (λ k d lt. apart (suc k) d (omega arith))

apart-between : {entries : Entries (ℕ × ℕ)} {last place at : ℕ} {xs : List (ℕ × ℕ)} → AreKeyed entries → IsRun entries last at xs → IsPassed entries last place at → place ≢ last
    → (byte : ℕ) → entries.key place < byte → byte < entries.key (entries.link place) → All (λ transition. transition.0 ≢ byte) xs
apart-between keyed (here is eq) (stop same) other byte above below = absurd (other (sym same ∙ is))
apart-between keyed (here is eq) (pass ne rises rest) other byte above below = absurd (ne is)
apart-between {entries = entries} {at = at} keyed (on {ys = ys} ne rises run eq) (stop same) other byte above below =
    rw eq (All-cons (λ transition. transition.0 ≢ byte) (entries.item at) ys (λ e. omega (arith, keyed at, ap entries.key same))
    (λ k d lt e. let more = run-above keyed run byte (omega (arith, ap (λ (n : ℕ). entries.key (entries.link n)) same)) k d lt in omega arith))
apart-between {entries = entries} {at = at} keyed (on {ys = ys} ne rises run eq) (pass off less rest) other byte above below =
    rw eq (All-cons (λ transition. transition.0 ≢ byte) (entries.item at) ys (λ e. omega (arith, keyed at, passed-le rest))
    (apart-between keyed run rest other byte above below))

pub apart-gap : {entries : Entries (ℕ × ℕ)} {last byte place : ℕ} {xs : List (ℕ × ℕ)} → AreKeyed entries → IsRun entries last (entries.link last) xs
    → IsGapBehind entries last byte place → All (λ transition. transition.0 ≢ byte) xs
apart-gap {byte = byte} keyed run (first is below less) k d lt e = let more = run-above keyed run byte below k d lt in omega arith
apart-gap {byte = byte} keyed run (beyond is above) k d lt e = let less = run-below keyed run byte above k d lt in omega arith
apart-gap {byte = byte} keyed run (between other passed above below) k d lt e = apart-between keyed run passed other byte above below k d lt e

-- ---- the list with the byte's entry

-- the entry of the byte is another, and no other is changed
pub run-replaced : {old new : Entries (ℕ × ℕ)} {last place at : ℕ} {xs : List (ℕ × ℕ)} (next : ℕ) → AreKeyed old
    → ((i : ℕ) → new.link i ≡ old.link i) → ((i : ℕ) → new.key i ≡ old.key i) → ((i : ℕ) → i ≢ place → new.item i ≡ old.item i) → new.item place ≡ (old.key place, next)
    → IsRun old last at xs → IsPassed old last place at → IsRun new last at (with_transition xs (old.key place) next)
run-replaced {old = old} {new = new} {last = last} {place = place} next keyed links keys items this (here is eq) (stop same) =
    here is
    (ap (λ (l : List (ℕ × ℕ)). with_transition l (old.key place) next) eq
    ∙ with_transition-same (old.item last) [] (old.key place) next (keyed last ∙ ap old.key (sym is ∙ same))
    ∙ ap (λ (x : ℕ × ℕ). x ∷ []) (sym (ap new.item (sym is ∙ same) ∙ this)))
run-replaced next keyed links keys items this (here is eq) (pass ne rises rest) = absurd (ne is)
run-replaced {old = old} {new = new} {last = last} {place = place} {at = at} next keyed links keys items this (on {ys = ys} ne rises run eq) (stop same) =
    on ne (omega (arith, keys at, keys (old.link at), ap new.key (links at)))
    (subst (λ (n : ℕ). IsRun new last n ys) (sym (links at))
    (run-kept (λ (i : ℕ). old.key place < old.key i)
    (λ i above. (items i (λ e. omega (arith, ap old.key e)), keys i, λ _. links i))
    (λ i above off less. omega arith) (omega (arith, ap old.key same)) run))
    (ap (λ (l : List (ℕ × ℕ)). with_transition l (old.key place) next) eq
    ∙ with_transition-same (old.item at) ys (old.key place) next (keyed at ∙ ap old.key same)
    ∙ ap (λ (x : ℕ × ℕ). x ∷ ys) (sym (ap new.item same ∙ this)))
run-replaced {old = old} {new = new} {last = last} {place = place} {at = at} next keyed links keys items this (on {ys = ys} ne rises run eq) (pass off less rest) =
    let before = passed-le rest in
    on ne (omega (arith, keys at, keys (old.link at), ap new.key (links at)))
    (subst (λ (n : ℕ). IsRun new last n (with_transition ys (old.key place) next)) (sym (links at)) (run-replaced next keyed links keys items this run rest))
    (ap (λ (l : List (ℕ × ℕ)). with_transition l (old.key place) next) eq
    ∙ with_transition-more (old.item at) ys (old.key place) next (omega (arith, keyed at))
    ∙ ap (λ (x : ℕ × ℕ). x ∷ with_transition ys (old.key place) next) (sym (items at (λ e. omega (arith, ap old.key e)))))

-- before all others, and behind them
pub with_transition-before : {entries : Entries (ℕ × ℕ)} {last at : ℕ} {xs : List (ℕ × ℕ)} → AreKeyed entries → IsRun entries last at xs → (byte next : ℕ) → byte < entries.key at
    → with_transition xs byte next ≡ (byte, next) ∷ xs
with_transition-before {entries = entries} {last = last} keyed (here is eq) byte next less =
    rw eq (with_transition-less (entries.item last) [] byte next (omega (arith, keyed last, ap entries.key is)))
with_transition-before {entries = entries} {at = at} keyed (on {ys = ys} ne rises run eq) byte next less =
    rw eq (with_transition-less (entries.item at) ys byte next (omega (arith, keyed at)))

pub with_transition-behind : {entries : Entries (ℕ × ℕ)} {last at : ℕ} {xs : List (ℕ × ℕ)} → AreKeyed entries → IsRun entries last at xs → (byte next : ℕ) → entries.key last < byte
    → with_transition xs byte next ≡ xs ++ (byte, next) ∷ []
with_transition-behind {entries = entries} {last = last} keyed (here is eq) byte next less =
    rw eq (with_transition-more (entries.item last) [] byte next (omega (arith, keyed last)))
with_transition-behind {entries = entries} {last = last} {at = at} keyed (on {ys = ys} ne rises run eq) byte next less =
    rw eq (with_transition-more (entries.item at) ys byte next (omega (arith, keyed at, key-le run))
    ∙ ap (λ (l : List (ℕ × ℕ)). entries.item at ∷ l) (with_transition-behind keyed run byte next less))

-- the byte is above all others just where it is above the last
pub is_above-behind : {entries : Entries (ℕ × ℕ)} {last at : ℕ} {xs : List (ℕ × ℕ)} → AreKeyed entries → IsRun entries last at xs → (byte : ℕ) → entries.key last < byte → is_above xs byte ≡ true
is_above-behind {entries = entries} {last = last} keyed (here is eq) byte less = rw eq (is_above-more (entries.item last) [] byte (omega (arith, keyed last)))
is_above-behind {entries = entries} {at = at} keyed (on {ys = ys} ne rises run eq) byte less =
    rw eq (is_above-more (entries.item at) ys byte (omega (arith, keyed at, key-le run)) ∙ is_above-behind keyed run byte less)

pub is_above-within : {entries : Entries (ℕ × ℕ)} {last at : ℕ} {xs : List (ℕ × ℕ)} → AreKeyed entries → IsRun entries last at xs → (byte : ℕ) → byte ≤ entries.key last → is_above xs byte ≡ false
is_above-within {entries = entries} {last = last} keyed (here is eq) byte le = rw eq (is_above-not (entries.item last) [] byte (omega (arith, keyed last)))
is_above-within {entries = entries} {at = at} keyed (on {ys = ys} ne rises run eq) byte le =
    rw eq (elim (cases_order (entries.item at).0 byte) [
      | inl is ↦ is_above-not (entries.item at) ys byte (omega arith)
      | inr apart ↦ elim apart [
        | inl less ↦ is_above-more (entries.item at) ys byte less ∙ is_above-within keyed run byte le
        | inr more ↦ is_above-not (entries.item at) ys byte (omega arith)
      ]
    ])

-- between two others
pub run-between : {old new : Entries (ℕ × ℕ)} {count last place at : ℕ} {xs : List (ℕ × ℕ)} (byte next : ℕ) → AreKeyed old → ((i : ℕ) → i < count → old.link i < count)
    → ((i : ℕ) → i < count → (i ≢ place → new.link i ≡ old.link i) × (new.key i ≡ old.key i) × (new.item i ≡ old.item i))
    → last < count → place ≢ last → old.key place < byte → byte < old.key (old.link place)
    → new.link place ≡ count → new.link count ≡ old.link place → new.key count ≡ byte → new.item count ≡ (byte, next)
    → at < count → IsRun old last at xs → IsPassed old last place at → IsRun new last at (with_transition xs byte next)
run-between byte next keyed within same in_range other above below linked back of_byte of_item at_in (here is eq) (stop here_it) = absurd (other (sym here_it ∙ is))
run-between byte next keyed within same in_range other above below linked back of_byte of_item at_in (here is eq) (pass ne rises rest) = absurd (ne is)
run-between {old = old} {new = new} {count = count} {last = last} {place = place} {at = at} byte next keyed within same in_range other above below linked back of_byte of_item at_in (on {ys = ys} ne rises run eq) (stop is) =
    let there = within at at_in in
    let here_key = (same at at_in).1 in
    let there_key = (same (old.link at) there).1 in
    let to_new = ap new.link is ∙ linked in
    let from_new = back ∙ ap old.link (sym is) in
    let rest : IsRun new last (old.link at) ys = run-kept (λ (i : ℕ). (i < count) × (old.key place < old.key i))
    (λ i q. ((same i q.0).2, (same i q.0).1, λ _. (same i q.0).0 (λ e. omega (arith, q.1, ap old.key e))))
    (λ i q off less. (within i q.0, omega (arith, q.1))) (there, omega (arith, ap old.key is)) run in
    on ne (omega (arith, ap new.key to_new, ap old.key is))
    (subst (λ (n : ℕ). IsRun new last n ((byte, next) ∷ ys)) (sym to_new)
    (on (λ e. omega arith) (omega (arith, ap new.key from_new, ap (λ (n : ℕ). old.key (old.link n)) is))
    (subst (λ (n : ℕ). IsRun new last n ys) (sym from_new) rest)
    (ap (λ (x : ℕ × ℕ). x ∷ ys) (sym of_item))))
    (ap (λ (l : List (ℕ × ℕ)). with_transition l byte next) eq
    ∙ with_transition-more (old.item at) ys byte next (omega (arith, keyed at, ap old.key is))
    ∙ ap (λ (l : List (ℕ × ℕ)). old.item at ∷ l) (with_transition-before keyed run byte next (omega (arith, ap (λ (n : ℕ). old.key (old.link n)) is)))
    ∙ ap (λ (x : ℕ × ℕ). x ∷ (byte, next) ∷ ys) (sym (same at at_in).2))
run-between {old = old} {new = new} {count = count} {last = last} {place = place} {at = at} byte next keyed within same in_range other above below linked back of_byte of_item at_in (on {ys = ys} ne rises run eq) (pass off less rest) =
    let there = within at at_in in
    let here_key = (same at at_in).1 in
    let there_key = (same (old.link at) there).1 in
    let before = passed-le rest in
    let link = (same at at_in).0 (λ e. omega (arith, ap old.key e)) in
    on ne (omega (arith, ap new.key link))
    (subst (λ (n : ℕ). IsRun new last n (with_transition ys byte next)) (sym link)
    (run-between byte next keyed within same in_range other above below linked back of_byte of_item there run rest))
    (ap (λ (l : List (ℕ × ℕ)). with_transition l byte next) eq
    ∙ with_transition-more (old.item at) ys byte next (omega (arith, keyed at))
    ∙ ap (λ (x : ℕ × ℕ). x ∷ with_transition ys byte next) (sym (same at at_in).2))
