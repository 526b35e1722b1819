-- Entries that lie side by side: a list among them is read by index.
use Rattle.std.proofs.Common.{◌≡◌, ℕ, zero, suc, ◌+◌, ◌-◌, ◌<◌, ◌≤◌, ◌≢◌, Bool, true, List, length, get_or, sym, ap, subst, ◌∙◌, inl, inr, arith}
use Rattle.std.proofs.lemmas.Bool.{cases_eq, cases_lt}
use Rattle.aho_table.specs.Rings.{Entries, IsRun, here, on, IsPassed, stop, pass, AreRings, AreSideBySide, IsBesideBehind}
use Rattle.aho_table.proofs.Runs.{run-next, run-from}

-- a list has no more entries than keys from its first to its last
pub run-length : {X : Type 0} {entries : Entries X} {last at : ℕ} {xs : List X} → IsRun entries last at xs → entries.key at + length xs ≤ entries.key last + 1
run-length {entries = entries} (here is eq) = omega (arith, ap entries.key is, ap length eq)
run-length (on ne less run eq) = omega (arith, run-length run, ap length eq)

module _ {X : Type 0} {entries : Entries X} {count beside last : ℕ} (side : AreSideBySide entries count beside) (below : last < beside) where
  -- as many steps along the links are as many places
  pub run-passed : (steps at : ℕ) {xs : List X} → IsRun entries last at xs → at + steps ≤ last → IsPassed entries last (at + steps) at
  run-passed zero at run within = stop (omega arith)
  run-passed (suc steps) at run within =
      let next = run-next run (λ e. omega arith) in
      let link : entries.link at ≡ at + 1 = side.linked at (omega arith) next.1 in
      let rest : IsPassed entries last (at + 1 + steps) (at + 1) = run-passed steps (at + 1) (subst (λ (n : ℕ). IsRun entries last n next.0) link next.2) (omega arith) in
      let there : at + 1 + steps ≡ at + suc steps = omega arith in
      pass (λ e. omega arith) next.1 (subst (λ (n : ℕ). IsPassed entries last n (entries.link at)) there (subst (λ (n : ℕ). IsPassed entries last (at + 1 + steps) n) (sym link) rest))

  -- and the key rises by that many at least
  pub key-low : (steps at : ℕ) {xs : List X} → IsRun entries last at xs → at + steps ≤ last → entries.key at + steps ≤ entries.key (at + steps)
  key-low zero at run within =
      let there : at + 0 ≡ at = omega arith in
      omega (arith, ap entries.key there)
  key-low (suc steps) at run within =
      let next = run-next run (λ e. omega arith) in
      let link : entries.link at ≡ at + 1 = side.linked at (omega arith) next.1 in
      let low = key-low steps (at + 1) (subst (λ (n : ℕ). IsRun entries last n next.0) link next.2) (omega arith) in
      let there : at + 1 + steps ≡ at + suc steps = omega arith in
      let less = next.1 in
      omega (arith, ap entries.key link, ap entries.key there)

  -- so there are the keys of all bytes where there are places for so many
  pub key-full : {at : ℕ} {xs : List X} → IsRun entries last at xs → at + 255 ≡ last → entries.key last ≤ 255 → (byte : ℕ) → byte ≤ 255 → entries.key (at + byte) ≡ byte
  key-full {at = at} run full most byte small =
      let low = key-low byte at run (omega arith) in
      let rest = run-from run (run-passed byte at run (omega arith)) in
      let high = key-low (255 - byte) (at + byte) rest.1 (omega arith) in
      let there : at + byte + (255 - byte) ≡ last = omega arith in
      omega (arith, ap entries.key there)

  -- the items are those of the places
  pub run-item : {at : ℕ} {xs : List X} → IsRun entries last at xs → at ≤ last → (d : X) (index : ℕ) → index < length xs → get_or xs index d ≡ entries.item (at + index)
  run-item {at = at} (here is eq) within d zero inside =
      let there : at + 0 ≡ at = omega arith in
      ap (λ (l : List X). get_or l 0 d) eq ∙ ap entries.item (sym is ∙ sym there)
  run-item (here is eq) within d (suc index) inside = absurd (omega (arith, ap length eq))
  run-item {at = at} (on ne less run eq) within d zero inside =
      let there : at + 0 ≡ at = omega arith in
      ap (λ (l : List X). get_or l 0 d) eq ∙ ap entries.item (sym there)
  run-item {at = at} (on {ys = ys} ne less run eq) within d (suc index) inside =
      let link : entries.link at ≡ at + 1 = side.linked at (omega (arith, ne)) less in
      let there : entries.link at + index ≡ at + suc index = omega arith in
      ap (λ (l : List X). get_or l (suc index) d) eq ∙ run-item run (omega (arith, ne)) d index (omega (arith, ap length eq)) ∙ ap entries.item there

  pub run-count : {at : ℕ} {xs : List X} → IsRun entries last at xs → at ≤ last → length xs + at ≡ last + 1
  run-count (here is eq) within = omega (arith, ap length eq)
  run-count {at = at} (on {ys = ys} ne less run eq) within =
      let link : entries.link at ≡ at + 1 = side.linked at (omega (arith, ne)) less in
      let rest = run-count run (omega (arith, ne)) in
      omega (arith, ap length eq)

-- ---- in a changed vector

module _ {X : Type 0} (old new : Entries X) (count place beside : ℕ) (rings : AreRings old count) (side : AreSideBySide old count beside)
    (keys : (i : ℕ) → i < count → new.key i ≡ old.key i) (links : (i : ℕ) → i < count → i ≢ place → new.link i ≡ old.link i) where
  linked-still : (i : ℕ) → i < beside → i ≢ place → new.key i < new.key (new.link i) → new.link i ≡ i + 1
  linked-still i below ne less =
      let within = side.within in
      let link = links i (omega arith) ne in
      let key = keys i (omega arith) in
      let key' = keys (old.link i) (rings.within i (omega arith)) in
      link ∙ side.linked i below (omega (arith, ap new.key link))

  -- every link of an entry that there was stays
  pub AreSideBySide-kept : (more : ℕ) → count ≤ more → (place < count → new.link place ≡ old.link place) → AreSideBySide new more beside
  AreSideBySide-kept more longer same = record {
    within = let within = side.within in omega arith;
    linked = λ i below less.
        elim (cases_eq i place) [
          | inl is ↦
              let within = side.within in
              let link : new.link i ≡ old.link i = ap new.link is ∙ same (omega arith) ∙ ap old.link (sym is) in
              let key = keys i (omega arith) in
              let key' = keys (old.link i) (rings.within i (omega arith)) in
              link ∙ side.linked i below (omega (arith, ap new.key link))
          | inr ne ↦ linked-still i below ne less
        ];
  }

  -- one entry more stands at the end, which links to no greater key, and the last place links to it
  pub AreSideBySide-longer : beside ≡ count → (place < count → (place + 1 ≡ count) × (new.link place ≡ count)) → new.key (new.link count) ≤ new.key count → AreSideBySide new (count + 1) (count + 1)
  AreSideBySide-longer all to ends = record {
    within = omega arith;
    linked = λ i below less.
        elim (cases_lt i count) [
          | inl inside ↦ elim (cases_eq i place) [
            | inl is ↦
                let there = to (omega arith) in
                ap new.link is ∙ there.1 ∙ omega (arith, there.0)
            | inr ne ↦ linked-still i (omega arith) ne less
          ]
          | inr past ↦
              let here : i ≡ count = omega arith in
              absurd (omega (arith, ap new.key here, ap (λ (n : ℕ). new.key (new.link n)) here))
        ];
  }

  pub AreSideBySide-behind : (list now : ℕ) (above : Bool) → place < count → new.link place ≡ count → (above ≡ true → place ≡ list → new.key (new.link count) ≤ new.key count)
      → IsBesideBehind beside list place count above now → AreSideBySide new (count + 1) now
  AreSideBySide-behind list now above inside to ends is =
      elim is [
        | inl cut ↦ record {
          within = let within = side.within in let fewer = cut.0 in omega arith;
          linked = λ i below less. let fewer = cut.0 in let before = cut.1 in linked-still i (omega arith) (λ e. omega arith) less;
        }
        | inr longer ↦ subst (λ (n : ℕ). AreSideBySide new (count + 1) n) (sym longer.4) (AreSideBySide-longer longer.2 (λ below. (longer.3, to)) (ends longer.0 longer.1))
      ]
