-- What it means that a layout is the automaton of some patterns, and the laws that follow.
use Rattle.std.proofs.Common.{◌≡◌, ◌⊎◌, ℕ, zero, suc, ◌+◌, ◌<◌, ◌≤◌, arith, true, false, inl, inr, List, [], ◌∷◌, ◌++◌, length, map, refl, sym, subst, ◌∙◌, ap, nat_eq, eqb-true, ne_eqb, get_or}
use Rattle.std.proofs.lemmas.Bool.{both_ways, cases_Bool, cond-true, cond-false, lt-ltb, le-ltb, ltb-false}
use Rattle.std.proofs.lemmas.List.Elements.{All-nil, All-push}
use Rattle.std.specs.Prelude.{Option, Some, None, is_none, is_some, nat_lt, ◌||◌, if◌then◌else◌}
use Rattle.std.specs.List.{All}
use Rattle.aho_core.specs.Bytes.{folded}
use Rattle.aho_core.specs.Held.{held_after}
use Rattle.aho_core.specs.Laws.{Reads}
use Rattle.aho_core.specs.MatchList.{matches_of}
use Rattle.aho_core.specs.Patterns.{Patterns}
use Rattle.aho_core.specs.Step.{depth_of, follow}
use Rattle.aho_core.specs.declared.search.Anchored.{Anchored}
use Rattle.aho_core.specs.declared.search.Anchored.TheVariants.{No, Yes}
use Rattle.aho_core.specs.declared.search.MatchKind.{MatchKind}
use Rattle.aho_laws.proofs.NamedStates.{reads_by_words}
use Rattle.aho_laws.proofs.StepLaw.{held_after-push}
use Rattle.aho_table.proofs.Classes.{class_of-count}
use Rattle.aho_table.specs.Alphabet.{class_of}
use Rattle.aho_hybrid.specs.Layout.{HasRow, IsDeep, Layout, IsSoundLayout, IsReached, IsStateIn, IsHeldIn, along, child_in, depth_below_rows, depth_of_state, entry_in, is_marked_number, is_row, is_special_number, link_in, list_from, list_in, list_place, looks_along, looks_in, lookups_in, next_state_in, run_from, standing_in, told_or, record_word}

-- after each word the state that is held lists what the word does, and is dead where it is; the start is held again only where
-- nothing of the word is left; it stands where the word's state does; the dead state lists nothing; and it is as deep as the word's
-- state
pub record IsLayoutOf (t : Layout) (p : Patterns) (kind : MatchKind) (lengths : List ℕ) : Type 0 where
  pub kind_is : kind ≡ p.kind
  pub lengths_are : lengths ≡ map length p.words
  pub lists : (word : List ℕ) → All (λ byte. byte < 256) word → list_in t (run_from t t.start word) ≡ matches_of p (held_after p No word)
  pub dies : (word : List ℕ) → All (λ byte. byte < 256) word → nat_eq (run_from t t.start word) 0 ≡ is_none (held_after p No word)
  pub begins : (word : List ℕ) → All (λ byte. byte < 256) word
      → nat_eq (run_from t t.start word) t.start ≡ true → held_after p No word ≡ Some []
  pub stands : (word : List ℕ) → All (λ byte. byte < 256) word → run_from t t.start word ≡ standing_in t (held_after p No word)
  pub none : list_in t 0 ≡ []
  pub deepness : (word : List ℕ) → All (λ byte. byte < 256) word
      → depth_of_state t (run_from t t.start word) ≡ depth_of (held_after p No word)

-- by its number a state has a row, or is deep
pub row-test : (t : Layout) (sid : ℕ) → HasRow t sid → is_row t sid ≡ true
row-test t sid row = lt-ltb sid (length t.rows) (omega (arith, row.within))

pub deep-test : (t : Layout) (sid : ℕ) → IsDeep t sid → is_row t sid ≡ false
deep-test t sid deep = le-ltb sid (length t.rows) deep.behind

pub row-depth : (t : Layout) (sid : ℕ) → HasRow t sid → depth_below_rows t sid ≡ 0
row-depth t sid row = cond-true (is_row t sid) 0 (record_word t sid 2) (row-test t sid row)

pub state-cases : (t : Layout) (sid : ℕ) → IsStateIn t sid → HasRow t sid ⊎ IsDeep t sid
state-cases t sid state =
    elim (cases_Bool (is_row t sid)) [
      | inl row ↦ inl (state.with_row row)
      | inr deep ↦ inr (state.without_row deep)
    ]

pub state-of_row : (t : Layout) (sid : ℕ) → HasRow t sid → IsStateIn t sid
state-of_row t sid row = record { with_row = λ e. row; without_row = λ e. absurd (both_ways (is_row t sid) e (row-test t sid row)) }

pub state-of_deep : (t : Layout) (sid : ℕ) → IsDeep t sid → IsStateIn t sid
state-of_deep t sid deep = record { with_row = λ e. absurd (both_ways (is_row t sid) (deep-test t sid deep) e); without_row = λ e. deep }

-- a step from a state with a row, and from a deep one
pub along-row : (t : Layout) (byte left sid : ℕ) → is_row t sid ≡ true → 0 < left
    → (along t byte left sid ≡ entry_in t sid byte) × (looks_along t byte left sid ≡ 1)
along-row t byte zero sid row some = absurd (omega arith)
along-row t byte (suc left) sid row some =
    (cond-true (is_row t sid) _ _ row, ap (λ b. 1 + (if b || is_some (child_in t sid byte) then 0 else looks_along t byte left (link_in t sid))) row)

pub along-child : (t : Layout) (byte left sid next : ℕ) → is_row t sid ≡ false → child_in t sid byte ≡ Some next
    → 0 < left → (along t byte left sid ≡ next) × (looks_along t byte left sid ≡ 1)
along-child t byte zero sid next deep child some = absurd (omega arith)
along-child t byte (suc left) sid next deep child some = (
  cond-false (is_row t sid) _ _ deep ∙ ap (λ o. told_or o (along t byte left (link_in t sid))) child,
  ap (λ b. 1 + (if b || is_some (child_in t sid byte) then 0 else looks_along t byte left (link_in t sid))) deep
      ∙ ap (λ o. 1 + (if is_some o then 0 else looks_along t byte left (link_in t sid))) child,
)

pub along-link : (t : Layout) (byte left sid : ℕ) → is_row t sid ≡ false → child_in t sid byte ≡ None
    → (along t byte (suc left) sid ≡ along t byte left (link_in t sid)) × (looks_along t byte (suc left) sid ≡ 1 + looks_along t byte left (link_in t sid))
along-link t byte left sid deep child = (
  cond-false (is_row t sid) _ _ deep ∙ ap (λ o. told_or o (along t byte left (link_in t sid))) child,
  ap (λ b. 1 + (if b || is_some (child_in t sid byte) then 0 else looks_along t byte left (link_in t sid))) deep
      ∙ ap (λ o. 1 + (if is_some o then 0 else looks_along t byte left (link_in t sid))) child,
)

module _ (t : Layout) (sound : IsSoundLayout t) where
  -- one byte more
  pub run-push : (sid : ℕ) (word : List ℕ) (byte : ℕ) → run_from t sid (word ++ byte ∷ []) ≡ next_state_in t (run_from t sid word) byte
  run-push sid [] byte = refl
  run-push sid (x ∷ word) byte = run-push (next_state_in t sid x) word byte

  -- what a step along the links is to keep
  abbrev IsPaidAlong : ℕ → ℕ → ℕ → Type 0
  IsPaidAlong byte left sid = IsStateIn t (along t byte left sid) × (looks_along t byte left sid + depth_below_rows t (along t byte left sid) ≤ depth_below_rows t sid + 2)

  paid-step : (byte left sid : ℕ) → byte < 256 → depth_below_rows t sid < left + 1
      → HasRow t sid ⊎ IsDeep t sid → (o : Option ℕ) → child_in t sid byte ≡ o
      → ((next : ℕ) → depth_below_rows t next < left → IsStateIn t next → IsPaidAlong byte left next) → IsPaidAlong byte (suc left) sid
  paid-step byte left sid small less (inl row) o child rest =
      let class = class_of-count t.classes byte in
      let led = along-row t byte (suc left) sid (row-test t sid row) (omega arith) in (
        subst (IsStateIn t) (sym led.0) (sound.in_rows.next sid (class_of t.classes byte) row class),
        omega (arith, led.1, ap (depth_below_rows t) led.0, sound.in_rows.near sid (class_of t.classes byte) row class),
      )
  paid-step byte left sid small less (inr deep) (Some next) child rest =
      let led = along-child t byte (suc left) sid next (deep-test t sid deep) child (omega arith) in
      let is = sound.in_deep.next sid byte next deep small child in
      (subst (IsStateIn t) (sym led.0) is.0, omega (arith, led.1, ap (depth_below_rows t) led.0, is.1))
  paid-step byte left sid small less (inr deep) None child rest =
      let led = along-link t byte left sid (deep-test t sid deep) child in
      let is = sound.in_deep.link sid byte deep small child in
      let further = rest (link_in t sid) (omega (arith, is.1, less)) is.0 in
      (subst (IsStateIn t) (sym led.0) further.0, omega (arith, led.1, ap (depth_below_rows t) led.0, further.1, is.1))

  -- along the links a byte leads from state to state, and what is looked at is paid by what the state is deeper than that
  pub along-paid : (byte left sid : ℕ) → byte < 256 → depth_below_rows t sid < left → IsStateIn t sid → IsPaidAlong byte left sid
  along-paid byte zero sid small less state = absurd (omega (arith, less))
  along-paid byte (suc left) sid small less state =
      paid-step byte left sid small (omega (arith, less)) (state-cases t sid state) (child_in t sid byte) refl (λ next near is. along-paid byte left next small near is)

  -- with more states than may be looked at the step is the same
  abbrev AreAlike : ℕ → ℕ → ℕ → ℕ → Type 0
  AreAlike byte left other sid =
      (along t byte left sid ≡ along t byte other sid) × (looks_along t byte left sid ≡ looks_along t byte other sid)

  alike-step : (byte left other sid : ℕ) → byte < 256 → depth_below_rows t sid < left + 1
      → depth_below_rows t sid < other + 1 → HasRow t sid ⊎ IsDeep t sid → (o : Option ℕ) → child_in t sid byte ≡ o
      → ((next : ℕ) → depth_below_rows t next < left → depth_below_rows t next < other → IsStateIn t next → AreAlike byte left other next)
      → AreAlike byte (suc left) (suc other) sid
  alike-step byte left other sid small less more (inl row) o child rest =
      let one = along-row t byte (suc left) sid (row-test t sid row) (omega arith) in
      let two = along-row t byte (suc other) sid (row-test t sid row) (omega arith) in
      (one.0 ∙ sym two.0, one.1 ∙ sym two.1)
  alike-step byte left other sid small less more (inr deep) (Some next) child rest =
      let one = along-child t byte (suc left) sid next (deep-test t sid deep) child (omega arith) in
      let two = along-child t byte (suc other) sid next (deep-test t sid deep) child (omega arith) in
      (one.0 ∙ sym two.0, one.1 ∙ sym two.1)
  alike-step byte left other sid small less more (inr deep) None child rest =
      let one = along-link t byte left sid (deep-test t sid deep) child in
      let two = along-link t byte other sid (deep-test t sid deep) child in
      let is = sound.in_deep.link sid byte deep small child in
      let further = rest (link_in t sid) (omega (arith, is.1, less)) (omega (arith, is.1, more)) is.0 in
      (one.0 ∙ further.0 ∙ sym two.0, one.1 ∙ ap (λ (n : ℕ). 1 + n) further.1 ∙ sym two.1)

  along-alike : (byte left other sid : ℕ) → byte < 256 → depth_below_rows t sid < left
      → depth_below_rows t sid < other → IsStateIn t sid → AreAlike byte left other sid
  along-alike byte zero other sid small less more state = absurd (omega (arith, less))
  along-alike byte (suc left) zero sid small less more state = absurd (omega (arith, more))
  along-alike byte (suc left) (suc other) sid small less more state =
      alike-step byte left other sid small (omega (arith, less)) (omega (arith, more)) (state-cases t sid state) (child_in t sid byte) refl
      (λ next near nearer is. along-alike byte left other next small near nearer is)

  -- one link down
  pub linked-step : (sid byte : ℕ) → byte < 256 → IsDeep t sid → child_in t sid byte ≡ None
      → (next_state_in t sid byte ≡ next_state_in t (link_in t sid) byte) × (looks_in t sid byte ≡ 1 + looks_in t (link_in t sid) byte)
  linked-step sid byte small deep child =
      let led = along-link t byte (depth_below_rows t sid) sid (deep-test t sid deep) child in
      let is = sound.in_deep.link sid byte deep small child in
      let alike = along-alike byte (depth_below_rows t sid) (depth_below_rows t (link_in t sid) + 1) (link_in t sid) small (omega (arith, is.1)) (omega arith) is.0 in
      (fuel ∙ led.0 ∙ alike.0, looks_fuel ∙ led.1 ∙ ap (λ (n : ℕ). 1 + n) alike.1)
    where
      one_more : depth_below_rows t sid + 1 ≡ suc (depth_below_rows t sid)
      one_more = omega arith

      fuel : next_state_in t sid byte ≡ along t byte (suc (depth_below_rows t sid)) sid
      fuel = ap (λ (n : ℕ). along t byte n sid) one_more

      looks_fuel : looks_in t sid byte ≡ looks_along t byte (suc (depth_below_rows t sid)) sid
      looks_fuel = ap (λ (n : ℕ). looks_along t byte n sid) one_more

  -- a byte leads from state to state
  pub next-state : (sid byte : ℕ) → byte < 256 → IsStateIn t sid → IsStateIn t (next_state_in t sid byte)
  next-state sid byte small state = (along-paid byte (depth_below_rows t sid + 1) sid small (omega arith) state).0

  pub next-paid : (sid byte : ℕ) → byte < 256 → IsStateIn t sid
      → looks_in t sid byte + depth_below_rows t (next_state_in t sid byte) ≤ depth_below_rows t sid + 2
  next-paid sid byte small state = (along-paid byte (depth_below_rows t sid + 1) sid small (omega arith) state).1

  -- from a dead state it leads to a dead state again
  pub dead-next : (sid byte : ℕ) → nat_eq sid 0 ≡ true → nat_eq (next_state_in t sid byte) 0 ≡ true
  dead-next sid byte dead =
      let zero_is : sid ≡ 0 = eqb-true sid 0 dead in
      let led = along-row t byte (depth_below_rows t 0 + 1) 0 (row-test t 0 sound.in_rows.dead) (omega arith) in
      ap (λ (n : ℕ). nat_eq (next_state_in t n byte) 0) zero_is
      ∙ ap (λ (n : ℕ). nat_eq n 0) (led.0 ∙ ap (λ (n : ℕ). get_or t.rows n 0) (first (class_of t.classes byte)) ∙ sound.in_rows.dead_stays (class_of t.classes byte) (class_of-count t.classes byte))
    where
      first : (class : ℕ) → 0 + class ≡ class
      first class = omega arith

  module _ (p : Patterns) (kind : MatchKind) (lengths : List ℕ) (of : IsLayoutOf t p kind lengths) where
    -- the held state is the one to which the bytes lead that reach it
    held-run : (word : List ℕ) (sid : ℕ) (reached : IsReached p word)
        → sid ≡ standing_in t (held_after p No word) → sid ≡ run_from t t.start reached.0
    held-run word sid (bytes, small, same) is = is ∙ ap (standing_in t) (sym same) ∙ sym (of.stands bytes small)

    -- a state that follows the held one is held after one more byte
    pub held-next : (anchored : Anchored) (word : List ℕ) (sid byte next : ℕ) → byte < 256
        → next ≡ next_state_in t sid byte → IsHeldIn t p anchored word sid → IsHeldIn t p anchored (word ++ byte ∷ []) next
    held-next No word sid byte next small is ((bytes, all_small, same), stands) =
        let longer = All-push (λ (b : ℕ). b < 256) bytes byte all_small small in
        let reached : held_after p No (bytes ++ byte ∷ []) ≡ held_after p No (word ++ byte ∷ []) =
        held_after-push p No bytes byte ∙ ap (λ (o : Option (List ℕ)). follow p No o (folded p byte)) same ∙ sym (held_after-push p No word byte) in (
          (bytes ++ byte ∷ [], longer, reached),
          is ∙ ap (λ (n : ℕ). next_state_in t n byte) (held-run word sid (bytes, all_small, same) stands) ∙ sym (run-push t.start bytes byte)
              ∙ of.stands (bytes ++ byte ∷ []) longer ∙ ap (standing_in t) reached,
        )
    held-next Yes word sid byte next small is held = absurd held

    lists : (anchored : Anchored) (word : List ℕ) (sid : ℕ) → IsHeldIn t p anchored word sid
        → list_in t sid ≡ matches_of p (held_after p anchored word)
    lists No word sid (reached, is) = ap (list_in t) (held-run word sid reached is) ∙ of.lists reached.0 reached.1 ∙ ap (matches_of p) reached.2
    lists Yes word sid held = absurd held

    dies : (anchored : Anchored) (word : List ℕ) (sid : ℕ) → IsHeldIn t p anchored word sid
        → nat_eq sid 0 ≡ is_none (held_after p anchored word)
    dies No word sid (reached, is) =
        ap (λ (n : ℕ). nat_eq n 0) (held-run word sid reached is) ∙ of.dies reached.0 reached.1 ∙ ap is_none reached.2
    dies Yes word sid held = absurd held

    none : (sid : ℕ) → nat_eq sid 0 ≡ true → list_in t sid ≡ []
    none sid dead = ap (list_in t) (eqb-true sid 0 dead) ∙ of.none

    begun : (word : List ℕ) (sid : ℕ) → IsHeldIn t p No word sid → nat_eq sid t.start ≡ true
        → IsHeldIn t p No [] sid × (held_after p No word ≡ Some [])
    begun word sid (reached, is) first = (
      (([], All-nil (λ (b : ℕ). b < 256), refl), eqb-true sid t.start first),
      sym reached.2 ∙ of.begins reached.0 reached.1 (sym (ap (λ (n : ℕ). nat_eq n t.start) (held-run word sid reached is)) ∙ first),
    )

    -- the held state is as deep as the word's
    pub reaches_in : (word : List ℕ) (sid : ℕ) → IsHeldIn t p No word sid → depth_of_state t sid ≡ depth_of (held_after p No word)
    reaches_in word sid (reached, is) =
        ap (depth_of_state t) (held-run word sid reached is) ∙ of.deepness reached.0 reached.1 ∙ ap depth_of reached.2

    -- the states that may be held have the laws of an automaton
    pub reads_of : Reads p kind lengths (IsHeldIn t p) (list_in t) (λ sid. nat_eq sid 0) (λ sid. nat_eq sid t.start)
    reads_of = reads_by_words p kind lengths (IsHeldIn t p) (list_in t) (λ sid. nat_eq sid 0) (λ sid. nat_eq sid t.start) of.kind_is of.lengths_are lists dies none begun

  -- a state that is held after some bytes is held after any others that lead to the same state of the words
  pub alike_of : (p : Patterns) (word other : List ℕ) (sid : ℕ) → IsHeldIn t p No word sid
      → held_after p No other ≡ held_after p No word → IsHeldIn t p No other sid
  alike_of p word other sid ((bytes, small, reached), is) same = ((bytes, small, reached ∙ sym same), is ∙ ap (standing_in t) (sym same))

  -- the look-ups of the held state's step are those of the word's
  pub held-looks : (p : Patterns) (anchored : Anchored) (word : List ℕ) (sid byte : ℕ)
      → IsHeldIn t p anchored word sid → looks_in t sid byte ≡ lookups_in t p word byte
  held-looks p No word sid byte held = ap (λ (n : ℕ). looks_in t n byte) held.1
  held-looks p Yes word sid byte held = absurd held

  -- a state that is not marked is not dead, and lists nothing
  pub unmarked_of : (sid : ℕ) → is_marked_number t sid ≡ false → (nat_eq sid 0 ≡ false) × (list_in t sid ≡ [])
  unmarked_of sid high = (
    ne_eqb sid 0
        (λ e.
        both_ways (is_marked_number t sid) high
        (ap (is_marked_number t) e ∙ cond-true (is_row t 0) (nat_lt 0 t.list_low) (nat_lt 0 t.deep_low) (row-test t 0 sound.in_rows.dead) ∙ lt-ltb 0 t.list_low sound.in_rows.dead_marked)),
    cond-false (is_marked_number t sid) (list_from t.lists (list_place t sid)) [] high,
  )

  -- nor is one that is not special
  plain-unmarked : (sid : ℕ) → is_special_number t sid ≡ false → is_marked_number t sid ≡ false
  plain-unmarked sid high =
      elim (cases_Bool (is_row t sid)) [
        | inl row ↦
            let past : nat_lt sid t.low ≡ false = sym (cond-true (is_row t sid) (nat_lt sid t.low) (nat_lt sid t.deep_low) row) ∙ high in
            cond-true (is_row t sid) (nat_lt sid t.list_low) (nat_lt sid t.deep_low) row
            ∙ le-ltb sid t.list_low (omega (arith, sound.in_rows.marked_special, ltb-false sid t.low past))
        | inr deep ↦
            cond-false (is_row t sid) (nat_lt sid t.list_low) (nat_lt sid t.deep_low) deep
            ∙ sym (cond-false (is_row t sid) (nat_lt sid t.low) (nat_lt sid t.deep_low) deep) ∙ high
      ]

  pub plain_of : (sid : ℕ) → is_special_number t sid ≡ false → (nat_eq sid 0 ≡ false) × (list_in t sid ≡ [])
  plain_of sid high = unmarked_of sid (plain-unmarked sid high)

  -- a dead state and the start have rows
  pub dead_shallow_of : (sid : ℕ) → nat_eq sid 0 ≡ true → depth_below_rows t sid ≡ 0
  dead_shallow_of sid dead = ap (depth_below_rows t) (eqb-true sid 0 dead) ∙ row-depth t 0 sound.in_rows.dead

  pub starts_shallow_of : (sid : ℕ) → nat_eq sid t.start ≡ true → depth_below_rows t sid ≡ 0
  starts_shallow_of sid first = ap (depth_below_rows t) (eqb-true sid t.start first) ∙ row-depth t t.start sound.in_rows.start
