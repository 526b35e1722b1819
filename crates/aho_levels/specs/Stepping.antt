-- Where a step leads, and what it costs: by the layout alone.
use Rattle.std.proofs.Common.{◌≡◌, ◌⊎◌, ℕ, zero, suc, ◌+◌, ◌<◌, ◌≤◌, arith, true, false, inl, inr, length, refl, sym, subst, ◌∙◌, ap, nat_eq, eqb-true}
use Rattle.std.proofs.lemmas.Bool.{cases_Bool, cond-true, cond-false, lt-ltb, ltb-true, ltb-false}
use Rattle.std.specs.Prelude.{Option, Some, None, is_some, ◌||◌, if◌then◌else◌}
use Rattle.aho_core.specs.declared.search.Anchored.{Anchored}
use Rattle.aho_core.specs.declared.search.Anchored.TheVariants.{No, Yes}
use Rattle.aho_levels.specs.Layout.{CanStepThrough, IsStateNumber, StateTables, along_links, child_by, depth_at, row_entry_at, is_row_state, link_at, looks_on_links, looks_of_step, next_at, told_else}

-- from a state with a row, by a child, and along a link
pub along-row : (left : ℕ) (t : StateTables) (byte sid : ℕ) → is_row_state t sid ≡ true → 0 < left
    → (along_links left t byte sid ≡ row_entry_at t sid byte) × (looks_on_links left t byte sid ≡ 1)
along-row zero t byte sid row some = absurd (omega (arith, some))
along-row (suc left) t byte sid row some =
    (cond-true (is_row_state t sid) _ _ row, ap (λ b. 1 + (if b || is_some (child_by t sid byte) then 0 else looks_on_links left t byte (link_at t sid))) row)

pub along-child : (left : ℕ) (t : StateTables) (byte sid next : ℕ) → is_row_state t sid ≡ false
    → child_by t sid byte ≡ Some next → 0 < left → (along_links left t byte sid ≡ next) × (looks_on_links left t byte sid ≡ 1)
along-child zero t byte sid next deep child some = absurd (omega (arith, some))
along-child (suc left) t byte sid next deep child some = (
  cond-false (is_row_state t sid) _ _ deep ∙ ap (λ o. told_else o (along_links left t byte (link_at t sid))) child,
  ap (λ b. 1 + (if b || is_some (child_by t sid byte) then 0 else looks_on_links left t byte (link_at t sid))) deep
      ∙ ap (λ o. 1 + (if is_some o then 0 else looks_on_links left t byte (link_at t sid))) child,
)

pub along-link : (left : ℕ) (t : StateTables) (byte sid : ℕ) → is_row_state t sid ≡ false → child_by t sid byte ≡ None
    → (along_links (suc left) t byte sid ≡ along_links left t byte (link_at t sid)) × (looks_on_links (suc left) t byte sid ≡ 1 + looks_on_links left t byte (link_at t sid))
along-link left t byte sid deep child = (
  cond-false (is_row_state t sid) _ _ deep ∙ ap (λ o. told_else o (along_links left t byte (link_at t sid))) child,
  ap (λ b. 1 + (if b || is_some (child_by t sid byte) then 0 else looks_on_links left t byte (link_at t sid))) deep
      ∙ ap (λ o. 1 + (if is_some o then 0 else looks_on_links left t byte (link_at t sid))) child,
)

module _ (t : StateTables) (can : CanStepThrough t) where
  -- what a step along the links is to keep
  abbrev IsPaidAlong : ℕ → ℕ → ℕ → Type 0
  IsPaidAlong left byte sid = IsStateNumber t (along_links left t byte sid) × (looks_on_links left t byte sid + depth_at t (along_links left t byte sid) ≤ depth_at t sid + 2)

  is-state : (sid : ℕ) → sid < length t.fails → IsStateNumber t sid
  is-state sid there = omega (arith, there, can.sized.some_links)

  paid-step : (left byte sid : ℕ) → byte < 256 → sid < left + 1 → sid < length t.fails
      → (is_row_state t sid ≡ true) ⊎ (is_row_state t sid ≡ false) → (o : Option ℕ) → child_by t sid byte ≡ o
      → ((next : ℕ) → next < left → next < length t.fails → IsPaidAlong left byte next) → IsPaidAlong (suc left) byte sid
  paid-step left byte sid small less there (inl row) o child rest =
      let led = along-row (suc left) t byte sid row (omega arith) in
      let at = ltb-true sid t.row_count row in (
        subst (IsStateNumber t) (sym led.0) (can.walkable.entry sid byte at small),
        omega (arith, led.1, ap (depth_at t) led.0, can.walkable.entry_near sid byte at small),
      )
  paid-step left byte sid small less there (inr deep) (Some next) child rest =
      let led = along-child (suc left) t byte sid next deep child (omega arith) in (
        subst (IsStateNumber t) (sym led.0) (can.children.state sid _ next (is-state sid there) child),
        omega (arith, led.1, ap (depth_at t) led.0, can.children.deeper sid _ next (is-state sid there) child),
      )
  paid-step left byte sid small less there (inr deep) None child rest =
      let led = along-link left t byte sid deep child in
      let past = ltb-false sid t.row_count deep in
      let before = can.walkable.link sid past there in
      let further = rest (link_at t sid) (omega (arith, before, less)) (omega (arith, before, there)) in
      (subst (IsStateNumber t) (sym led.0) further.0, omega (arith, led.1, ap (depth_at t) led.0, further.1, can.walkable.link_nearer sid past there))

  -- down the links a byte leads from state to state, and what is looked at is paid by what the state is deeper than that
  pub along-paid : (left byte sid : ℕ) → byte < 256 → sid < left → sid < length t.fails → IsPaidAlong left byte sid
  along-paid zero byte sid small less there = absurd (omega (arith, less))
  along-paid (suc left) byte sid small less there =
      paid-step left byte sid small (omega (arith, less)) there (cases_Bool (is_row_state t sid)) (child_by t sid byte) refl (λ next near is. along-paid left byte next small near is)

  -- with more states than may be looked at the step is the same
  abbrev AreAlike : ℕ → ℕ → ℕ → ℕ → Type 0
  AreAlike left other byte sid = (along_links left t byte sid ≡ along_links other t byte sid) × (looks_on_links left t byte sid ≡ looks_on_links other t byte sid)

  alike-step : (left other byte sid : ℕ) → sid < left + 1 → sid < other + 1 → sid < length t.fails
      → (is_row_state t sid ≡ true) ⊎ (is_row_state t sid ≡ false) → (o : Option ℕ) → child_by t sid byte ≡ o
      → ((next : ℕ) → next < left → next < other → next < length t.fails → AreAlike left other byte next)
      → AreAlike (suc left) (suc other) byte sid
  alike-step left other byte sid less more there (inl row) o child rest =
      let one = along-row (suc left) t byte sid row (omega arith) in
      let two = along-row (suc other) t byte sid row (omega arith) in
      (one.0 ∙ sym two.0, one.1 ∙ sym two.1)
  alike-step left other byte sid less more there (inr deep) (Some next) child rest =
      let one = along-child (suc left) t byte sid next deep child (omega arith) in
      let two = along-child (suc other) t byte sid next deep child (omega arith) in
      (one.0 ∙ sym two.0, one.1 ∙ sym two.1)
  alike-step left other byte sid less more there (inr deep) None child rest =
      let one = along-link left t byte sid deep child in
      let two = along-link other t byte sid deep child in
      let before = can.walkable.link sid (ltb-false sid t.row_count deep) there in
      let further = rest (link_at t sid) (omega (arith, before, less)) (omega (arith, before, more)) (omega (arith, before, there)) in
      (one.0 ∙ further.0 ∙ sym two.0, one.1 ∙ ap (λ (n : ℕ). 1 + n) further.1 ∙ sym two.1)

  along-alike : (left other byte sid : ℕ) → sid < left → sid < other → sid < length t.fails → AreAlike left other byte sid
  along-alike zero other byte sid less more there = absurd (omega (arith, less))
  along-alike (suc left) zero byte sid less more there = absurd (omega (arith, more))
  along-alike (suc left) (suc other) byte sid less more there =
      alike-step left other byte sid (omega (arith, less)) (omega (arith, more)) there (cases_Bool (is_row_state t sid)) (child_by t sid byte) refl
      (λ next near nearer is. along-alike left other byte next near nearer is)

  -- one link down
  pub linked-step : (sid byte : ℕ) → is_row_state t sid ≡ false → sid < length t.fails → child_by t sid byte ≡ None
      → (next_at t No sid byte ≡ next_at t No (link_at t sid) byte) × (looks_of_step t No sid byte ≡ 1 + looks_of_step t No (link_at t sid) byte)
  linked-step sid byte deep there child =
      let led = along-link sid t byte sid deep child in
      let before = can.walkable.link sid (ltb-false sid t.row_count deep) there in
      let alike = along-alike sid (link_at t sid + 1) byte (link_at t sid) before (omega arith) (omega (arith, before, there)) in
      (fuel ∙ led.0 ∙ alike.0, looks_fuel ∙ led.1 ∙ ap (λ (n : ℕ). 1 + n) alike.1)
    where
      one_more : sid + 1 ≡ suc sid
      one_more = omega arith

      fuel : next_at t No sid byte ≡ along_links (suc sid) t byte sid
      fuel = ap (λ (n : ℕ). along_links n t byte sid) one_more

      looks_fuel : looks_of_step t No sid byte ≡ looks_on_links (suc sid) t byte sid
      looks_fuel = ap (λ (n : ℕ). looks_on_links n t byte sid) one_more

  -- a byte leads from state to state, under either anchoring, and its look-ups are paid
  told-state : (sid byte : ℕ) → IsStateNumber t sid → (o : Option ℕ) → child_by t sid byte ≡ o
      → IsStateNumber t (told_else o 0) × (1 + depth_at t (told_else o 0) ≤ depth_at t sid + 2)
  told-state sid byte is None child = (omega (arith, can.sized.two), omega (arith, can.children.dead_depth))
  told-state sid byte is (Some next) child =
      (can.children.state sid _ next is child, omega (arith, can.children.deeper sid _ next is child))

  pub next-paid : (anchored : Anchored) (sid byte : ℕ) → byte < 256 → sid < length t.fails
      → IsStateNumber t (next_at t anchored sid byte) × (looks_of_step t anchored sid byte + depth_at t (next_at t anchored sid byte) ≤ depth_at t sid + 2)
  next-paid No sid byte small there = along-paid (sid + 1) byte sid small (omega arith) there
  next-paid Yes sid byte small there = told-state sid byte (is-state sid there) (child_by t sid byte) refl

  -- from a dead state it leads to a dead state again
  pub dead-next : (anchored : Anchored) (sid byte : ℕ) → byte < 256 → nat_eq sid 0 ≡ true → nat_eq (next_at t anchored sid byte) 0 ≡ true
  dead-next anchored sid byte small dead = ap (λ (n : ℕ). nat_eq (next_at t anchored n byte) 0) (eqb-true sid 0 dead) ∙ from_dead anchored
    where
      first : is_row_state t 0 ≡ true
      first = lt-ltb 0 t.row_count (omega (arith, can.sized.with_rows))

      from_dead : (anchored : Anchored) → nat_eq (next_at t anchored 0 byte) 0 ≡ true
      from_dead No = ap (λ (n : ℕ). nat_eq n 0) ((along-row 1 t byte 0 first (omega arith)).0 ∙ can.walkable.dead_stays byte small)
      from_dead Yes = ap (λ (o : Option ℕ). nat_eq (told_else o 0) 0) (can.children.dead_none _)
