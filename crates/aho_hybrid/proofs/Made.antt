-- The states that were laid out are an automaton of the same patterns: what is read of them by numbers alone.
use Rattle.std.proofs.Common.{◌≡◌, ◌≢◌, ◌⊎◌, ℕ, ◌+◌, ◌-◌, ◌*◌, ◌<◌, ◌≤◌, ◌/◌, ◌||◌, Bool, cond, List, length, take, drop, get_or, nat_eq, refl, sym, ap, subst, ◌∙◌, inl, inr, arith, ne_eqb}
use Rattle.std.specs.Prelude.{Some, None, nat_lt}
use Rattle.std.proofs.Math.Nat.{le-mul_of_pos_right, mul-div_cancel, mul-le-mul_right, mul-mod_left}
use Rattle.std.proofs.lemmas.Bool.{cases_Bool, cases_eq, cond-true, cond-false, le-ltb}
use Rattle.std.proofs.lemmas.Bool.Decides.{nat_tests}
use Rattle.std.proofs.lemmas.Nat.{div-add-mod'}
use Rattle.aho_core.specs.Numbers.{greatest_index}
use Rattle.aho_build.specs.Walking.{AreStarts, IsSound, IsState, links_left}
use Rattle.aho_table.specs.Alphabet.{class_count}
use Rattle.aho_table.specs.Table.{depth_in, fail_in, matches_in, next_in, state_at}
use Rattle.aho_hybrid.proofs.Counting.{deep-all, deep-before, deep-of_number, deep_below, row-before, row-of_number, rows-all, rows-first, rows_below}
use Rattle.aho_hybrid.proofs.Filling.{in-row}
use Rattle.aho_hybrid.proofs.Listed.{part-at, part-within, within-at}
use Rattle.aho_hybrid.proofs.Stepping.{flat-child, link-depth, step-near, told, told-none, told-some}
use Rattle.aho_hybrid.specs.declared.fill.Filled.{Filled}
use Rattle.aho_hybrid.specs.Filled.{IsDeepState, AreLaidOut, IsListAt, IsPlan, IsRecord, IsShallow, Parts, deep_count, is_deep, leads_in, moves_of, number_in, record_place, row_in, rows_count, row_entries, source_of, transitions_of}
use Rattle.aho_hybrid.proofs.Rising.{flat-rising}
use Rattle.aho_hybrid.specs.Layout.{AreRisingMoves, HasRow, IsDeep, IsAtStride, IsSoundDeep, IsSoundLayout, IsSoundRows, IsStateIn, Layout, child_in, child_of, depth_below_rows, depth_of_state, is_row, link_in, list_place, moves_in, record_size, stride_of, record_word}
use Rattle.aho_hybrid.specs.Reading.{deep-test, row-depth, row-test, state-cases, state-of_deep, state-of_row}

module _ (plan : Parts) (words : ℕ) (planned : IsPlan plan words) (filled : Filled) (done : AreLaidOut plan (length plan.states) filled)
    (starts : AreStarts plan.special plan.states) (sound : IsSound plan.states) where
  abbrev pub count : ℕ
  count = length plan.states

  abbrev stride : ℕ
  stride = stride_of plan.classes

  abbrev pub root : ℕ
  root = plan.special.start_unanchored_id

  abbrev pub layout : Layout
  layout = record {
    rows = filled.entries.items;
    deep = filled.deep.items;
    moves = filled.moves.items;
    lists = plan.lists;
    depths = plan.depths;
    row_depth = plan.row_depth;
    classes = plan.classes;
    start = number_in plan root;
    low = filled.low;
    list_low = filled.list_low;
    deep_low = filled.deep_low;
  }

  abbrev rows_at : ℕ → ℕ
  rows_at i = rows_below plan.row_depth plan.states i

  abbrev deep_at : ℕ → ℕ
  deep_at i = deep_below plan.row_depth plan.states i

  -- ---- the numbers of states

  pub dense : length layout.rows ≡ row_entries plan.row_depth plan.states plan.classes
  dense = done.rows.sized ∙ ap (λ (m : ℕ). m * stride) (rows-all plan.row_depth plan.states)

  pub deep-size : length layout.deep ≡ deep_count plan.row_depth plan.states * record_size
  deep-size = done.records.sized ∙ ap (λ (m : ℕ). m * record_size) (deep-all plan.row_depth plan.states)

  pub number-row : (i : ℕ) → i < count → IsShallow plan i → number_in plan i ≡ row_in plan i
  number-row i below shallow = planned.numbered.number i below ∙ cond-false (is_deep plan.row_depth (state_at plan.states i)) _ _ shallow

  pub number-deep : (i : ℕ) → i < count → IsDeepState plan i → number_in plan i ≡ length layout.rows + record_place plan.row_depth plan.states i
  number-deep i below deep =
      planned.numbered.number i below
      ∙ cond-true (is_deep plan.row_depth (state_at plan.states i)) _ _ deep
      ∙ ap (λ (m : ℕ). m + record_place plan.row_depth plan.states i) (sym dense)

  place-deep : (i : ℕ) → i < count → IsDeepState plan i → number_in plan i - length layout.rows ≡ record_place plan.row_depth plan.states i
  place-deep i below deep = omega (arith, number-deep i below deep)

  pub row-of : (i : ℕ) → i < count → IsShallow plan i → HasRow layout (number_in plan i)
  row-of i below shallow = subst (HasRow layout) (sym (number-row i below shallow)) here
    where
      here : HasRow layout (row_in plan i)
      here = record {
        whole = mul-mod_left (rows_at i) stride;
        within = omega (arith, in-row (rows_at i) (class_count plan.classes) (rows_at count) stride (row-before plan.row_depth plan.states i count below (omega arith) shallow) (omega arith), done.rows.sized);
      }

  pub deep-of : (i : ℕ) → i < count → IsDeepState plan i → IsDeep layout (number_in plan i)
  deep-of i below deep = record {
    behind = omega (arith, number-deep i below deep);
    record_of = subst (IsAtStride record_size (length layout.deep)) (sym (place-deep i below deep)) here;
  }
    where
      here : IsAtStride record_size (length layout.deep) (record_place plan.row_depth plan.states i)
      here = record {
        whole = mul-mod_left (deep_at i) record_size;
        within = omega (arith, deep-before plan.row_depth plan.states i count below (omega arith) deep, done.records.sized);
      }

  pub state-of : (i : ℕ) → i < count → IsStateIn layout (number_in plan i)
  state-of i below =
      elim (cases_Bool (is_deep plan.row_depth (state_at plan.states i))) [
        | inl deep ↦ state-of_deep layout (number_in plan i) (deep-of i below deep)
        | inr shallow ↦ state-of_row layout (number_in plan i) (row-of i below shallow)
      ]

  -- what holds of the numbers of states holds of all numbers of states
  by-row : (P : ℕ → Type 0) → ((i : ℕ) → i < count → IsShallow plan i → P (number_in plan i)) → (sid : ℕ) → HasRow layout sid → P sid
  by-row P holds sid row =
      let number : sid / stride * stride ≡ sid = omega (arith, div-add-mod' sid stride, row.whole) in
      let found = row-of_number plan.row_depth plan.states (sid / stride) (below number) in
      subst P (number-row found.0 found.1 found.2 ∙ ap (λ (m : ℕ). m * stride) found.3 ∙ number) (holds found.0 found.1 found.2)
    where
      below : sid / stride * stride ≡ sid → sid / stride < rows_count plan.row_depth plan.states
      below number =
          elim (cases_Bool (nat_lt (sid / stride) (rows_count plan.row_depth plan.states))) [
            | inl less ↦ grind (arith, nat_tests)
            | inr past ↦
                let least : rows_count plan.row_depth plan.states ≤ sid / stride = grind (arith, nat_tests) in
                absurd (omega (arith, mul-le-mul_right stride least, number, row.within, dense))
          ]

  by-deep : (P : ℕ → Type 0) → ((i : ℕ) → i < count → IsDeepState plan i → P (number_in plan i)) → (sid : ℕ) → IsDeep layout sid → P sid
  by-deep P holds sid deep =
      let at : ℕ = (sid - length layout.rows) / record_size in
      let number : at * record_size ≡ sid - length layout.rows = omega (arith, div-add-mod' (sid - length layout.rows) record_size, deep.record_of.whole) in
      let below : at < deep_count plan.row_depth plan.states = omega (arith, number, deep.record_of.within, deep-size) in
      let found = deep-of_number plan.row_depth plan.states at below in
      subst P
      (number-deep found.0 found.1 found.2 ∙ ap (λ (m : ℕ). length layout.rows + m * record_size) found.3 ∙ omega (arith, number, deep.behind))
      (holds found.0 found.1 found.2)

  by-state : (P : ℕ → Type 0) → ((i : ℕ) → i < count → P (number_in plan i)) → (sid : ℕ) → IsStateIn layout sid → P sid
  by-state P holds sid state =
      elim (state-cases layout sid state) [
        | inl row ↦ by-row P (λ i below shallow. holds i below) sid row
        | inr deep ↦ by-deep P (λ i below is_deep. holds i below) sid deep
      ]

  -- ---- how deep they are

  word-of : (i index : ℕ) → i < count → IsDeepState plan i → record_word layout (number_in plan i) index ≡ get_or layout.deep (record_place plan.row_depth plan.states i + index) 0
  word-of i index below deep = ap (λ (m : ℕ). get_or layout.deep (m + index) 0) (place-deep i below deep)

  record-of : (i : ℕ) → i < count → IsDeepState plan i → IsRecord plan i layout.deep (record_place plan.row_depth plan.states i) layout.moves
  record-of i below deep = done.records.records i below deep

  pub height-row : (i : ℕ) → i < count → IsShallow plan i → depth_below_rows layout (number_in plan i) ≡ 0
  height-row i below shallow = row-depth layout (number_in plan i) (row-of i below shallow)

  pub height-deep : (i : ℕ) → i < count → IsDeepState plan i → depth_below_rows layout (number_in plan i) + plan.row_depth ≡ depth_in plan.states i
  height-deep i below deep =
      ap (λ (m : ℕ). m + plan.row_depth)
      (cond-false (is_row layout (number_in plan i)) 0 (record_word layout (number_in plan i) 2) (deep-test layout (number_in plan i) (deep-of i below deep)) ∙ word-of i 2 below deep)
      ∙ (record-of i below deep).height

  pub deep-deeper : (i : ℕ) → IsDeepState plan i → plan.row_depth < depth_in plan.states i
  deep-deeper i deep = grind (arith, nat_tests)

  pub row-shallow : (i : ℕ) → IsShallow plan i → depth_in plan.states i ≤ plan.row_depth
  row-shallow i shallow = grind (arith, nat_tests)

  -- and from the start
  pub depth-is : (i : ℕ) → i < count → depth_of_state layout (number_in plan i) ≡ depth_in plan.states i
  depth-is i below =
      elim (cases_Bool (is_deep plan.row_depth (state_at plan.states i))) [
        | inl deep ↦
            cond-false (is_row layout (number_in plan i)) _ _ (deep-test layout (number_in plan i) (deep-of i below deep))
            ∙ omega (arith, word-of i 2 below deep, (record-of i below deep).height)
        | inr shallow ↦
            cond-true (is_row layout (number_in plan i)) _ _ (row-test layout (number_in plan i) (row-of i below shallow))
            ∙ ap (λ (m : ℕ). get_or plan.depths (m / stride) 0) (number-row i below shallow)
            ∙ ap (λ (m : ℕ). get_or plan.depths m 0) (mul-div_cancel (rows_at i) (omega arith))
            ∙ planned.deepnesses.depth i below shallow
      ]

  has-depth : (i : ℕ) → i < count → IsShallow plan i → number_in plan i / stride < length plan.depths
  has-depth i below shallow =
      let number : number_in plan i / stride ≡ rows_at i = ap (λ (m : ℕ). m / stride) (number-row i below shallow) ∙ mul-div_cancel (rows_at i) (omega arith) in
      omega (arith, number, row-before plan.row_depth plan.states i count below (omega arith) shallow, planned.deepnesses.sized)

  height-most : (i most : ℕ) → i < count → depth_in plan.states i ≤ most + plan.row_depth → depth_below_rows layout (number_in plan i) ≤ most
  height-most i most below near =
      elim (cases_Bool (is_deep plan.row_depth (state_at plan.states i))) [
        | inl deep ↦ omega (arith, height-deep i below deep, near)
        | inr shallow ↦ omega (arith, height-row i below shallow)
      ]

  pub dead-shallow : IsShallow plan 0
  dead-shallow = le-ltb plan.row_depth (depth_in plan.states 0) (omega (arith, sound.dead_depth))

  pub root-shallow : IsShallow plan root
  root-shallow = le-ltb plan.row_depth (depth_in plan.states root) (omega (arith, starts.unanchored.depth))

  height-less : (i j : ℕ) → i < count → j < count → IsDeepState plan j → (i ≡ 0) ⊎ (depth_in plan.states i < depth_in plan.states j) → depth_below_rows layout (number_in plan i) < depth_below_rows layout (number_in plan j)
  height-less i j below within deep_too (inl dead) =
      omega (arith, height-row i below (subst (IsShallow plan) (sym dead) dead-shallow), height-deep j within deep_too, deep-deeper j deep_too)
  height-less i j below within deep_too (inr less) =
      elim (cases_Bool (is_deep plan.row_depth (state_at plan.states i))) [
        | inl deep ↦ omega (arith, height-deep i below deep, height-deep j within deep_too, less)
        | inr shallow ↦ omega (arith, height-row i below shallow, height-deep j within deep_too, deep-deeper j deep_too)
      ]

  -- ---- the states that stand there

  source-cases : (i : ℕ) → (source_of plan i ≡ 0) ⊎ ((source_of plan i ≡ root) ⊎ ((source_of plan i ≡ i) × (i ≢ 1)))
  source-cases i =
      elim (cases_eq i 0) [
        | inl dead ↦ inl (ap (source_of plan) dead)
        | inr alive ↦
            elim (cases_Bool (nat_eq i 1 || nat_eq i plan.special.start_anchored_id)) [
              | inl other ↦
                  inr
                  (inl
                  (cond-false {A = ℕ} (nat_eq i 0) 0 (cond (nat_eq i 1 || nat_eq i plan.special.start_anchored_id) root i) (ne_eqb i 0 alive)
                  ∙ cond-true {A = ℕ} (nat_eq i 1 || nat_eq i plan.special.start_anchored_id) root i other))
              | inr own ↦
                  inr
                  (inr (
                    cond-false {A = ℕ} (nat_eq i 0) 0 (cond (nat_eq i 1 || nat_eq i plan.special.start_anchored_id) root i) (ne_eqb i 0 alive)
                        ∙ cond-false {A = ℕ} (nat_eq i 1 || nat_eq i plan.special.start_anchored_id) root i own,
                    λ e. grind (arith, nat_tests),
                  ))
            ]
      ]

  source-state : (i : ℕ) → i < count → IsState plan.states (source_of plan i)
  source-state i below =
      elim (source-cases i) [
        | inl dead ↦ subst (IsState plan.states) (sym dead) sound.dead_state
        | inr alive ↦
            elim alive [
              | inl first ↦ subst (IsState plan.states) (sym first) starts.unanchored.state
              | inr own ↦ subst (IsState plan.states) (sym own.0) (below, own.1)
            ]
      ]

  source-depth : (i : ℕ) → depth_in plan.states (source_of plan i) ≤ depth_in plan.states i
  source-depth i =
      elim (source-cases i) [
        | inl dead ↦ omega (arith, ap (depth_in plan.states) dead, sound.dead_depth)
        | inr alive ↦
            elim alive [
              | inl first ↦ omega (arith, ap (depth_in plan.states) first, starts.unanchored.depth)
              | inr own ↦ omega (arith, ap (depth_in plan.states) own.0)
            ]
      ]

  -- ---- rows

  pub number-dead : number_in plan 0 ≡ 0
  number-dead = number-row 0 sound.dead_state.0 dead-shallow ∙ ap (λ (m : ℕ). m * stride) (rows-first plan.row_depth plan.states) ∙ none
    where
      none : 0 * stride ≡ 0
      none = omega arith

  pub entry-of : (i class : ℕ) → i < count → IsShallow plan i → class < class_count plan.classes → get_or layout.rows (number_in plan i + class) 0 ≡ number_in plan (leads_in plan (source_of plan i) class)
  entry-of i class below shallow within = ap (λ (m : ℕ). get_or layout.rows (m + class) 0) (number-row i below shallow) ∙ done.rows.entry i class below shallow within

  sound-rows : IsSoundRows layout
  sound-rows = record {
    dead = subst (HasRow layout) number-dead (row-of 0 sound.dead_state.0 dead-shallow);
    start = row-of root starts.unanchored.state.0 root-shallow;
    next = λ sid class row within.
        by-row (λ (m : ℕ). IsStateIn layout (get_or layout.rows (m + class) 0))
        (λ i below shallow. subst (IsStateIn layout) (sym (entry-of i class below shallow within)) (state-of (leads_in plan (source_of plan i) class) (done.rows.step i class below shallow within).state.0))
        sid row;
    near = λ sid class row within.
        by-row (λ (m : ℕ). depth_below_rows layout (get_or layout.rows (m + class) 0) ≤ 1)
        (λ i below shallow. subst (λ (m : ℕ). depth_below_rows layout m ≤ 1) (sym (entry-of i class below shallow within)) (near i class below shallow within))
        sid row;
    dead_stays = λ class within.
        ap (λ (m : ℕ). get_or layout.rows m 0) (first class)
        ∙ entry-of 0 class sound.dead_state.0 dead-shallow within
        ∙ ap (number_in plan) ((done.rows.step 0 class sound.dead_state.0 dead-shallow within).dead_stays refl)
        ∙ number-dead;
    dead_marked = done.rows.some;
    marked_special = done.special;
  }
    where
      first : (class : ℕ) → class ≡ number_in plan 0 + class
      first class = omega (arith, number-dead)

      near : (i class : ℕ) → i < count → IsShallow plan i → class < class_count plan.classes → depth_below_rows layout (number_in plan (leads_in plan (source_of plan i) class)) ≤ 1
      near i class below shallow within =
          let step = done.rows.step i class below shallow within in
          height-most (leads_in plan (source_of plan i) class) 1 step.state.0
          (omega
          (arith, step-near plan.states sound (get_or plan.firsts class 0) (links_left plan.states (source_of plan i) + 1) (source_of plan i) step.small (source-state i below), source-depth i, row-shallow i shallow))

  -- ---- records

  moves-are : (i : ℕ) → i < count → IsDeepState plan i → moves_in layout (number_in plan i) ≡ moves_of plan i
  moves-are i below deep =
      let is = record-of i below deep in
      let at : ℕ = get_or layout.deep (record_place plan.row_depth plan.states i + 3) 0 in
      ap (λ (m : ℕ). take m (drop (record_word layout (number_in plan i) 3) layout.moves)) (word-of i 4 below deep ∙ is.moves_size)
      ∙ ap (λ (m : ℕ). take (length (moves_of plan i)) (drop m layout.moves)) (word-of i 3 below deep)
      ∙ part-at layout.moves at (moves_of plan i) is.moves_at

  pub child-of : (i byte : ℕ) → i < count → IsDeepState plan i → child_in layout (number_in plan i) byte ≡ told plan.numbers (next_in plan.states (source_of plan i) byte)
  child-of i byte below deep =
      ap (λ (l : List ℕ). child_of l byte) (moves-are i below deep)
      ∙ flat-child plan.numbers byte (transitions_of plan i) (record-of i below deep).rising

  pub link-of : (i : ℕ) → i < count → IsDeepState plan i → link_in layout (number_in plan i) ≡ number_in plan (fail_in plan.states (source_of plan i))
  link-of i below deep = word-of i 0 below deep ∙ (record-of i below deep).link

  next-of : (i byte next : ℕ) → i < count → IsDeepState plan i → byte < 256 → child_in layout (number_in plan i) byte ≡ Some next
      → IsStateIn layout next × (depth_below_rows layout next ≤ depth_below_rows layout (number_in plan i) + 1)
  next-of i byte next below deep small child =
      let source : ℕ = source_of plan i in
      let leads : ℕ = next_in plan.states source byte in
      elim (cases_eq leads 1) [
        | inl none ↦ let clash : None ≡ Some next = sym (told-none plan.numbers leads none) ∙ sym (child-of i byte below deep) ∙ child in absurd (cc)
        | inr some ↦
            let both : Some (number_in plan leads) ≡ Some next = sym (told-some plan.numbers leads some) ∙ sym (child-of i byte below deep) ∙ child in
            let is : number_in plan leads ≡ next = cc in
            let state = sound.next_state source byte (source-state i below) small some in
            let near = sound.next_depth source byte (source-state i below) small some in (
              subst (IsStateIn layout) is (state-of leads state.0),
              omega
                  (arith, ap (depth_below_rows layout) is, height-most leads (depth_below_rows layout (number_in plan i) + 1) state.0 (omega (arith, near, source-depth i, height-deep i below deep))),
            )
      ]

  linked-of : (i byte : ℕ) → i < count → IsDeepState plan i → byte < 256 → child_in layout (number_in plan i) byte ≡ None
      → IsStateIn layout (link_in layout (number_in plan i)) × (depth_below_rows layout (link_in layout (number_in plan i)) < depth_below_rows layout (number_in plan i))
  linked-of i byte below deep small child =
      let source : ℕ = source_of plan i in
      let leads : ℕ = next_in plan.states source byte in
      elim (cases_eq leads 1) [
        | inr some ↦ let clash : Some (number_in plan leads) ≡ None = sym (told-some plan.numbers leads some) ∙ sym (child-of i byte below deep) ∙ child in absurd (cc)
        | inl none ↦
            let state = sound.fail_state source byte (source-state i below) small none in
            let nearer = link-depth plan.states sound source (fail_in plan.states source) (sound.fail_nearer source byte (source-state i below) small none) in
            let is = link-of i below deep in (
              subst (IsStateIn layout) (sym is) (state-of (fail_in plan.states source) state.0),
              omega (arith, ap (depth_below_rows layout) is, height-less (fail_in plan.states source) i state.0 below deep (deeper i source (source-depth i) nearer)),
            )
      ]
    where
      deeper : (i source : ℕ) → depth_in plan.states source ≤ depth_in plan.states i → (fail_in plan.states source ≡ 0) ⊎ (depth_in plan.states (fail_in plan.states source) < depth_in plan.states source)
          → (fail_in plan.states source ≡ 0) ⊎ (depth_in plan.states (fail_in plan.states source) < depth_in plan.states i)
      deeper i source most (inl dead) = inl dead
      deeper i source most (inr less) = inr (omega (arith, less, most))

  sound-deep : IsSoundDeep layout
  sound-deep = record {
    moves = by-deep (λ (m : ℕ). record_word layout m 3 + record_word layout m 4 ≤ length layout.moves) (λ i below deep. inside i below deep);
    rising = by-deep (λ (m : ℕ). AreRisingMoves (moves_in layout m)) (λ i below deep. rising-in i below deep);
    next = λ sid byte next deep small child.
        by-deep (λ (m : ℕ). child_in layout m byte ≡ Some next → IsStateIn layout next × (depth_below_rows layout next ≤ depth_below_rows layout m + 1))
        (λ i below is_deep. next-of i byte next below is_deep small) sid deep child;
    link = λ sid byte deep small child.
        by-deep (λ (m : ℕ). child_in layout m byte ≡ None → IsStateIn layout (link_in layout m) × (depth_below_rows layout (link_in layout m) < depth_below_rows layout m))
        (λ i below is_deep. linked-of i byte below is_deep small) sid deep child;
  }
    where
      rising-in : (i : ℕ) → i < count → IsDeepState plan i → AreRisingMoves (moves_in layout (number_in plan i))
      rising-in i below deep =
          subst AreRisingMoves (sym (moves-are i below deep)) (flat-rising plan.numbers (transitions_of plan i) (record-of i below deep).rising)

      inside : (i : ℕ) → i < count → IsDeepState plan i → record_word layout (number_in plan i) 3 + record_word layout (number_in plan i) 4 ≤ length layout.moves
      inside i below deep =
          let is = record-of i below deep in
          omega (arith, word-of i 3 below deep, word-of i 4 below deep, is.moves_size, part-within layout.moves (get_or layout.deep (record_place plan.row_depth plan.states i + 3) 0) (moves_of plan i) is.moves_at)

  -- ---- lists

  pub place-of : (i : ℕ) → i < count → (place : ℕ) × (list_place layout (number_in plan i) ≡ place) × IsListAt layout.lists place (matches_in plan.states (source_of plan i))
  place-of i below =
      elim (cases_Bool (is_deep plan.row_depth (state_at plan.states i))) [
        | inl deep ↦ (
          get_or layout.deep (record_place plan.row_depth plan.states i + 1) 0,
          cond-false (is_row layout (number_in plan i)) _ _ (deep-test layout (number_in plan i) (deep-of i below deep)) ∙ word-of i 1 below deep,
          (record-of i below deep).listed,
        )
        | inr shallow ↦ (
          get_or layout.rows (row_in plan i + class_count plan.classes) 0,
          cond-true (is_row layout (number_in plan i)) _ _ (row-test layout (number_in plan i) (row-of i below shallow))
              ∙ ap (λ (m : ℕ). get_or layout.rows (m + class_count plan.classes) 0) (number-row i below shallow),
          done.rows.listed i below shallow,
        )
      ]

  pub sound-layout : length layout.rows + length layout.deep ≤ greatest_index → length layout.lists ≤ greatest_index + 1 → length layout.moves ≤ greatest_index → IsSoundLayout layout
  sound-layout small small_lists small_moves = record {
    in_rows = sound-rows;
    in_deep = sound-deep;
    listed = by-state (λ (m : ℕ). list_place layout m + get_or layout.lists (list_place layout m) 0 < length layout.lists)
        (λ i below.
        let at = place-of i below in
        subst (λ (m : ℕ). m + get_or layout.lists m 0 < length layout.lists) (sym at.1) (within-at layout.lists at.0 (matches_in plan.states (source_of plan i)) at.2));
    deepnesses = by-row (λ (m : ℕ). m / stride < length plan.depths) (λ i below shallow. has-depth i below shallow);
    depths_small = by-deep (λ (m : ℕ). plan.row_depth + record_word layout m 2 ≤ greatest_index)
        (λ i below deep. omega (arith, word-of i 2 below deep, (record-of i below deep).height, (record-of i below deep).depth_small));
    shallow = by-state (λ (m : ℕ). depth_below_rows layout m ≤ greatest_index) (λ i below. shallow i below);
    small = small;
    small_lists = small_lists;
    small_moves = small_moves;
    small_depths = omega (arith, small, done.rows.sized, planned.deepnesses.sized, le-mul_of_pos_right {m = stride} (rows_at count) (omega arith));
  }
    where
      shallow : (i : ℕ) → i < count → depth_below_rows layout (number_in plan i) ≤ greatest_index
      shallow i below =
          elim (cases_Bool (is_deep plan.row_depth (state_at plan.states i))) [
            | inl deep ↦ omega (arith, height-deep i below deep, (record-of i below deep).depth_small)
            | inr own ↦ omega (arith, height-row i below own)
          ]

-- two layouts are one where their borders and starts are
pub same-layout : (rows deep moves lists depths : List ℕ) (row_depth : ℕ) (classes classes' : List Bool) (start start' low list_low deep_low : ℕ) → classes ≡ classes' → start ≡ start'
    → let one : Layout = record { rows = rows; deep = deep; moves = moves; lists = lists; depths = depths; row_depth = row_depth; classes = classes; start = start; low = low; list_low = list_low; deep_low = deep_low } in
    let other : Layout = record { rows = rows; deep = deep; moves = moves; lists = lists; depths = depths; row_depth = row_depth; classes = classes'; start = start'; low = low; list_low = list_low; deep_low = deep_low } in
    one ≡ other
same-layout rows deep moves lists depths row_depth classes classes' start start' low list_low deep_low classes_are start_is =
    ap (λ (cs : List Bool). record { rows = rows; deep = deep; moves = moves; lists = lists; depths = depths; row_depth = row_depth; classes = cs; start = start; low = low; list_low = list_low; deep_low = deep_low }) classes_are
    ∙ ap (λ (n : ℕ). record { rows = rows; deep = deep; moves = moves; lists = lists; depths = depths; row_depth = row_depth; classes = classes'; start = n; low = low; list_low = list_low; deep_low = deep_low }) start_is
