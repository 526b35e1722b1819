-- How many states of a list have rows, and how many are deep: by how far the list was read.
use Rattle.std.proofs.Common.{◌≡◌, ◌⊎◌, inl, inr, ℕ, zero, suc, ◌+◌, ◌-◌, ◌<◌, ◌≤◌, Bool, true, false, List, length, take, refl, sym, ap, ◌∙◌, arith}
use Rattle.std.specs.Prelude.{not}
use Rattle.std.specs.List.{count_by}
use Rattle.std.proofs.lemmas.Bool.{cases_Bool, cases_order, le-ltb}
use Rattle.std.proofs.lemmas.List.{take_all}
use Rattle.std.proofs.lemmas.List.Sums.{count_by_more_no, count_by_more_yes}
use Rattle.aho_table.specs.Table.{State, depth_in, new_state, state_at}
use Rattle.aho_hybrid.specs.Filled.{deep_count, is_deep, is_shallow, rows_count}

-- ---- of any kind of states

module _ (kind : State → Bool) (states : List State) where
  abbrev counted : ℕ → ℕ
  counted i = count_by kind (take i states)

  -- a state of the kind below a bound, with so many before it
  abbrev Found : ℕ → ℕ → Type 0
  Found n bound = (i : ℕ) × (i < bound) × (kind (state_at states i) ≡ true) × (counted i ≡ n)

  yes : (i : ℕ) → i < length states → kind (state_at states i) ≡ true → counted (i + 1) ≡ counted i + 1
  yes i within is = count_by_more_yes kind states i (new_state 0) within is

  none : (i : ℕ) → i < length states → kind (state_at states i) ≡ false → counted (i + 1) ≡ counted i
  none i within is = count_by_more_no kind states i (new_state 0) within is

  step : (i : ℕ) → i < length states → counted i ≤ counted (i + 1)
  step i within =
      elim (cases_Bool (kind (state_at states i))) [
        | inl is ↦ omega (arith, yes i within is)
        | inr is ↦ omega (arith, none i within is)
      ]

  further : (more i : ℕ) → i + more ≤ length states → counted i ≤ counted (i + more)
  further zero i within =
      let same : i + zero ≡ i = omega arith in
      omega (arith, ap counted same)
  further (suc more) i within =
      let same : i + suc more ≡ i + more + 1 = omega arith in
      omega (arith, further more i (omega (arith, within)), step (i + more) (omega (arith, within)), ap counted same)

  grows : (i j : ℕ) → i ≤ j → j ≤ length states → counted i ≤ counted j
  grows i j order within =
      let whole : i + (j - i) ≡ j = omega (arith, order) in
      omega (arith, further (j - i) i (omega (arith, whole, within)), ap counted whole)

  before : (i j : ℕ) → i < j → j ≤ length states → kind (state_at states i) ≡ true → counted i < counted j
  before i j order within is = omega (arith, yes i (omega (arith, order, within)) is, grows (i + 1) j (omega (arith, order)) within)

  at_last : (n count : ℕ) → suc count ≤ length states → n < counted (count + 1) → (kind (state_at states count) ≡ true) ⊎ (kind (state_at states count) ≡ false)
      → (n < counted count → Found n count) → Found n (suc count)
  at_last n count within below (inr other) rest =
      let found = rest (omega (arith, below, none count (omega (arith, within)) other)) in
      (found.0, omega (arith, found.1), found.2, found.3)
  at_last n count within below (inl is) rest =
      elim (cases_order n (counted count)) [
        | inl same ↦ (count, omega arith, is, sym same)
        | inr apart ↦
            elim apart [
              | inl lower ↦ let found = rest lower in (found.0, omega (arith, found.1), found.2, found.3)
              | inr past ↦ absurd (omega (arith, past, below, yes count (omega (arith, within)) is))
            ]
      ]

  numbered : (n count : ℕ) → count ≤ length states → n < counted count → Found n count
  numbered n zero within below = absurd (omega (arith, below))
  numbered n (suc count) within below =
      let one_more : suc count ≡ count + 1 = omega arith in
      at_last n count within (omega (arith, below, ap counted one_more)) (cases_Bool (kind (state_at states count))) (λ lower. numbered n count (omega (arith, within)) lower)

-- ---- of those with rows and of deep ones

module _ (row_depth : ℕ) (states : List State) where
  abbrev pub rows_below : ℕ → ℕ
  rows_below i = rows_count row_depth (take i states)

  abbrev pub deep_below : ℕ → ℕ
  deep_below i = deep_count row_depth (take i states)

  pub rows-first : rows_below 0 ≡ 0
  unfolding rows_count
  rows-first = refl

  pub deep-first : deep_below 0 ≡ 0
  unfolding deep_count
  deep-first = refl

  pub rows-all : rows_below (length states) ≡ rows_count row_depth states
  rows-all = ap (rows_count row_depth) (take_all (length states) states (omega arith))

  pub deep-all : deep_below (length states) ≡ deep_count row_depth states
  deep-all = ap (deep_count row_depth) (take_all (length states) states (omega arith))

  -- one state more, which has a row or is deep
  pub row-more : (i : ℕ) → i < length states → is_deep row_depth (state_at states i) ≡ false → (rows_below (i + 1) ≡ rows_below i + 1) × (deep_below (i + 1) ≡ deep_below i)
  unfolding rows_count deep_count
  row-more i within shallow = (yes (is_shallow row_depth) states i within (ap not shallow), none (is_deep row_depth) states i within shallow)

  pub deep-more : (i : ℕ) → i < length states → is_deep row_depth (state_at states i) ≡ true → (rows_below (i + 1) ≡ rows_below i) × (deep_below (i + 1) ≡ deep_below i + 1)
  unfolding rows_count deep_count
  deep-more i within deep = (none (is_shallow row_depth) states i within (ap not deep), yes (is_deep row_depth) states i within deep)

  -- a state with a row stands before those that follow it, and so does a deep one
  pub row-before : (i j : ℕ) → i < j → j ≤ length states → is_deep row_depth (state_at states i) ≡ false → rows_below i < rows_below j
  unfolding rows_count
  row-before i j order within shallow = before (is_shallow row_depth) states i j order within (ap not shallow)

  pub deep-before : (i j : ℕ) → i < j → j ≤ length states → is_deep row_depth (state_at states i) ≡ true → deep_below i < deep_below j
  unfolding deep_count
  deep-before i j order within deep = before (is_deep row_depth) states i j order within deep

  pub rows-grow : (i j : ℕ) → i ≤ j → j ≤ length states → rows_below i ≤ rows_below j
  unfolding rows_count
  rows-grow i j order within = grows (is_shallow row_depth) states i j order within

  pub deep-grow : (i j : ℕ) → i ≤ j → j ≤ length states → deep_below i ≤ deep_below j
  unfolding deep_count
  deep-grow i j order within = grows (is_deep row_depth) states i j order within

  -- each row is that of a state, and so is each record
  pub row-of_number : (n : ℕ) → n < rows_count row_depth states → (i : ℕ) × (i < length states) × (is_deep row_depth (state_at states i) ≡ false) × (rows_below i ≡ n)
  unfolding rows_count
  row-of_number n below =
      let found = numbered (is_shallow row_depth) states n (length states) (omega arith) (omega (arith, below, ap (count_by (is_shallow row_depth)) (take_all (length states) states (omega arith)))) in
      (found.0, found.1, shallow (is_deep row_depth (state_at states found.0)) found.2, found.3)
    where
      shallow : (b : Bool) → not b ≡ true → b ≡ false
      shallow true e = absurd (cc)
      shallow false e = refl

  pub deep-of_number : (n : ℕ) → n < deep_count row_depth states → (i : ℕ) × (i < length states) × (is_deep row_depth (state_at states i) ≡ true) × (deep_below i ≡ n)
  unfolding deep_count
  deep-of_number n below =
      numbered (is_deep row_depth) states n (length states) (omega arith) (omega (arith, below, ap (count_by (is_deep row_depth)) (take_all (length states) states (omega arith))))

  -- where no state is deeper there is no deep one
  pub none-deep : ((i : ℕ) → i < length states → depth_in states i ≤ row_depth) → deep_count row_depth states ≡ 0
  none-deep most = sym deep-all ∙ below (length states) (omega arith)
    where
      below : (i : ℕ) → i ≤ length states → deep_below i ≡ 0
      below zero within = deep-first
      below (suc i) within =
          let one_more : suc i ≡ i + 1 = omega arith in
          ap deep_below one_more ∙ (row-more i (omega (arith, within)) (le-ltb row_depth (depth_in states i) (most i (omega (arith, within))))).1 ∙ below i (omega (arith, within))

  -- each state has a row or is deep
  pub rows-and-deep : rows_count row_depth states + deep_count row_depth states ≡ length states
  rows-and-deep = omega (arith, rows-all, deep-all, each (length states) (omega arith))
    where
      each : (i : ℕ) → i ≤ length states → rows_below i + deep_below i ≡ i
      each zero within = omega (arith, rows-first, deep-first)
      each (suc i) within =
          let one_more : suc i ≡ i + 1 = omega arith in
          let rest = each i (omega (arith, within)) in
          elim (cases_Bool (is_deep row_depth (state_at states i))) [
            | inl deep ↦ let more = deep-more i (omega (arith, within)) deep in omega (arith, rest, more.0, more.1, ap rows_below one_more, ap deep_below one_more)
            | inr shallow ↦ let more = row-more i (omega (arith, within)) shallow in omega (arith, rest, more.0, more.1, ap rows_below one_more, ap deep_below one_more)
          ]
