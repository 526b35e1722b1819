-- Which states have dense rows, and how many, in the order of their numbers.
use Rattle.std.proofs.Common.{◌≡◌, ℕ, zero, suc, ◌+◌, ◌-◌, ◌<◌, ◌≤◌, Bool, true, false, cond, ◌&&◌, List, [], ◌∷◌, length, drop, take, refl, sym, ap, ◌∙◌, inl, inr, arith}
use Rattle.std.proofs.Math.ListN.{length-set}
use Rattle.std.proofs.lemmas.Bool.{cases_eq, cases_lt, lt-ltb}
use Rattle.std.specs.List.{count_by}
use Rattle.std.proofs.lemmas.List.{take_more, drop-append-le, get_or-map, get_or_past, get_or-set_same, get_or-set_other, length-map, length-take-le}
use Rattle.std.proofs.lemmas.List.Sums.{sum_by_push}
use Rattle.aho_table.specs.Table.{State, new_state, state_at, has_row, with_row, no_rows}
use Rattle.aho_build.specs.Dense.{is_dense, is_dense_at}

-- among the states below this number
abbrev pub rows_before : ℕ → List State → ℕ → ℕ
rows_before depth states index = count_by (is_dense depth) (drop 2 (take index states))

rows_before-more : (depth : ℕ) (states : List State) (index : ℕ) → 2 ≤ index → index < length states
    → rows_before depth states (index + 1) ≡ rows_before depth states index + cond (is_dense depth (state_at states index)) 1 0
rows_before-more depth states index least below =
    ap (λ (ss : List State). count_by (is_dense depth) (drop 2 ss)) (take_more states index (new_state 0) below)
    ∙ ap (count_by (is_dense depth)) (drop-append-le 2 (take index states) (state_at states index ∷ []) (omega (arith, length-take-le index states)))
    ∙ sum_by_push (λ (s : State). cond (is_dense depth s) 1 0) (drop 2 (take index states)) (state_at states index)

-- DEAD and FAIL have none
pub rows_before-first : (depth : ℕ) (states : List State) → rows_before depth states 2 ≡ 0
rows_before-first depth [] = refl
rows_before-first depth (dead ∷ []) = refl
rows_before-first depth (dead ∷ fail ∷ states) = refl

pub rows_before-dense : (depth : ℕ) (states : List State) (index : ℕ) → 2 ≤ index → index < length states → is_dense depth (state_at states index) ≡ true
    → rows_before depth states (index + 1) ≡ rows_before depth states index + 1
rows_before-dense depth states index least below dense = rows_before-more depth states index least below ∙ ap (λ (b : Bool). rows_before depth states index + cond b 1 0) dense

pub rows_before-other : (depth : ℕ) (states : List State) (index : ℕ) → 2 ≤ index → index < length states → is_dense depth (state_at states index) ≡ false
    → rows_before depth states (index + 1) ≡ rows_before depth states index
rows_before-other depth states index least below other =
    rows_before-more depth states index least below ∙ ap (λ (b : Bool). rows_before depth states index + cond b 1 0) other ∙ omega arith

-- DEAD and FAIL are to have none, and behind them the depth alone tells
pub is_dense_at-unnamed : (depth : ℕ) (states : List State) (sid : ℕ) → sid < 2 → is_dense_at depth states sid ≡ false
is_dense_at-unnamed depth states zero below = refl
is_dense_at-unnamed depth states (suc zero) below = refl
is_dense_at-unnamed depth states (suc (suc n)) below = absurd (omega arith)

pub is_dense_at-named : (depth : ℕ) (states : List State) (sid : ℕ) → 2 ≤ sid → is_dense_at depth states sid ≡ is_dense depth (state_at states sid)
is_dense_at-named depth states sid least = ap (λ (b : Bool). b && is_dense depth (state_at states sid)) (lt-ltb 1 sid least)

-- the states below this number that are to have a row have one, and no other state has one
pub record HaveRowsBelow (depth : ℕ) (states : List State) (index : ℕ) (rows : List Bool) : Type 0 where
  pub as_many : length rows ≡ length states
  pub low : (sid : ℕ) → sid < index → has_row rows sid ≡ is_dense_at depth states sid
  pub high : (sid : ℕ) → index ≤ sid → has_row rows sid ≡ false

module _ (depth : ℕ) (states : List State) where
  none_at : (sid : ℕ) → has_row (no_rows states) sid ≡ false
  none_at sid =
      elim (cases_lt sid (length states)) [
        | inl below ↦ get_or-map (λ (state : State). false) states sid (new_state 0) false below
        | inr past ↦ get_or_past (no_rows states) sid false (omega (arith, length-map states (λ (state : State). false)))
      ]

  pub HaveRowsBelow-first : (rows : List Bool) → rows ≡ no_rows states → HaveRowsBelow depth states 2 rows
  HaveRowsBelow-first rows is =
      let none : (sid : ℕ) → has_row rows sid ≡ false = λ sid. ap (λ (rs : List Bool). has_row rs sid) is ∙ none_at sid in
      record {
        as_many = ap length is ∙ length-map states (λ (state : State). false);
        low = λ sid below. none sid ∙ sym (is_dense_at-unnamed depth states sid below);
        high = λ sid past. none sid;
      }

  module _ (index : ℕ) (rows : List Bool) (have : HaveRowsBelow depth states index rows) where
    pub HaveRowsBelow-added : index < length states → is_dense_at depth states index ≡ true → HaveRowsBelow depth states (index + 1) (with_row rows index)
    HaveRowsBelow-added below dense = record {
      as_many = length-set rows index true ∙ have.as_many;
      low = λ sid small.
          elim (cases_eq sid index) [
            | inl here ↦
                ap (has_row (with_row rows index)) here ∙ get_or-set_same rows index true false (let count = have.as_many in omega arith)
                ∙ sym dense ∙ ap (is_dense_at depth states) (sym here)
            | inr there ↦ get_or-set_other rows index sid true false there ∙ have.low sid (omega (arith, there))
          ];
      high = λ sid past. get_or-set_other rows index sid true false (λ e. omega (arith, e)) ∙ have.high sid (omega arith);
    }

    pub HaveRowsBelow-past : is_dense_at depth states index ≡ false → HaveRowsBelow depth states (index + 1) rows
    HaveRowsBelow-past plain = record {
      as_many = have.as_many;
      low = λ sid small.
          elim (cases_eq sid index) [
            | inl here ↦ ap (has_row rows) here ∙ have.high index (omega arith) ∙ sym plain ∙ ap (is_dense_at depth states) (sym here)
            | inr there ↦ have.low sid (omega (arith, there))
          ];
      high = λ sid past. have.high sid (omega arith);
    }
