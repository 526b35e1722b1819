-- The numbers of the states, given one after another.
use Rattle.std.proofs.Common.{◌≡◌, ℕ, ◌+◌, ◌-◌, ◌*◌, ◌<◌, ◌≤◌, Bool, true, false, List, [], ◌∷◌, ◌++◌, length, get_or, ap, ◌∙◌, inl, inr, arith}
use Rattle.std.proofs.Math.Nat.{mul-le-mul_right}
use Rattle.std.proofs.lemmas.Bool.{cases_Bool, cond-false, cond-true}
use Rattle.std.proofs.lemmas.List.{get_or_append_left, get_or_push, length_push}
use Rattle.aho_core.specs.Numbers.{greatest_index}
use Rattle.aho_table.specs.Table.{State, state_at}
use Rattle.aho_hybrid.specs.Filled.{AreStateNumbers, is_deep, number_of, record_place, row_at, rows_count, row_entries, state_words}
use Rattle.aho_hybrid.specs.Layout.{stride_of}
use Rattle.aho_hybrid.proofs.Counting.{deep-all, deep-before, deep-grow, rows-all, rows-and-deep, rows-grow}
use Rattle.aho_hybrid.proofs.Filling.{below-or-last}

module _ (row_depth : ℕ) (states : List State) (classes : List Bool) where
  pub numbers-none : AreStateNumbers row_depth states classes 0 []
  numbers-none = record { sized = omega arith; number = λ sid below. absurd (omega (arith, below)) }

  -- one number more
  pub number-added : (count number : ℕ) (old new : List ℕ) → AreStateNumbers row_depth states classes count old → number ≡ number_of row_depth states classes count → new ≡ old ++ number ∷ []
      → AreStateNumbers row_depth states classes (count + 1) new
  number-added count number old new are value is = record {
    sized = ap (λ (l : List ℕ). length l) is ∙ length_push old number ∙ ap (λ (n : ℕ). n + 1) are.sized;
    number = below-or-last (λ (n : ℕ). get_or new n 0 ≡ number_of row_depth states classes n) count
        (λ n less. ap (λ (l : List ℕ). get_or l n 0) is ∙ get_or_append_left old (number ∷ []) 0 n (omega (arith, less, are.sized)) ∙ are.number n less)
        (ap (λ (l : List ℕ). get_or l count 0) is ∙ get_or_push old number 0 count are.sized ∙ value);
  }

  -- the numbers are indices, where all words are
  pub number-small : (sid : ℕ) → sid < length states → state_words row_depth states classes ≤ greatest_index → number_of row_depth states classes sid ≤ greatest_index
  number-small sid below small =
      elim (cases_Bool (is_deep row_depth (state_at states sid))) [
        | inl deep ↦
            omega
            (arith, deep_is deep, deep-before row_depth states sid (length states) below (omega arith) deep, deep-all row_depth states, small)
        | inr shallow ↦
            omega
            (arith, row_is shallow, mul-le-mul_right (stride_of classes) (rows-grow row_depth states sid (length states) (omega (arith, below)) (omega arith)), ap (λ (n : ℕ). n * stride_of classes) (rows-all row_depth states), small)
      ]
    where
      deep_is : is_deep row_depth (state_at states sid) ≡ true → number_of row_depth states classes sid ≡ row_entries row_depth states classes + record_place row_depth states sid
      deep_is deep = cond-true (is_deep row_depth (state_at states sid)) (row_entries row_depth states classes + record_place row_depth states sid) (row_at row_depth states classes sid) deep

      row_is : is_deep row_depth (state_at states sid) ≡ false → number_of row_depth states classes sid ≡ row_at row_depth states classes sid
      row_is shallow = cond-false (is_deep row_depth (state_at states sid)) (row_entries row_depth states classes + record_place row_depth states sid) (row_at row_depth states classes sid) shallow

  -- and so are the places of the next row and record
  pub places-small : (count : ℕ) → count ≤ length states → state_words row_depth states classes ≤ greatest_index
      → (row_at row_depth states classes count ≤ greatest_index) × (row_entries row_depth states classes + record_place row_depth states count ≤ greatest_index)
  places-small count within small = (
    omega
        (arith, mul-le-mul_right (stride_of classes) (rows-grow row_depth states count (length states) within (omega arith)), ap (λ (n : ℕ). n * stride_of classes) (rows-all row_depth states), small),
    omega (arith, deep-grow row_depth states count (length states) within (omega arith), deep-all row_depth states, small),
  )

  -- the size of all, from the counts
  pub size-of : (with_rows all stride : ℕ) → with_rows ≡ rows_count row_depth states → all ≡ length states → stride ≡ stride_of classes
      → with_rows * stride + (all - with_rows) * 5 ≡ state_words row_depth states classes
  size-of with_rows all stride rows_are all_are stride_is =
      omega
      (arith, ap (λ (n : ℕ). n * stride) rows_are, ap (λ (n : ℕ). rows_count row_depth states * n) stride_is, rows-and-deep row_depth states, rows_are, all_are)
