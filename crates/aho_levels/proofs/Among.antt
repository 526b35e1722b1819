-- Between which places of bytes that rise one of them stands.
use Rattle.std.proofs.Common.{◌≡◌, ◌+◌, ◌-◌, ◌<◌, ◌≤◌, ℕ, zero, suc, List, length, get_or, ap, inl, inr, arith}
use Rattle.std.proofs.lemmas.Bool.{cases_eq}
use Rattle.aho_levels.specs.Layout.{AreRising, StandsAmong}

module _ (xs : List ℕ) (rising : AreRising xs) where
  -- as no two bytes are the same, they lie at least so far apart as their places do
  apart : (i n : ℕ) → i + n < length xs → get_or xs i 0 + n ≤ get_or xs (i + n) 0
  apart i zero within = omega (arith, ap (λ (m : ℕ). get_or xs m 0) (let same : i + zero ≡ i = omega arith in same))
  apart i (suc n) within = omega (arith, apart i n (omega (arith, within)), rising (i + n) (i + suc n) (omega arith) within)

  up-to : (i j : ℕ) → i ≤ j → j < length xs → get_or xs i 0 + (j - i) ≤ get_or xs j 0
  up-to i j ordered within =
      let whole : i + (j - i) ≡ j = omega (arith, ordered) in
      omega (arith, apart i (j - i) (omega (arith, within, whole)), ap (λ (m : ℕ). get_or xs m 0) whole)

  -- the byte is below all of them, or above
  pub none-below : (byte : ℕ) → byte < get_or xs 0 0 → StandsAmong xs byte 0 0
  none-below byte below = record {
    ordered = omega arith;
    within = omega arith;
    before = λ i less same. omega (arith, less);
    behind = λ i past within same. omega (arith, up-to 0 i (omega arith) within, below, same);
  }

  pub none-above : (byte count : ℕ) → 0 < count → count ≡ length xs → get_or xs (count - 1) 0 < byte → StandsAmong xs byte 0 0
  none-above byte count some all above = record {
    ordered = omega arith;
    within = omega arith;
    before = λ i less same. omega (arith, less);
    behind = λ i past within same. omega (arith, up-to i (count - 1) (omega (arith, within, all)) (omega (arith, some, all)), above, same);
  }

  -- by how far it is from the first and from the last
  pub among-between : (byte count low high : ℕ) → 0 < count → count ≡ length xs
      → get_or xs 0 0 ≤ byte → byte ≤ get_or xs (count - 1) 0 → high ≤ count
      → (0 < low → low + get_or xs (count - 1) 0 ≤ count - 1 + byte) → (high < count → byte + 1 ≤ high + get_or xs 0 0)
      → StandsAmong xs byte low high
  among-between byte count low high some all least most most-count from to = record {
    ordered = ordered low from;
    within = omega (arith, most-count, all);
    before = λ i less same. omega (arith, up-to i (count - 1) (omega (arith, less, from (omega (arith, less)), most)) (omega (arith, some, all)), from (omega (arith, less)), less, same);
    behind = λ i past within same. omega (arith, up-to 0 i (omega arith) within, to (omega (arith, past, within, all)), past, same);
  }
    where
      low-most : (low : ℕ) → (0 < low → low + get_or xs (count - 1) 0 ≤ count - 1 + byte) → low ≤ count - 1
      low-most zero from = omega arith
      low-most (suc low) from = omega (arith, from (omega arith), most)

      near : (low : ℕ) → (0 < low → low + get_or xs (count - 1) 0 ≤ count - 1 + byte) → low ≤ byte - get_or xs 0 0
      near zero from = omega arith
      near (suc low) from = omega (arith, from (omega arith), up-to 0 (count - 1) (omega arith) (omega (arith, some, all)), least, most)

      ordered : (low : ℕ) → (0 < low → low + get_or xs (count - 1) 0 ≤ count - 1 + byte) → low ≤ high
      ordered low from =
          elim (cases_eq high count) [
            | inl whole ↦ omega (arith, low-most low from, whole, some)
            | inr other ↦ omega (arith, to (omega (arith, most-count, other)), near low from, least)
          ]

  -- the byte stands at the middle or behind it, or before it
  pub from-middle : (byte low high middle : ℕ) → StandsAmong xs byte low high → middle < high → get_or xs middle 0 ≤ byte → StandsAmong xs byte middle high
  from-middle byte low high middle is less below = record {
    ordered = omega (arith, less);
    within = is.within;
    before = λ i before same. omega (arith, rising i middle before (omega (arith, less, is.within)), below, same);
    behind = is.behind;
  }

  pub to-middle : (byte low high middle : ℕ) → StandsAmong xs byte low high → low ≤ middle → middle < high → byte < get_or xs middle 0 → StandsAmong xs byte low middle
  to-middle byte low high middle is ordered less above = record {
    ordered = ordered;
    within = omega (arith, less, is.within);
    before = is.before;
    behind = λ i past within same. omega (arith, up-to middle i past within, above, same);
  }
