-- The low numbers of states that are filled one after another.
use Rattle.std.proofs.Common.{◌≡◌, ◌⊎◌, ℕ, ◌+◌, ◌<◌, ◌≤◌, inl, inr, length, arith}
use Rattle.std.specs.Prelude.{max}
use Rattle.std.proofs.lemmas.Bool.{cases_lt}
use Rattle.aho_table.specs.Table.{matches_in}
use Rattle.aho_hybrid.specs.Filled.{IsDeepState, IsLowOfRecords, IsLowOfRows, IsListing, IsShallow, Parts, number_in, row_in, source_of}
use Rattle.aho_hybrid.specs.Layout.{stride_of}

-- the greater of two low numbers is no further than the one that is greater now
pub low-more : (first low list_low low' list_low' : ℕ) → low' ≡ max low list_low' → list_low ≤ list_low' → (low ≤ first) ⊎ (low ≤ list_low) → (low' ≤ first) ⊎ (low' ≤ list_low')
low-more first low list_low low' list_low' is higher before =
    elim (cases_lt list_low' low) [
      | inl below ↦
          elim before [
            | inl small ↦ inl (omega (arith, is, below, small))
            | inr small ↦ inr (omega (arith, is, below, small, higher))
          ]
      | inr above ↦ inr (omega (arith, is, above))
    ]

module _ (plan : Parts) (count : ℕ) where
  abbrev Listing : ℕ → Type 0
  Listing sid = 0 < length (matches_in plan.states (source_of plan sid))

  listing-kept : (sid : ℕ) → IsListing plan count sid → IsListing plan (count + 1) sid
  listing-kept sid is = record { below = omega (arith, is.below); listing = is.listing }

  listing-last : Listing count → IsListing plan (count + 1) count
  listing-last is = record { below = omega arith; listing = is }

  -- a state with no row leaves the number of the rows
  pub rows-low-kept : (low : ℕ) → IsLowOfRows plan count low → IsLowOfRows plan (count + 1) low
  rows-low-kept low (inl first) = inl first
  rows-low-kept low (inr (sid, is, shallow, most)) = inr (sid, listing-kept sid is, shallow, most)

  pub records-low-kept : (low : ℕ) → IsLowOfRecords plan count low → IsLowOfRecords plan (count + 1) low
  records-low-kept low (inl first) = inl first
  records-low-kept low (inr (sid, is, deep, most)) = inr (sid, listing-kept sid is, deep, most)

  -- a further row, or a further record
  pub rows-low-more : (low low' : ℕ) → IsShallow plan count → IsLowOfRows plan count low → (low' ≡ low) ⊎ (Listing count × (low' ≡ row_in plan count + stride_of plan.classes)) → IsLowOfRows plan (count + 1) low'
  rows-low-more low low' shallow before (inl same) =
      elim (rows-low-kept low before) [
        | inl first ↦ inl (omega (arith, same, first))
        | inr found ↦ inr (found.0, found.1, found.2, omega (arith, same, found.3))
      ]
  rows-low-more low low' shallow before (inr (listing, end)) = inr (count, listing-last listing, shallow, omega (arith, end))

  pub records-low-more : (low low' : ℕ) → IsDeepState plan count → IsLowOfRecords plan count low → (low' ≡ low) ⊎ (Listing count × (low' ≡ number_in plan count + 1)) → IsLowOfRecords plan (count + 1) low'
  records-low-more low low' deep before (inl same) =
      elim (records-low-kept low before) [
        | inl first ↦ inl (omega (arith, same, first))
        | inr found ↦ inr (found.0, found.1, found.2, omega (arith, same, found.3))
      ]
  records-low-more low low' deep before (inr (listing, end)) = inr (count, listing-last listing, deep, omega (arith, end))
