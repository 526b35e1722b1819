-- Lines that are counted, some after others, and what is told of their counts.
use Rattle.acgrep.proofs.Common.{common_steps, length-map}
use Rattle.std.proofs.Common.{◌++◌, ◌+◌, ◌-◌, ◌<◌, ◌^◌, ◌∙◌, ◌∷◌, ◌≡◌, List, [], arith, length, min, refl, subst, suc, ℕ}
use Rattle.std.specs.Prelude.{slice_index}
use Rattle.acgrep.specs.Lines.{lines}
use Rattle.acgrep.specs.Tallies.{CountsLines, count_of, counts_table, rows_counted, rows_from, zeros_of}

-- the lines of two lists, one after the other
count-both : (number : ℕ) (some more : List (List ℕ)) → count_of number (some ++ more) ≡ count_of number some + count_of number more
count-both number some more = grind (arith, common_steps)

-- a line was counted, and then others
pub counts-more : (line : List ℕ) (more : List (List ℕ)) (one two three : List ℕ) → CountsLines (line ∷ []) one two → CountsLines more two three → CountsLines (line ∷ more) one three
counts-more line more one two three first others = record {
  as_many = others.as_many ∙ first.as_many;
  grown = λ number within. omega (arith, count-both number (line ∷ []) more, first.grown number within, others.grown number (omega (arith, first.as_many, within)));
}

pub counts-none : (counts : List ℕ) → CountsLines [] counts counts
counts-none counts = record { as_many = refl; grown = λ number within. omega arith }

-- what is told of counts
rows-same : (number : ℕ) (patterns found : List (List ℕ)) (counts : List ℕ) → length counts ≡ length patterns
    → ((i : ℕ) → i < length counts → slice_index counts i ≡ min (count_of (number + i) found) (2 ^ 64 - 1)) → rows_counted number patterns counts ≡ rows_from number patterns found
rows-same number [] found counts as_many are = refl
rows-same number (pattern ∷ patterns) found [] as_many are = absurd (omega (arith, as_many))
rows-same number (pattern ∷ patterns) found (count ∷ counts) as_many are =
    let here : number + 0 ≡ number = omega arith in
    let first : count ≡ min (count_of number found) (2 ^ 64 - 1) = subst (λ (n : ℕ). count ≡ min (count_of n found) (2 ^ 64 - 1)) here (are 0 (omega arith)) in
    let behind : (i : ℕ) → i < length counts → slice_index counts i ≡ min (count_of ((number + 1) + i) found) (2 ^ 64 - 1) =
    λ i low. subst (λ (n : ℕ). slice_index counts i ≡ min (count_of n found) (2 ^ 64 - 1)) (omega arith) (are (suc i) (omega (arith, low))) in
    let more : rows_counted (number + 1) patterns counts ≡ rows_from (number + 1) patterns found = rows-same (number + 1) patterns found counts (omega (arith, as_many)) behind in
    rw first (rw more refl)

zero-at : (patterns : List (List ℕ)) (i : ℕ) → slice_index (zeros_of patterns) i ≡ 0
zero-at (pattern ∷ patterns) (suc i) = zero-at patterns i
zero-at _ _ = refl

-- where the lines of a text were counted from 0 on
pub table-told : (ending : ℕ) (patterns : List (List ℕ)) (numbers counts : List ℕ) → CountsLines (lines ending numbers) (zeros_of patterns) counts → rows_counted 0 patterns counts ≡ counts_table ending patterns numbers
table-told ending patterns numbers counts are =
    let zeros : length (zeros_of patterns) ≡ length patterns = length-map patterns (λ pattern. 0) in
    rows-same 0 patterns (lines ending numbers) counts (are.as_many ∙ zeros)
    (λ i low.
    let here : i ≡ 0 + i = omega arith in
    let is : slice_index counts i ≡ min (count_of i (lines ending numbers)) (2 ^ 64 - 1) = omega (arith, are.grown i (omega (arith, are.as_many, low)), zero-at patterns i) in
    subst (λ (n : ℕ). slice_index counts i ≡ min (count_of n (lines ending numbers)) (2 ^ 64 - 1)) here is)

-- without counts no row is there
pub rows-end : (number : ℕ) (patterns : List (List ℕ)) → rows_counted number patterns [] ≡ []
rows-end number [] = refl
rows-end number (pattern ∷ patterns) = refl
