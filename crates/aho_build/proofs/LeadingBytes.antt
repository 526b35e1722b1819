-- How many bytes are the same as one byte: the byte, and its other case under the case rule.
use Rattle.std.proofs.Common.{◌≡◌, ℕ, zero, suc, ◌+◌, ◌<◌, ◌≤◌, Bool, true, false, not, ◌&&◌, cond, nat_eq, refl, ap, ◌∙◌, inl, inr, arith}
use Rattle.std.proofs.lemmas.Bool.{and_parts, cases_eq, eqb-true}
use Rattle.std.specs.Prelude.{count_by}
use Rattle.std.specs.List.{list_all, range_with_len}
use Rattle.aho_core.specs.Bytes.{folded_by, opposite}

-- what a test says of each number of a range
all-range : (f : ℕ → Bool) (a n k : ℕ) → list_all f (range_with_len a n) ≡ true → a ≤ k → k < a + n → f k ≡ true
all-range f a zero k all low high = absurd (omega arith)
all-range f a (suc n) k all low high =
    let both = and_parts (f a) (list_all f (range_with_len (a + 1) n)) all in
    elim (cases_eq k a) [
      | inl same ↦ ap f same ∙ both.0
      | inr apart ↦ all-range f (a + 1) n k both.1 (omega arith) (omega arith)
    ]

abbrev same_count : Bool → ℕ → ℕ
same_count ignore_case byte = count_by (λ other. nat_eq (folded_by ignore_case other) (folded_by ignore_case byte)) (range_with_len 0 256)

abbrev is_right : Bool → ℕ → Bool
is_right ignore_case byte = nat_eq (same_count ignore_case byte) (1 + cond (ignore_case && not (nat_eq (opposite byte) byte)) 1 0)

plain_right : list_all (is_right false) (range_with_len 0 256) ≡ true
plain_right = refl

folded_right : list_all (is_right true) (range_with_len 0 256) ≡ true
folded_right = refl

pub leading_count : (ignore_case : Bool) (byte : ℕ) → byte < 256
    → count_by (λ other. nat_eq (folded_by ignore_case other) (folded_by ignore_case byte)) (range_with_len 0 256) ≡ 1 + cond (ignore_case && not (nat_eq (opposite byte) byte)) 1 0
leading_count ignore_case byte small = eqb-true (same_count ignore_case byte) (1 + cond (ignore_case && not (nat_eq (opposite byte) byte)) 1 0) (by ignore_case)
  where
    by : (b : Bool) → is_right b byte ≡ true
    by false = all-range (is_right false) 0 256 byte plain_right (omega arith) small
    by true = all-range (is_right true) 0 256 byte folded_right (omega arith) small
