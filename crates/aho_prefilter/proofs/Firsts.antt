-- The first place of a part, and of a longer one.
use Rattle.std.proofs.Common.{ℕ, ◌≤◌, inl, inr, arith}
use Rattle.std.specs.Prelude.{Option, Some, None}
use Rattle.std.proofs.lemmas.Bool.{cases_lt}
use Rattle.memchr.specs.Find.{IsFirst, Nowhere}

-- past a part where there is none
pub first_after : (P : ℕ → Type 0) (i j n : ℕ) (r : Option ℕ) → i ≤ j → Nowhere P i j → IsFirst P j n r → IsFirst P i n r
first_after P i j n None ordered none first = λ k low high.
    elim (cases_lt k j) [ inl before ↦ none k low before | inr after ↦ first k (omega arith) high ]
first_after P i j n (Some at) ordered none first = (
  record {
    low = omega (arith, first.0.low);
    high = first.0.high;
    before = λ k low high.
        elim (cases_lt k j) [ inl before ↦ none k low before | inr after ↦ first.0.before k (omega arith) high ];
  },
  first.1,
)

-- the first one of a part is the first one of what goes on behind it
pub first_within : (P : ℕ → Type 0) (i j n at : ℕ) → j ≤ n → IsFirst P i j (Some at) → IsFirst P i n (Some at)
first_within P i j n at wider found = (record { low = found.0.low; high = omega (arith, found.0.high); before = found.0.before }, found.1)
