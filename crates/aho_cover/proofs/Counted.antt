-- Runs that are counted, some after others.
use Rattle.std.proofs.Common.{◌≡◌, ℕ, ◌+◌, Bool, true, false, List, [], ◌∷◌, ◌++◌, length, refl, ◌∙◌, ap, arith, append-nil}
use Rattle.std.specs.Prelude.{filter, if◌then◌else◌, nat_eq}
use Rattle.aho_core.specs.Occurrence.{Occurrence}
use Rattle.aho_cover.specs.Counting.{CountsThese, Output, output_of, put_on, runs_named}

-- those of a pattern among two lists, one after the other
named-both : (number : ℕ) (some more : List Occurrence) → runs_named number (some ++ more) ≡ runs_named number some + runs_named number more
named-both number [] more = let none : runs_named number [] ≡ 0 = refl in omega (arith, none)
named-both number (x ∷ some) more = by_test (nat_eq x.pattern number) (named-both number some more)
  where
    by_test : (b : Bool) → length (filter (λ (run : Occurrence). nat_eq run.pattern number) (some ++ more)) ≡ length (filter (λ (run : Occurrence). nat_eq run.pattern number) some) + runs_named number more
        → length (if b then x ∷ filter (λ (run : Occurrence). nat_eq run.pattern number) (some ++ more) else filter (λ (run : Occurrence). nat_eq run.pattern number) (some ++ more))
        ≡ length (if b then x ∷ filter (λ (run : Occurrence). nat_eq run.pattern number) some else filter (λ (run : Occurrence). nat_eq run.pattern number) some) + runs_named number more
    by_test true same = omega (arith, same)
    by_test false same = same

-- none is counted
pub counts_none : (counts : List ℕ) → CountsThese [] counts counts
counts_none counts = record { as_many = refl; grown = λ number within. omega arith }

-- some, and then more
pub counts_then : (some more : List Occurrence) (one two three : List ℕ) → CountsThese some one two → CountsThese more two three → CountsThese (some ++ more) one three
counts_then some more one two three first second = record {
  as_many = second.as_many ∙ first.as_many;
  grown = λ number within.
      omega (arith, named-both number some more, first.grown number within, second.grown number (omega (arith, first.as_many, within)));
}

-- nothing more was written
pub put_nothing : (written : Output) → put_on written [] [] ≡ written
put_nothing written =
    ap (λ (bytes : List ℕ). output_of bytes (written.runs ++ [])) (append-nil written.bytes) ∙ ap (output_of written.bytes) (append-nil written.runs)
