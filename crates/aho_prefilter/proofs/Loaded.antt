-- What vectors hold that were looked up at bytes that were loaded.
use Rattle.std.proofs.Common.{bit_and, ℕ, ◌+◌, List, get_or, ap, ◌∙◌, arith}
use Rattle.std.specs.Simd.Lanes.{zip2}
use Rattle.aho_prefilter.specs.Packed.{HasLanes}
use Rattle.aho_prefilter.proofs.Lanes.{HasLanes-zip2}

-- what is looked up at the bytes from a place on
pub of_first : (g : ℕ → ℕ) (bytes lanes loaded : List ℕ) (at : ℕ) → HasLanes loaded (λ k. get_or bytes (at + k) 0) → HasLanes lanes (λ k. g (get_or loaded k 0))
    → HasLanes lanes (λ k. g (get_or bytes (at + k) 0))
of_first g bytes lanes loaded at load has = record { long = has.long; each = λ k l. has.each k l ∙ ap g (load.each k l) }

-- and at those from one on that is so many places behind it
pub of_behind : (g : ℕ → ℕ) (bytes lanes loaded : List ℕ) (at j : ℕ) → HasLanes loaded (λ k. get_or bytes (at + j + k) 0) → HasLanes lanes (λ k. g (get_or loaded k 0))
    → HasLanes lanes (λ k. g (get_or bytes (at + k + j) 0))
of_behind g bytes lanes loaded at j load has = record {
  long = has.long;
  each = λ k l. has.each k l ∙ ap g (load.each k l ∙ ap (λ i. get_or bytes i 0) (omega arith));
}

-- two vectors, lane by lane
pub both : (a b : List ℕ) (f g : ℕ → ℕ) → HasLanes a f → HasLanes b g → HasLanes (zip2 bit_and a b) (λ k. bit_and (f k) (g k))
both a b f g has_a has_b =
    let two = HasLanes-zip2 bit_and a b has_a.long has_b.long in
    record {
      long = two.long;
      each = λ k l. two.each k l ∙ ap (λ (x : ℕ). bit_and x (get_or b k 0)) (has_a.each k l) ∙ ap (bit_and (f k)) (has_b.each k l);
    }
