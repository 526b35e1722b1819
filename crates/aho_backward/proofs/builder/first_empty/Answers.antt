-- One pattern more that is not empty.
use Rattle.std.proofs.Common.{◌≡◌, ◌<◌, inl, inr, ℕ, Bool, false, eqb, List, [], get_or, length, sym, subst, arith}
use Rattle.std.specs.Prelude.{◌≢◌, slice_index_or}
use denote.Ref.{Bor}
use Rattle.std.proofs.lemmas.Bool.{cases_lt}
use Rattle.std.proofs.lemmas.List.{get_or-map}
use Rattle.aho_core.specs.Replacement.{pieces_of}
use Rattle.aho_build.proofs.NumberTests.{same-false}
use Rattle.aho_backward.proofs.builder.first_empty.Goals as goal

-- the word of a slice that has some bytes is not empty
full-at : (patterns : List (Bor (List ℕ))) (number : ℕ) (d : Bor (List ℕ)) (is_empty : Bool) → is_empty ≡ eqb (length (get_or patterns number d).now) 0 → is_empty ≡ false → number < length patterns
    → 0 < length (slice_index_or (pieces_of patterns) number [])
full-at patterns number d is_empty is other lt =
    let apart : length (get_or patterns number d).now ≢ 0 = same-false is_empty (length (get_or patterns number d).now) 0 is other in
    subst (λ (w : List ℕ). 0 < length w) (sym (get_or-map (λ (piece : Bor (List ℕ)). piece.now) patterns number d [] lt)) (omega (arith, apart))

pub loop-number-preserved : goal.loop-number-preserved
loop-number-preserved c = λ other lt.
    elim (cases_lt other c.loop-number.number) [
      | inl before ↦ c.loop-number.invariant other before
      | inr here ↦
          (let is : c.loop-number.number ≡ other = omega arith in
          subst (λ (k : ℕ). 0 < length (slice_index_or (pieces_of c.args.patterns.now) k [])) is
          (full-at c.args.patterns.now c.loop-number.number _ c.is_empty.result c.is_empty.ensures c.if-is_empty.false (omega arith)))
    ]
