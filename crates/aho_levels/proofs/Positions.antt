-- Where a byte stands among some, looked through one after another.
use Rattle.std.proofs.Common.{◌≡◌, ◌≢◌, ◌∙◌, sym, ◌+◌, ◌<◌, ◌≤◌, ℕ, zero, suc, List, [], ◌∷◌, nat_eq, length, drop, get_or, ap, refl, arith}
use Rattle.std.specs.Prelude.{None}
use Rattle.std.proofs.lemmas.Bool.{cond-false, ne_eqb}
use Rattle.std.proofs.lemmas.List.{drop_more}
use Rattle.aho_levels.specs.Layout.{position_of}

-- or it is another one
pub position-next : (xs : List ℕ) (low byte at : ℕ) → low < length xs → get_or xs low 0 ≢ byte → position_of (drop low xs) byte at ≡ position_of (drop (low + 1) xs) byte (at + 1)
position-next xs low byte at within other =
    ap (λ (l : List ℕ). position_of l byte at) (drop_more xs low 0 within) ∙ cond-false (nat_eq (get_or xs low 0) byte) _ _ (ne_eqb (get_or xs low 0) byte other)

-- other bytes tell nothing of this one
pub position-past : (count : ℕ) (xs : List ℕ) (byte at : ℕ) → count ≤ length xs → ((i : ℕ) → i < count → get_or xs i 0 ≢ byte) → position_of (drop count xs) byte (at + count) ≡ position_of xs byte at
position-past zero xs byte at within others = ap (position_of xs byte) (let same : at + zero ≡ at = omega arith in same)
position-past (suc count) xs byte at within others =
    let next : suc count ≡ count + 1 = omega arith in
    let further : at + suc count ≡ at + count + 1 = omega arith in
    ap (λ (n : ℕ). position_of (drop n xs) byte (at + suc count)) next
    ∙ ap (λ (n : ℕ). position_of (drop (count + 1) xs) byte n) further
    ∙ sym (position-next xs count byte (at + count) (omega (arith, within)) (others count (omega arith)))
    ∙ position-past count xs byte at (omega (arith, within)) (λ i less. others i (omega (arith, less)))

-- where all are other bytes there is none
pub position-none : (xs : List ℕ) (byte at : ℕ) → ((i : ℕ) → i < length xs → get_or xs i 0 ≢ byte) → position_of xs byte at ≡ None
position-none [] byte at others = refl
position-none (x ∷ xs) byte at others =
    cond-false (nat_eq x byte) _ _ (ne_eqb x byte (others 0 (omega arith)))
    ∙ position-none xs byte (at + 1) (λ i less. others (suc i) (omega (arith, less)))

-- from a place on
pub position-none_from : (xs : List ℕ) (low byte at : ℕ) → ((i : ℕ) → low ≤ i → i < length xs → get_or xs i 0 ≢ byte) → position_of (drop low xs) byte at ≡ None
position-none_from xs zero byte at others = position-none xs byte at (λ i less. others i (omega arith) less)
position-none_from [] (suc low) byte at others = refl
position-none_from (x ∷ xs) (suc low) byte at others = position-none_from xs low byte at (λ i from less. others (suc i) (omega (arith, from)) (omega (arith, less)))
