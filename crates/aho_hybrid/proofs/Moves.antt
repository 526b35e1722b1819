-- Transitions that stand one behind the other: a byte, and where it leads.
use Rattle.std.proofs.Common.{◌≡◌, ◌≢◌, ◌∙◌, sym, ◌+◌, ◌-◌, ◌*◌, ◌<◌, ◌≤◌, ℕ, zero, suc, List, [], ◌∷◌, nat_eq, length, drop, get_or, ap, refl, arith}
use Rattle.std.specs.Prelude.{None}
use Rattle.std.proofs.lemmas.Bool.{cond-false, ne_eqb}
use Rattle.std.proofs.lemmas.List.{drop_more, length-drop}
use Rattle.aho_hybrid.specs.Layout.{child_of}

module _ (moves : List ℕ) (at byte : ℕ) where
  two : at + 1 < length moves → drop at moves ≡ get_or moves at 0 ∷ get_or moves (at + 1) 0 ∷ drop (at + 1 + 1) moves
  two within = drop_more moves at 0 (omega (arith, within)) ∙ ap (λ (l : List ℕ). get_or moves at 0 ∷ l) (drop_more moves (at + 1) 0 within)

  -- or it is of another one
  pub child-next : at + 1 < length moves → get_or moves at 0 ≢ byte → child_of (drop at moves) byte ≡ child_of (drop (at + 1 + 1) moves) byte
  child-next within other = ap (λ (l : List ℕ). child_of l byte) (two within) ∙ cond-false (nat_eq (get_or moves at 0) byte) _ _ (ne_eqb (get_or moves at 0) byte other)

-- or there is none
pub child-end : (moves : List ℕ) (at byte : ℕ) → length moves ≤ at + 1 → child_of (drop at moves) byte ≡ None
child-end moves at byte past = short (drop at moves) (omega (arith, length-drop at moves, past))
  where
    short : (l : List ℕ) → length l ≤ 1 → child_of l byte ≡ None
    short [] one = refl
    short (key ∷ []) one = refl
    short (key ∷ next ∷ l) one = absurd (omega (arith, one))

-- transitions of other bytes tell nothing of this one
pub child-past : (moves : List ℕ) (low high byte : ℕ) → low ≤ high → 2 * high ≤ length moves → ((i : ℕ) → low ≤ i → i < high → get_or moves (2 * i) 0 ≢ byte)
    → child_of (drop (2 * high) moves) byte ≡ child_of (drop (2 * low) moves) byte
child-past moves low high byte ordered within others =
    let whole : low + (high - low) ≡ high = omega (arith, ordered) in
    ap (λ (n : ℕ). child_of (drop (2 * n) moves) byte) (sym whole)
    ∙ past-so-many (high - low) (omega (arith, within, whole)) (λ i less. others (low + i) (omega arith) (omega (arith, less, whole)))
  where
    past-so-many : (count : ℕ) → 2 * (low + count) ≤ length moves → ((i : ℕ) → i < count → get_or moves (2 * (low + i)) 0 ≢ byte)
        → child_of (drop (2 * (low + count)) moves) byte ≡ child_of (drop (2 * low) moves) byte
    past-so-many zero within others = ap (λ (n : ℕ). child_of (drop n moves) byte) (let same : 2 * (low + zero) ≡ 2 * low = omega arith in same)
    past-so-many (suc count) within others =
        let next : 2 * (low + suc count) ≡ 2 * (low + count) + 1 + 1 = omega arith in
        ap (λ (n : ℕ). child_of (drop n moves) byte) next
        ∙ sym (child-next moves (2 * (low + count)) byte (omega (arith, within)) (others count (omega arith)))
        ∙ past-so-many count (omega (arith, within)) (λ i less. others i (omega (arith, less)))

-- where all from here on are of other bytes there is none
pub child-none : (moves : List ℕ) (low count byte : ℕ) → low ≤ count → 2 * count ≤ length moves → length moves ≤ 2 * count + 1
    → ((i : ℕ) → low ≤ i → i < count → get_or moves (2 * i) 0 ≢ byte) → child_of (drop (2 * low) moves) byte ≡ None
child-none moves low count byte ordered within all others =
    sym (child-past moves low count byte ordered within others) ∙ child-end moves (2 * count) byte (omega (arith, all))
