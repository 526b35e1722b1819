-- The transitions of a record rise by their bytes, as those of a state do.
use Rattle.std.proofs.Common.{◌≡◌, ◌≢◌, ◌+◌, ◌*◌, ◌<◌, ℕ, zero, suc, List, [], ◌∷◌, nat_eq, length, get_or, ap, subst, sym, inl, inr, arith, eq-eqb, ne_eqb}
use Rattle.std.specs.List.{All}
use Rattle.std.proofs.lemmas.Bool.{cases_eq, cond-true, cond-false}
use Rattle.std.proofs.lemmas.List.Elements.{All-head, All-tail}
use Rattle.aho_table.specs.Table.{IsRising}
use Rattle.aho_hybrid.specs.Filled.{flat, number_or_zero}
use Rattle.aho_hybrid.specs.Layout.{AreRisingMoves}

-- the transitions behind the first one
behind : (byte next : ℕ) (moves : List ℕ) (j : ℕ) → get_or (byte ∷ next ∷ moves) (2 * suc j) 0 ≡ get_or moves (2 * j) 0
behind byte next moves j = ap (λ (n : ℕ). get_or (byte ∷ next ∷ moves) n 0) (let two : 2 * suc j ≡ suc (suc (2 * j)) = omega arith in two)

-- their bytes are above this one
abbrev IsAbove : ℕ → List ℕ → Type 0
IsAbove byte moves = (j : ℕ) → 2 * j + 1 < length moves → byte < get_or moves (2 * j) 0

put-above : (byte key next : ℕ) (moves : List ℕ) → byte < key → IsAbove byte moves → IsAbove byte (key ∷ next ∷ moves)
put-above byte key next moves first rest zero within = first
put-above byte key next moves first rest (suc j) within = omega (arith, behind key next moves j, rest j (omega (arith, within)))

-- one of a smaller byte before them
put : (byte next : ℕ) (moves : List ℕ) → IsAbove byte moves → AreRisingMoves moves → AreRisingMoves (byte ∷ next ∷ moves)
put byte next moves above rest i zero less within = absurd (omega (arith, less))
put byte next moves above rest zero (suc j) less within = omega (arith, behind byte next moves j, above j (omega (arith, within)))
put byte next moves above rest (suc i) (suc j) less within =
    omega (arith, behind byte next moves i, behind byte next moves j, rest i j (omega (arith, less)) (omega (arith, within)))

module _ (numbers : List ℕ) where
  flat-skips : (transition : ℕ × ℕ) (transitions : List (ℕ × ℕ)) → transition.1 ≡ 1 → flat numbers (transition ∷ transitions) ≡ flat numbers transitions
  flat-skips transition transitions fails = cond-true (nat_eq transition.1 1) _ _ (eq-eqb transition.1 1 fails)

  flat-keeps : (transition : ℕ × ℕ) (transitions : List (ℕ × ℕ)) → transition.1 ≢ 1
      → flat numbers (transition ∷ transitions) ≡ transition.0 ∷ number_or_zero numbers transition.1 ∷ flat numbers transitions
  flat-keeps transition transitions leads = cond-false (nat_eq transition.1 1) _ _ (ne_eqb transition.1 1 leads)

  -- what is above a byte stays so
  flat-above : (byte : ℕ) (transitions : List (ℕ × ℕ)) → All (λ later. byte < later.0) transitions
      → IsAbove byte (flat numbers transitions)
  flat-above byte [] above = λ j within. absurd (omega (arith, within))
  flat-above byte (transition ∷ transitions) above =
      let first : byte < transition.0 = All-head (λ (later : ℕ × ℕ). byte < later.0) transition transitions above in
      let rest = flat-above byte transitions (All-tail (λ (later : ℕ × ℕ). byte < later.0) transition transitions above) in
      elim (cases_eq transition.1 1) [
        | inl fails ↦ subst (λ (l : List ℕ). IsAbove byte l) (sym (flat-skips transition transitions fails)) rest
        | inr leads ↦ subst (λ (l : List ℕ). IsAbove byte l) (sym (flat-keeps transition transitions leads))
            (put-above byte transition.0 (number_or_zero numbers transition.1) (flat numbers transitions) first rest)
      ]

  pub flat-rising : (transitions : List (ℕ × ℕ)) → IsRising transitions → AreRisingMoves (flat numbers transitions)
  flat-rising [] rising = λ i j less within. absurd (omega (arith, within))
  flat-rising (transition ∷ transitions) rising =
      elim (cases_eq transition.1 1) [
        | inl fails ↦ subst AreRisingMoves (sym (flat-skips transition transitions fails)) (flat-rising transitions rising.1)
        | inr leads ↦ subst AreRisingMoves (sym (flat-keeps transition transitions leads))
            (put transition.0 (number_or_zero numbers transition.1) (flat numbers transitions) (flat-above transition.0 transitions rising.0) (flat-rising transitions rising.1))
      ]
