-- What is written over the begin of a room.
use Rattle.std.proofs.Common.{◌≡◌, ℕ, suc, ◌≤◌, ◌<◌, List, [], ◌∷◌, ◌++◌, length, set, drop, refl, sym, ap, ◌∙◌, subst, inl, inr, arith}
use Rattle.std.specs.Prelude.{min}
use Rattle.std.proofs.lemmas.Bool.{cases_lt}
use Rattle.chromesquid_c.specs.Matches.{written_over}

module _ {A : Type 0} where
  -- nothing changes nothing
  pub written-nothing : (room : List A) → written_over room [] ≡ room
  written-nothing [] = refl
  written-nothing (old ∷ room) = refl

  -- one more stands behind the others
  pub written-more : (room items : List A) (item : A) → length items < length room → set (written_over room items) (length items) item ≡ written_over room (items ++ item ∷ [])
  written-more [] items item below = absurd (omega arith)
  written-more (old ∷ room) [] item below = ap (λ (r : List A). item ∷ r) (sym (written-nothing room))
  written-more (old ∷ room) (first ∷ items) item below = ap (λ (r : List A). first ∷ r) (written-more room items item (omega arith))

  -- or is left out, where there is no room
  pub written-full : (room items : List A) (item : A) → length room ≤ length items → written_over room items ≡ written_over room (items ++ item ∷ [])
  written-full [] items item full = refl
  written-full (old ∷ room) [] item full = absurd (omega arith)
  written-full (old ∷ room) (first ∷ items) item full = ap (λ (r : List A). first ∷ r) (written-full room items item (omega arith))

  -- the room keeps its length
  pub length-written : (room items : List A) → length (written_over room items) ≡ length room
  length-written [] items = refl
  length-written (old ∷ room) [] = refl
  length-written (old ∷ room) (item ∷ items) = ap (λ (n : ℕ). suc n) (length-written room items)

  -- what fits stands whole before the rest of the room
  pub written-fits : (room items : List A) → length items ≤ length room → items ++ drop (length items) room ≡ written_over room items
  written-fits [] [] fits = refl
  written-fits [] (item ∷ items) fits = absurd (omega arith)
  written-fits (old ∷ room) [] fits = refl
  written-fits (old ∷ room) (item ∷ items) fits = ap (λ (r : List A). item ∷ r) (written-fits room items (omega arith))

  -- what `put` leaves, where as many came before as are counted
  pub written-put : (room items after : List A) (item : A) (at : ℕ) → at ≡ min (length items) 18446744073709551615 → length room ≤ 18446744073709551615
      → (at < length (written_over room items) → after ≡ set (written_over room items) at item) → (length (written_over room items) ≤ at → after ≡ written_over room items)
      → after ≡ written_over room (items ++ item ∷ [])
  written-put room items after item at counted short put full =
      let long = length-written room items in
      elim (cases_lt (length items) (length room)) [
        | inl below ↦
            (let here : length items ≡ at = omega arith in
            put (omega arith) ∙ subst (λ (k : ℕ). set (written_over room items) k item ≡ written_over room (items ++ item ∷ [])) here (written-more room items item below))
        | inr upto ↦ full (omega arith) ∙ written-full room items item upto
      ]
