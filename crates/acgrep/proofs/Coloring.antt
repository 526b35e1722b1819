-- Matches that are written one after another.
use Rattle.acgrep.proofs.Common.{Appends, Appends-trans, Occurrence, Place, Style, common_steps}
use Rattle.std.proofs.Common.{◌++◌, ◌∙◌, ◌∷◌, ◌≡◌, List, Option, [], ap, append-nil, append_assoc, arith, subst, sym, ℕ}
use Rattle.acgrep.specs.Matches.{behind_by, found_by, rest_behind, shown_from}
use Rattle.acgrep.specs.declared.matches.Shape.{Shape}

-- these matches were written, and the next begin at a place: where others are written from there on, all are
abbrev pub PutSoFar : Shape → Style → Place → List ℕ → List Occurrence → ℕ → (old new : Option (List ℕ)) → Type 0
PutSoFar shape style place line ms at old new = (rest : List Occurrence) (end : Option (List ℕ)) → Appends new end (shown_from shape style place line at rest)
    → Appends old end (shown_from shape style place line 0 (ms ++ rest))

shown_more : (shape : Shape) (style : Style) (place : Place) (line : List ℕ) (at : ℕ) (m : Occurrence) (rest : List Occurrence)
    → shown_from shape style place line at (m ∷ rest) ≡ found_by shape style place line at m ++ shown_from shape style place line (behind_by shape at m) rest
shown_more shape style place line at m rest = grind (arith, common_steps)

shown_last : (shape : Shape) (style : Style) (place : Place) (line : List ℕ) (at : ℕ) → shown_from shape style place line at [] ≡ rest_behind shape line at
shown_last shape style place line at = grind (arith, common_steps)

module _ (shape : Shape) (style : Style) (place : Place) (line : List ℕ) where
  -- one more
  pub put_step : (ms : List Occurrence) (m : Occurrence) (at behind : ℕ) (x y z : Option (List ℕ)) → behind ≡ behind_by shape at m → Appends y z (found_by shape style place line at m)
      → PutSoFar shape style place line ms at x y → PutSoFar shape style place line (ms ++ (m ∷ [])) behind x z
  put_step ms m at behind x y z is written so_far rest end others =
      let found = found_by shape style place line at m in
      subst (λ (l : List Occurrence). Appends x end (shown_from shape style place line 0 l)) (sym (append_assoc ms (m ∷ []) rest)) (so_far (m ∷ rest) end
      (subst (Appends y end) (ap (λ (n : ℕ). found ++ shown_from shape style place line n rest) is ∙ sym (shown_more shape style place line at m rest))
      (Appends-trans y z end found (shown_from shape style place line behind rest) written others)))

  -- and what follows the last
  pub put_end : (ms : List Occurrence) (at : ℕ) (x y z : Option (List ℕ)) → Appends y z (rest_behind shape line at) → PutSoFar shape style place line ms at x y → Appends x z (shown_from shape style place line 0 ms)
  put_end ms at x y z written so_far = subst (λ (l : List Occurrence). Appends x z (shown_from shape style place line 0 l)) (append-nil ms)
      (so_far [] z (subst (Appends y z) (sym (shown_last shape style place line at)) written))
