-- A text stands in a line from a place on where it occurs in what is left of the line there.
use Rattle.std.proofs.Common.{◌≡◌, ℕ, ◌+◌, ◌-◌, ◌≤◌, List, length, drop, get_or, Option, None, Some, is_some, IsTrue, sym, ap, ◌∙◌, refl, arith, length-drop}
use Rattle.std.proofs.lemmas.List.{get_or-drop}
use Rattle.memchr.specs.Find.{FindsNeedle, OccursAt}
use Rattle.secret_rules.specs.Standing.{StandsFrom}

module _ (line text : List ℕ) (from : ℕ) (within : from ≤ length line) where
  OccursAt-of_part : (k : ℕ) → OccursAt (drop from line) text k → OccursAt line text (from + k)
  OccursAt-of_part k h =
      let left : length (drop from line) ≡ length line - from = length-drop from line in
      let fits : k + length text ≤ length (drop from line) = h.fits in
      record {
        fits = omega arith;
        reads = λ j low. let along : from + k + j ≡ from + (k + j) = omega arith in
            ap (λ i. get_or line i 0) along ∙ sym (get_or-drop from line (k + j) 0) ∙ h.reads j low;
      }

  OccursAt-part : (at : ℕ) → from ≤ at → OccursAt line text at → OccursAt (drop from line) text (at - from)
  OccursAt-part at low h =
      let left : length (drop from line) ≡ length line - from = length-drop from line in
      let fits : at + length text ≤ length line = h.fits in
      record {
        fits = omega arith;
        reads = λ j under. let along : from + (at - from + j) ≡ at + j = omega arith in
            get_or-drop from line (at - from + j) 0 ∙ ap (λ i. get_or line i 0) along ∙ h.reads j under;
      }

  pub StandsFrom-found : (r : Option ℕ) → FindsNeedle (drop from line) text 0 r
      → (IsTrue (is_some r) → StandsFrom text line from) × (StandsFrom text line from → IsTrue (is_some r))
  StandsFrom-found (Some k) h = (λ _. (from + k, omega arith, OccursAt-of_part k h.1), λ _. refl)
  StandsFrom-found None h = (
    λ no. absurd cc,
    λ (s : StandsFrom text line from).
        let left : length (drop from line) ≡ length line - from = length-drop from line in
        let fits : s.0 + length text ≤ length line = s.2.fits in
        absurd (h (s.0 - from) (omega arith) (omega (arith, s.1)) (OccursAt-part s.0 s.1 s.2)),
  )
