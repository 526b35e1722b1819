-- The last byte that leads to a state, as its transitions are gone through.
use Rattle.std.proofs.Common.{◌≡◌, ◌≢◌, ℕ, zero, suc, ◌<◌, List, [], ◌∷◌, ◌++◌, length, get_or, take, refl, sym, ap, ◌∙◌, subst, arith}
use Rattle.std.specs.Prelude.{Option, Some, None}
use Rattle.std.specs.List.{All}
use Rattle.std.proofs.lemmas.List.{append_assoc}
use Rattle.std.proofs.lemmas.List.Elements.{All-append}
use Rattle.aho_table.proofs.Fronts.{front_more}
use Rattle.acdraw.specs.Words.{IsLastTo}

module _ (transitions yielded : List (ℕ × ℕ)) (byte next sid : ℕ) (below : length yielded < length transitions) (is : (byte, next) ≡ get_or transitions (length yielded) (byte, next)) where
  abbrev before : List (ℕ × ℕ)
  before = take (length yielded) transitions

  abbrev after : List (ℕ × ℕ)
  after = take (length (yielded ++ (byte, next) ∷ [])) transitions

  more : after ≡ before ++ (byte, next) ∷ []
  more = sym (front_more transitions yielded before (byte, next) refl below is)

  -- this one leads there
  pub last_here : next ≡ sid → IsLastTo sid after (Some byte)
  last_here same = (before, [], more ∙ ap (λ (n : ℕ). before ++ (byte, n) ∷ []) same, λ k d lt. absurd (omega arith))

  -- this one leads elsewhere
  elsewhere : next ≢ sid → All (λ (transition : ℕ × ℕ). transition.1 ≢ sid) ((byte, next) ∷ [])
  elsewhere other zero d lt = other
  elsewhere other (suc k) d lt = absurd (omega arith)

  pub last_before : next ≢ sid → (last : Option ℕ) → IsLastTo sid before last → IsLastTo sid after last
  last_before other None none =
      subst (All (λ (transition : ℕ × ℕ). transition.1 ≢ sid)) (sym more) (All-append (λ (transition : ℕ × ℕ). transition.1 ≢ sid) before ((byte, next) ∷ []) none (elsewhere other))
  last_before other (Some found) last = (
    last.0,
    last.1 ++ (byte, next) ∷ [],
    more ∙ ap (λ (l : List (ℕ × ℕ)). l ++ (byte, next) ∷ []) last.2 ∙ append_assoc last.0 ((found, sid) ∷ last.1) ((byte, next) ∷ []),
    All-append (λ (transition : ℕ × ℕ). transition.1 ≢ sid) last.1 ((byte, next) ∷ []) last.3 (elsewhere other),
  )
