-- What a list of transitions that rises by byte answers, and what one entry more makes of it.
use Rattle.std.proofs.Common.{◌≡◌, ℕ, ◌+◌, ◌<◌, ◌≢◌, cond, nat_eq, false, List, [], ◌∷◌, length, get_or, refl, sym, ap, ◌∙◌, inl, inr, arith, zero, suc}
use Rattle.std.proofs.lemmas.Bool.{cases_order}
use Rattle.std.proofs.lemmas.List.Elements.{All-cons}
use Rattle.std.specs.List.{All}
use Rattle.aho_table.specs.Table.{transition_at, with_transition, lists_transition, IsRising}
pub use Rattle.aho_table.proofs.TransitionRuns.{transition_at-same, transition_at-other, lists_transition-same, lists_transition-other, lists_transition-none, with_transition-more, with_transition-same, with_transition-less}

-- ---- the byte's entry stands at this place

pub transition_at-at : (transitions : List (ℕ × ℕ)) (i byte : ℕ) (d : ℕ × ℕ) → IsRising transitions → i < length transitions → (get_or transitions i d).0 ≡ byte
    → transition_at transitions byte ≡ (get_or transitions i d).1
transition_at-at [] i byte d rising below same = absurd (omega arith)
transition_at-at (transition ∷ transitions) zero byte d rising below same = transition_at-same transition transitions byte same
transition_at-at (transition ∷ transitions) (suc i) byte d rising below same =
    let within : i < length transitions = omega arith in
    let above = rising.0 i d within in
    transition_at-other transition transitions byte (λ e. omega arith) ∙ transition_at-at transitions i byte d rising.1 within same

-- ---- the list with one entry more still rises

above-with_transition : (transitions : List (ℕ × ℕ)) (low byte next : ℕ) → low < byte → All (λ later. low < later.0) transitions → All (λ later. low < later.0) (with_transition transitions byte next)
above-with_transition [] low byte next less above = All-cons (λ later. low < later.0) (byte, next) [] less above
above-with_transition (transition ∷ transitions) low byte next less above =
    elim (cases_order transition.0 byte) [
      | inl same ↦ rw (with_transition-same transition transitions byte next same) (All-cons (λ later. low < later.0) (byte, next) transitions less (λ k d lt. above (suc k) d (omega arith)))
      | inr apart ↦
          elim apart [
            | inl lower ↦ rw (with_transition-more transition transitions byte next lower)
                (All-cons (λ later. low < later.0) transition (with_transition transitions byte next) (above zero transition (omega arith))
                (above-with_transition transitions low byte next less (λ k d lt. above (suc k) d (omega arith))))
            | inr higher ↦ rw (with_transition-less transition transitions byte next higher) (All-cons (λ later. low < later.0) (byte, next) (transition ∷ transitions) less above)
          ]
    ]

pub IsRising-with_transition : (transitions : List (ℕ × ℕ)) (byte next : ℕ) → IsRising transitions → IsRising (with_transition transitions byte next)
IsRising-with_transition [] byte next rising = (λ k d lt. absurd (omega arith), tt)
IsRising-with_transition (transition ∷ transitions) byte next rising =
    elim (cases_order transition.0 byte) [
      | inl same ↦ rw (with_transition-same transition transitions byte next same) ((λ k d lt. let above = rising.0 k d lt in omega arith), rising.1)
      | inr apart ↦
          elim apart [
            | inl lower ↦ rw (with_transition-more transition transitions byte next lower) (above-with_transition transitions transition.0 byte next lower rising.0, IsRising-with_transition transitions byte next rising.1)
            | inr higher ↦ rw (with_transition-less transition transitions byte next higher)
                (All-cons (λ later. byte < later.0) transition transitions higher (λ k d lt. let above = rising.0 k d lt in omega arith), rising)
          ]
    ]

-- there is one entry more, unless the byte was listed
pub length-with_transition : (transitions : List (ℕ × ℕ)) (byte next : ℕ) → IsRising transitions → length (with_transition transitions byte next) ≡ length transitions + cond (lists_transition transitions byte) 0 1
length-with_transition [] byte next rising = refl
length-with_transition (transition ∷ transitions) byte next rising =
    elim (cases_order transition.0 byte) [
      | inl same ↦ rw (with_transition-same transition transitions byte next same, lists_transition-same transition transitions byte same) (omega arith)
      | inr apart ↦
          elim apart [
            | inl less ↦ rw (with_transition-more transition transitions byte next less, lists_transition-other transition transitions byte (λ e. omega arith))
                (omega (arith, length-with_transition transitions byte next rising.1))
            | inr more ↦
                (let none : lists_transition (transition ∷ transitions) byte ≡ false =
                lists_transition-none (transition ∷ transitions) byte
                (All-cons (λ (e : ℕ × ℕ). e.0 ≢ byte) transition transitions (λ e. omega arith) (λ k d lt e. let above = rising.0 k d lt in omega arith)) in
                rw (with_transition-less transition transitions byte next more, none) (omega arith))
          ]
    ]

-- ---- what the list with one entry more answers

-- the entry answers for its byte
pub transition_at-with_transition : (transitions : List (ℕ × ℕ)) (byte next : ℕ) → transition_at (with_transition transitions byte next) byte ≡ next
transition_at-with_transition [] byte next = transition_at-same (byte, next) [] byte refl
transition_at-with_transition (transition ∷ transitions) byte next =
    elim (cases_order transition.0 byte) [
      | inl same ↦ rw (with_transition-same transition transitions byte next same) (transition_at-same (byte, next) transitions byte refl)
      | inr apart ↦
          elim apart [
            | inl less ↦ rw (with_transition-more transition transitions byte next less) (transition_at-other transition (with_transition transitions byte next) byte (λ e. omega arith) ∙ transition_at-with_transition transitions byte next)
            | inr more ↦ rw (with_transition-less transition transitions byte next more) (transition_at-same (byte, next) (transition ∷ transitions) byte refl)
          ]
    ]

transition_at-over : (transition : ℕ × ℕ) (xs ys : List (ℕ × ℕ)) (other : ℕ) → transition_at xs other ≡ transition_at ys other → transition_at (transition ∷ xs) other ≡ transition_at (transition ∷ ys) other
transition_at-over transition xs ys other e = ap (λ (n : ℕ). cond (nat_eq transition.0 other) transition.1 n) e

-- and no other byte is changed
pub transition_at-with_transition_other : (transitions : List (ℕ × ℕ)) (byte next other : ℕ) → other ≢ byte → transition_at (with_transition transitions byte next) other ≡ transition_at transitions other
transition_at-with_transition_other [] byte next other ne = transition_at-other (byte, next) [] other (λ e. ne (sym e))
transition_at-with_transition_other (transition ∷ transitions) byte next other ne =
    elim (cases_order transition.0 byte) [
      | inl same ↦ rw (with_transition-same transition transitions byte next same) (transition_at-other (byte, next) transitions other (λ e. ne (sym e)) ∙ sym (transition_at-other transition transitions other (λ e. ne (sym e ∙ same))))
      | inr apart ↦
          elim apart [
            | inl less ↦ rw (with_transition-more transition transitions byte next less) (transition_at-over transition (with_transition transitions byte next) transitions other (transition_at-with_transition_other transitions byte next other ne))
            | inr more ↦ rw (with_transition-less transition transitions byte next more) (transition_at-other (byte, next) (transition ∷ transitions) other (λ e. ne (sym e)))
          ]
    ]
