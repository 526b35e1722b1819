-- Where something ends first in a pattern, and how much of the pattern stands behind that.
use Rattle.std.proofs.Common.{◌≡◌, ◌⊎◌, inl, inr, ◌-◌, ◌<◌, ◌≤◌, ℕ, max, true, List, length, Some, None, sym, ap, subst, arith}
use Rattle.std.proofs.lemmas.Bool.{cases_lt}
use Rattle.aho_core.specs.declared.search.Anchored.TheVariants.{No, Yes}
use Rattle.aho_core.specs.Answer.{IsAnswer}
use Rattle.aho_core.specs.Occurrence.{Occurrence, occurrence}
use Rattle.aho_core.specs.Occurs.{Occurs}
use Rattle.aho_core.specs.Patterns.{Patterns, pattern_at}
use Rattle.aho_core.specs.Search.{Search}
use Rattle.aho_laws.proofs.Answers.{Occurs-of_end, Occurs-unanchored}
use Rattle.aho_backward.specs.Overhang.{HasBehind, IsOverhang}
use Rattle.aho_backward.specs.Turned.{size_of}
use Rattle.aho_backward.proofs.Leaders.{begins-itself, begins-occurs}

-- the earliest search of a whole word
abbrev pub earliest_in : List ℕ → Search
earliest_in word = record { haystack = word; start = 0; end = length word; anchored = No; earliest = true }

module _ (p : Patterns) where
  -- a pattern occurs in itself
  itself : (number : ℕ) → number < length p.words → Occurs p No (pattern_at p number) 0 (size_of p number) (occurrence 0 (size_of p number) number)
  itself number within =
      Occurs-unanchored p Yes (pattern_at p number) 0 0 (size_of p number) (occurrence 0 (size_of p number) number) (omega arith)
      (begins-occurs p (pattern_at p number) 0 (size_of p number) number (omega arith) (omega arith) (begins-itself p number within))

  module _ (number : ℕ) (word : List ℕ) (same : pattern_at p number ≡ word) where
    abbrev In : List ℕ → Occurrence → Type 0
    In w m = Occurs p No w 0 (length w) m

    -- what the earliest search finds ends first
    pub first-behind : (m : Occurrence) → IsAnswer p (earliest_in word) (Some m) → HasBehind p number (length word - m.end)
    first-behind m answer =
        let here = answer.2.0 in
        let wide : In word m = Occurs-of_end p No word 0 answer.0 (length word) m (omega (arith, here.before_end, answer.1.within)) here in
        let size : size_of p number ≡ length word = ap length same in
        record {
          inner = m;
          occurs = subst (λ (w : List ℕ). In w m) (sym same) wide;
          behind = omega (arith, wide.before_end, size);
        }

    pub first-most : (m : Occurrence) (count : ℕ) → IsAnswer p (earliest_in word) (Some m) → HasBehind p number count → count ≤ length word - m.end
    first-most m count answer has =
        let other : In word has.inner = subst (λ (w : List ℕ). In w has.inner) same has.occurs in
        let narrow = Occurs-of_end p No word 0 (length word) has.inner.end has.inner (omega arith) other in
        let least = answer.1.least has.inner.end has.inner narrow in
        let size : size_of p number ≡ length word = ap length same in
        omega (arith, least, answer.2.0.before_end, has.behind, size)

    -- and it finds something
    pub never-none : number < length p.words → IsAnswer p (earliest_in word) None → ⊥
    never-none within none = none (occurrence 0 (size_of p number) number) (subst (λ (w : List ℕ). In w (occurrence 0 (size_of p number) number)) same (itself number within))

  -- one pattern more
  pub reached-more : (most now best number : ℕ) → best ≡ max most now → number < length p.words → HasBehind p number now
      → (most ≡ 0) ⊎ ((k : ℕ) × (k < length p.words) × HasBehind p k most) → (best ≡ 0) ⊎ ((k : ℕ) × (k < length p.words) × HasBehind p k best)
  reached-more most now best number is within has reached =
      elim (cases_lt most now) [
        | inl more ↦ (let here : now ≡ best = omega (arith, is) in inr (number, within, subst (HasBehind p number) here has))
        | inr less ↦
            (let same : most ≡ best = omega (arith, is) in
            subst (λ (n : ℕ). (n ≡ 0) ⊎ ((k : ℕ) × (k < length p.words) × HasBehind p k n)) same reached)
      ]

  -- there is only one
  pub overhang-unique : (most other : ℕ) → IsOverhang p most → IsOverhang p other → most ≤ other
  overhang-unique most other one two = elim one.reached [
    | inl none ↦ omega arith
    | inr some ↦ two.greatest some.0 most some.1 some.2
  ]
