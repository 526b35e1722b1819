-- The best of two sets of occurrences together.
use Rattle.std.proofs.Common.{◌≡◌, ◌⊎◌, ◌+◌, inl, inr, sym, subst, length, Option, Some, None}
use Rattle.aho_core.specs.Best.{IsBest, IsBestOrNone}
use Rattle.aho_core.specs.declared.search.MatchKind.{MatchKind}
use Rattle.aho_core.specs.Occurrence.{Occurrence}
use Rattle.aho_core.specs.Order.{IsBefore}
use Rattle.aho_core.specs.Patterns.{Patterns, pattern_at}
use Rattle.bench.specs.Better.{IsBetter}
use Rattle.aho_laws.proofs.Orders.{IsBefore-trans, IsBefore-total}

-- the occurrence is as long as its pattern
abbrev pub IsSized : Patterns → Occurrence → Type 0
IsSized p m = m.start + length (pattern_at p m.pattern) ≡ m.end

-- of two occurrences of which the second is not before the first, both are one or the first is before the second
first-or_same : (p : Patterns) (kind : MatchKind) (x y : Occurrence) → IsSized p x → IsSized p y → (IsBefore kind y x → ⊥) → (y ≡ x) ⊎ IsBefore kind x y
first-or_same p kind x y sized_x sized_y after =
    elim (IsBefore-total p kind x y sized_x sized_y) [
      | inl same ↦ inl (sym same)
      | inr apart ↦ elim apart [ inl before ↦ inr before | inr later ↦ absurd (after later) ]
    ]

-- what is before a member that is the first of its set, is before all of them
IsBest-before : (kind : MatchKind) (S : Occurrence → Type 0) (x y : Occurrence) → IsBefore kind x y → IsBest kind S y → (m : Occurrence) → S m → IsBefore kind x m
IsBest-before kind S x y before best m s =
    elim (best.1 m s) [ inl is ↦ subst (IsBefore kind x) (sym is) before | inr later ↦ IsBefore-trans kind x y m before later ]

-- the better of the best of two sets is the best of both together
pub IsBestOrNone-union : (p : Patterns) (kind : MatchKind) (S T U : Occurrence → Type 0) (x y best : Option Occurrence)
    → ((m : Occurrence) → U m → S m ⊎ T m) → ((m : Occurrence) → S m → U m) → ((m : Occurrence) → T m → U m)
    → ((m : Occurrence) → U m → IsSized p m)
    → IsBestOrNone kind S x → IsBestOrNone kind T y → IsBetter kind x y best → IsBestOrNone kind U best
IsBestOrNone-union p kind S T U None None best cases from_s from_t sized best_s best_t is =
    subst (IsBestOrNone kind U) (sym is) (λ m u. elim (cases m u) [ inl s ↦ best_s m s | inr t ↦ best_t m t ])
IsBestOrNone-union p kind S T U None (Some y) best cases from_s from_t sized best_s best_t is =
    subst (IsBestOrNone kind U) (sym is)
    (from_t y best_t.0, λ m u. elim (cases m u) [ inl s ↦ absurd (best_s m s) | inr t ↦ best_t.1 m t ])
IsBestOrNone-union p kind S T U (Some x) None best cases from_s from_t sized best_s best_t is =
    subst (IsBestOrNone kind U) (sym is)
    (from_s x best_s.0, λ m u. elim (cases m u) [ inl s ↦ best_s.1 m s | inr t ↦ absurd (best_t m t) ])
IsBestOrNone-union p kind S T U (Some x) (Some y) best cases from_s from_t sized best_s best_t is =
    elim is [
      | inl h ↦
          subst (IsBestOrNone kind U) (sym h.0) (
            from_s x best_s.0,
            λ m u.
                elim (cases m u) [
                  | inl s ↦ best_s.1 m s
                  | inr t ↦
                      elim (first-or_same p kind x y (sized x (from_s x best_s.0)) (sized y (from_t y best_t.0)) h.1) [
                        | inl same ↦ subst (λ (z : Occurrence). (m ≡ z) ⊎ IsBefore kind z m) same (best_t.1 m t)
                        | inr before ↦ inr (IsBest-before kind T x y before best_t m t)
                      ]
                ],
          )
      | inr h ↦
          subst (IsBestOrNone kind U) (sym h.0)
          (from_t y best_t.0, λ m u. elim (cases m u) [ inl s ↦ inr (IsBest-before kind S y x h.1 best_s m s) | inr t ↦ best_t.1 m t ])
    ]
