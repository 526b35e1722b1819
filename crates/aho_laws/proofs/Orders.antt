-- The order of occurrences, and the best of a set of them.
use Rattle.std.proofs.Common.{◌≡◌, ◌⊎◌, inl, inr, ℕ, ◌+◌, ◌<◌, length, Option, Some, None, refl, sym, ◌∙◌, ap, subst, arith}
use Rattle.std.proofs.lemmas.Bool.{cases_order, cases_lt}
use Rattle.aho_core.specs.declared.search.MatchKind.{MatchKind}
use Rattle.aho_core.specs.declared.search.MatchKind.TheVariants.{Standard, LeftmostFirst, LeftmostLongest}
use Rattle.aho_core.specs.Best.{IsBest, IsBestOrNone}
use Rattle.aho_core.specs.Occurrence.{Occurrence, occurrence}
use Rattle.aho_core.specs.Order.{IsBefore, IsLessOr, IsMoreOr}
use Rattle.aho_core.specs.Patterns.{Patterns, pattern_at}

pub IsBefore-irreflexive : (kind : MatchKind) (x : Occurrence) → IsBefore kind x x → ⊥
IsBefore-irreflexive Standard x h = grind arith
IsBefore-irreflexive LeftmostFirst x h = grind arith
IsBefore-irreflexive LeftmostLongest x h = grind arith

pub IsBefore-trans : (kind : MatchKind) (x y z : Occurrence) → IsBefore kind x y → IsBefore kind y z → IsBefore kind x z
IsBefore-trans Standard x y z p q = grind arith
IsBefore-trans LeftmostFirst x y z p q = grind arith
IsBefore-trans LeftmostLongest x y z p q = grind arith

-- two occurrences of which neither is before the other have one start and one number
pub IsBefore-tie : (kind : MatchKind) (x y : Occurrence) → (IsBefore kind x y → ⊥) → (IsBefore kind y x → ⊥) → (x.start ≡ y.start) × (x.pattern ≡ y.pattern)
IsBefore-tie Standard x y p q = (grind arith, grind arith)
IsBefore-tie LeftmostFirst x y p q = (grind arith, grind arith)
IsBefore-tie LeftmostLongest x y p q = (grind arith, grind arith)

less-cases : (x y : ℕ) → (x < y) ⊎ (x < y → ⊥)
less-cases x y = elim (cases_lt x y) [ inl less ↦ inl less | inr other ↦ inr (λ h. omega arith) ]

IsLessOr-cases : (x y : ℕ) (rest : Type 0) → rest ⊎ (rest → ⊥) → IsLessOr x y rest ⊎ (IsLessOr x y rest → ⊥)
IsLessOr-cases x y rest decided =
    elim (cases_order x y) [
      | inl e ↦ elim decided [ inl r ↦ inl (inr (e, r)) | inr not_rest ↦ inr (λ h. elim h [ inl less ↦ omega arith | inr both ↦ not_rest both.1 ]) ]
      | inr apart ↦ elim apart [ inl less ↦ inl (inl less) | inr more ↦ inr (λ h. elim h [ inl less ↦ omega arith | inr both ↦ omega (arith, both.0) ]) ]
    ]

IsMoreOr-cases : (x y : ℕ) (rest : Type 0) → rest ⊎ (rest → ⊥) → IsMoreOr x y rest ⊎ (IsMoreOr x y rest → ⊥)
IsMoreOr-cases x y rest decided =
    elim (cases_order x y) [
      | inl e ↦ elim decided [ inl r ↦ inl (inr (e, r)) | inr not_rest ↦ inr (λ h. elim h [ inl more ↦ omega arith | inr both ↦ not_rest both.1 ]) ]
      | inr apart ↦ elim apart [ inl less ↦ inr (λ h. elim h [ inl more ↦ omega arith | inr both ↦ omega (arith, both.0) ]) | inr more ↦ inl (inl more) ]
    ]

-- of two occurrences one is before the other, or it is not
pub IsBefore-cases : (kind : MatchKind) (x y : Occurrence) → IsBefore kind x y ⊎ (IsBefore kind x y → ⊥)
IsBefore-cases Standard x y = IsLessOr-cases x.end y.end _ (IsLessOr-cases x.start y.start _ (less-cases x.pattern y.pattern))
IsBefore-cases LeftmostFirst x y = IsLessOr-cases x.start y.start _ (less-cases x.pattern y.pattern)
IsBefore-cases LeftmostLongest x y = IsLessOr-cases x.start y.start _ (IsMoreOr-cases x.end y.end _ (less-cases x.pattern y.pattern))

pub same_occurrence : (x y : Occurrence) → x.pattern ≡ y.pattern → x.start ≡ y.start → x.end ≡ y.end → x ≡ y
same_occurrence x y number start end =
    ap (λ (k : ℕ). occurrence x.start x.end k) number ∙ ap (λ (k : ℕ). occurrence k x.end y.pattern) start ∙ ap (λ (k : ℕ). occurrence y.start k y.pattern) end

-- an occurrence is known by its number and its start
pub sized-end : (p : Patterns) (x y : Occurrence) → x.start + length (pattern_at p x.pattern) ≡ x.end → y.start + length (pattern_at p y.pattern) ≡ y.end
    → x.start ≡ y.start → x.pattern ≡ y.pattern → x.end ≡ y.end
sized-end p x y sized_x sized_y start number =
    sym sized_x ∙ ap (λ (k : ℕ). x.start + length (pattern_at p k)) number ∙ ap (λ (k : ℕ). k + length (pattern_at p y.pattern)) start ∙ sized_y

-- of two patterns at ranges of their lengths, one is before the other, unless they are equal
pub IsBefore-total : (p : Patterns) (kind : MatchKind) (x y : Occurrence) → x.start + length (pattern_at p x.pattern) ≡ x.end → y.start + length (pattern_at p y.pattern) ≡ y.end
    → (x ≡ y) ⊎ (IsBefore kind x y ⊎ IsBefore kind y x)
IsBefore-total p kind x y sized_x sized_y =
    elim (IsBefore-cases kind x y) [
      | inl before ↦ inr (inl before)
      | inr not_before ↦
          elim (IsBefore-cases kind y x) [
            | inl after ↦ inr (inr after)
            | inr not_after ↦ (let tie = IsBefore-tie kind x y not_before not_after in inl (same_occurrence x y tie.1 tie.0 (sized-end p x y sized_x sized_y tie.0 tie.1)))
          ]
    ]

-- nothing is before the best
pub IsBest-first : (kind : MatchKind) (Member : Occurrence → Type 0) (m other : Occurrence) → IsBest kind Member m → Member other → IsBefore kind other m → ⊥
IsBest-first kind Member m other best in_other before =
    elim (best.1 other in_other) [
      | inl same ↦ IsBefore-irreflexive kind m (subst (λ (o : Occurrence). IsBefore kind o m) same before)
      | inr after ↦ IsBefore-irreflexive kind m (IsBefore-trans kind m other m after before)
    ]

pub IsBest-unique : (kind : MatchKind) (Member : Occurrence → Type 0) (x y : Occurrence) → IsBest kind Member x → IsBest kind Member y → x ≡ y
IsBest-unique kind Member x y best_x best_y = elim (best_y.1 x best_x.0) [ inl same ↦ same | inr before ↦ absurd (IsBest-first kind Member x y best_x best_y.0 before) ]

pub IsBestOrNone-unique : (kind : MatchKind) (Member : Occurrence → Type 0) (x y : Option Occurrence) → IsBestOrNone kind Member x → IsBestOrNone kind Member y → x ≡ y
IsBestOrNone-unique kind Member None None best_x best_y = refl
IsBestOrNone-unique kind Member None (Some y) best_x best_y = absurd (best_x y best_y.0)
IsBestOrNone-unique kind Member (Some x) None best_x best_y = absurd (best_y x best_x.0)
IsBestOrNone-unique kind Member (Some x) (Some y) best_x best_y = ap (λ (m : Occurrence). Some m) (IsBest-unique kind Member x y best_x best_y)

-- the best of a set is that of each set with the same members
pub IsBest-same : (kind : MatchKind) (S T : Occurrence → Type 0) (m : Occurrence) → ((o : Occurrence) → T o → S o) → ((o : Occurrence) → S o → T o) → IsBest kind S m → IsBest kind T m
IsBest-same kind S T m back forth best = (forth m best.0, λ other in_other. best.1 other (back other in_other))

pub IsBestOrNone-same : (kind : MatchKind) (S T : Occurrence → Type 0) (best : Option Occurrence) → ((o : Occurrence) → T o → S o) → ((o : Occurrence) → S o → T o)
    → IsBestOrNone kind S best → IsBestOrNone kind T best
IsBestOrNone-same kind S T None back forth none = λ other in_other. none other (back other in_other)
IsBestOrNone-same kind S T (Some m) back forth best = IsBest-same kind S T m back forth best
