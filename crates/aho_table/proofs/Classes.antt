-- Borders between bytes, and the classes that they make.
use Rattle.std.proofs.Common.{◌≡◌, cond, ℕ, ◌+◌, ◌-◌, ◌<◌, ◌≤◌, ◌↔◌, Bool, true, false, nat_lt, eqb, List, [], ◌∷◌, length, get_or, refl, sym, ap, subst, ◌∙◌, inl, inr, arith, zero, suc}
use Rattle.std.specs.List.{count_by}
use Rattle.std.proofs.Math.ListN.{set}
use Rattle.std.proofs.lemmas.Bool.{cases_Bool, cases_eq, cases_order, both_ways, false_from_ne_true, eq-eqb, lt-ltb, le-ltb, or_left, or_right}
use Rattle.std.proofs.lemmas.List.{take_all, get_or_past, get_or-set_same, get_or-set_other, ext_get_or}
use Rattle.std.proofs.lemmas.List.Sums.{sum_by-take-le, count_by_more_yes, count_by_more_no}
use Rattle.aho_table.specs.Alphabet.{is_border, is_edge, class_of, class_count, AreOfOneClass, IsNotParted, HasItsEdges, IsAlone}
use Rattle.aho_table.specs.Inside.{borders_of, AreClasses}

-- ---- from one byte to the next

pub class_of-first : (borders : List Bool) → class_of borders 0 ≡ 0
unfolding class_of
class_of-first borders = refl

-- a border stands within the list
is_border-within : (borders : List Bool) (at : ℕ) → is_border borders at ≡ true → at < length borders
is_border-within borders at border =
    elim (cases_order at (length borders)) [
      | inl same ↦ absurd (both_ways (is_border borders at) (get_or_past borders at false (omega arith)) border)
      | inr apart ↦
          elim apart [
            | inl below ↦ below
            | inr past ↦ absurd (both_ways (is_border borders at) (get_or_past borders at false (omega arith)) border)
          ]
    ]

pub class_of-border : (borders : List Bool) (at : ℕ) → is_border borders at ≡ true → class_of borders (at + 1) ≡ class_of borders at + 1
unfolding class_of
class_of-border borders at border = count_by_more_yes (λ (b : Bool). b) borders at false (is_border-within borders at border) border

pub class_of-none : (borders : List Bool) (at : ℕ) → is_border borders at ≡ false → class_of borders (at + 1) ≡ class_of borders at
unfolding class_of
class_of-none borders at none =
    elim (cases_order at (length borders)) [
      | inl same ↦ ap (count_by (λ (b : Bool). b)) (take_all (at + 1) borders (omega arith) ∙ sym (take_all at borders (omega arith)))
      | inr apart ↦
          elim apart [
            | inl below ↦ count_by_more_no (λ (b : Bool). b) borders at false below none
            | inr past ↦ ap (count_by (λ (b : Bool). b)) (take_all (at + 1) borders (omega arith) ∙ sym (take_all at borders (omega arith)))
          ]
    ]

class_of-step : (borders : List Bool) (at : ℕ) → (class_of borders at ≤ class_of borders (at + 1)) × (class_of borders (at + 1) ≤ class_of borders at + 1)
class_of-step borders at =
    elim (cases_Bool (is_border borders at)) [
      | inl border ↦ let step = class_of-border borders at border in (omega arith, omega arith)
      | inr none ↦ let step = class_of-none borders at none in (omega arith, omega arith)
    ]

-- ---- from a byte to a later one

class_of-more : (borders : List Bool) (low more : ℕ) → class_of borders low ≤ class_of borders (low + more)
class_of-more borders low zero =
    let same : class_of borders (low + zero) ≡ class_of borders low = ap (class_of borders) (omega arith) in
    omega arith
class_of-more borders low (suc more) =
    let step = class_of-step borders (low + more) in
    let same : class_of borders (low + suc more) ≡ class_of borders (low + more + 1) = ap (class_of borders) (omega arith) in
    omega (arith, class_of-more borders low more, step.0, same)

pub class_of-le : (borders : List Bool) (low high : ℕ) → low ≤ high → class_of borders low ≤ class_of borders high
class_of-le borders low high le =
    let same : class_of borders (low + (high - low)) ≡ class_of borders high = ap (class_of borders) (omega arith) in
    omega (arith, class_of-more borders low (high - low))

-- the classes are numbered from 0 on, so none is above its byte
pub class_of-byte : (borders : List Bool) (byte : ℕ) → class_of borders byte ≤ byte
class_of-byte borders zero = omega (arith, class_of-first borders)
class_of-byte borders (suc byte) =
    let step = class_of-step borders byte in
    let same : class_of borders (suc byte) ≡ class_of borders (byte + 1) = ap (class_of borders) (omega arith) in
    omega (arith, class_of-byte borders byte, step.1, same)

-- ---- one class, and two

parted : (borders : List Bool) (low high at : ℕ) → low ≤ at → at < high → is_border borders at ≡ true → class_of borders low < class_of borders high
parted borders low high at from to border =
    omega (arith, class_of-le borders low at from, class_of-border borders at border, class_of-le borders (at + 1) high (omega arith))

not_parted : (borders : List Bool) (low more : ℕ) → IsNotParted borders low (low + more) → class_of borders low ≡ class_of borders (low + more)
not_parted borders low zero none = ap (class_of borders) (omega arith)
not_parted borders low (suc more) none =
    not_parted borders low more (λ at from to. none at from (omega arith)) ∙ sym (class_of-none borders (low + more) (none (low + more) (omega arith) (omega arith)))
    ∙ ap (class_of borders) (omega arith)

pub one_class : (borders : List Bool) (low high : ℕ) → low ≤ high → AreOfOneClass borders low high ↔ IsNotParted borders low high
one_class borders low high le = (
  λ same at from to. false_from_ne_true (is_border borders at) (λ border. absurd (omega (arith, same, parted borders low high at from to border))),
  λ none. not_parted borders low (high - low) (λ at from to. none at from (omega arith)) ∙ ap (class_of borders) (omega arith),
)

pub alone : (borders : List Bool) (byte : ℕ) → byte < 256 → HasItsEdges borders byte → IsAlone borders byte
alone borders byte below edges other within same =
    elim (cases_order other byte) [
      | inl equal ↦ equal
      | inr apart ↦
          elim apart [
            | inl lower ↦
                let edge : is_edge byte byte (byte - 1) ≡ true = or_left (eqb (byte - 1 + 1) byte) (eqb (byte - 1) byte) (eq-eqb (byte - 1 + 1) byte (omega arith)) in
                absurd (omega (arith, same, parted borders other byte (byte - 1) (omega arith) (omega arith) (edges (byte - 1) (omega arith) edge)))
            | inr higher ↦
                let edge : is_edge byte byte byte ≡ true = or_right (eqb (byte + 1) byte) (eqb byte byte) (eq-eqb byte byte refl) in
                absurd (omega (arith, same, parted borders byte other byte (omega arith) (omega arith) (edges byte (omega arith) edge)))
          ]
    ]

-- ---- how many classes there are

pub class_of-count : (borders : List Bool) (byte : ℕ) → class_of borders byte < class_count borders
unfolding class_of class_count
class_of-count borders byte = omega (arith, sum_by-take-le (λ (b : Bool). cond b 1 0) borders byte)

pub class_count-last : (borders : List Bool) (last : ℕ) → length borders ≡ last → class_count borders ≡ class_of borders last + 1
unfolding class_of class_count
class_count-last borders last sized = ap (λ (bs : List Bool). count_by (λ (b : Bool). b) bs + 1) (sym (take_all last borders (omega arith)))

-- ---- the borders that a class for each byte tells

pub length-borders_of : (classes : List ℕ) (n : ℕ) → length classes ≡ n + 1 → length (borders_of classes) ≡ n
unfolding borders_of
length-borders_of [] n e = absurd (omega arith)
length-borders_of (class ∷ []) n e = omega arith
length-borders_of (class ∷ next ∷ classes) zero e = absurd (omega arith)
length-borders_of (class ∷ next ∷ classes) (suc n) e = ap suc (length-borders_of (next ∷ classes) n (omega arith))

pub is_border-borders_of : (classes : List ℕ) (at : ℕ) → at + 1 < length classes → is_border (borders_of classes) at ≡ nat_lt (get_or classes at 0) (get_or classes (at + 1) 0)
unfolding borders_of
is_border-borders_of [] at below = absurd (omega arith)
is_border-borders_of (class ∷ []) at below = absurd (omega arith)
is_border-borders_of (class ∷ next ∷ classes) zero below = refl
is_border-borders_of (class ∷ next ∷ classes) (suc at) below =
    let same : suc (at + 1) ≡ suc at + 1 = omega arith in
    is_border-borders_of (next ∷ classes) at (omega arith) ∙ ap (λ (n : ℕ). nat_lt (get_or (next ∷ classes) at 0) (get_or (class ∷ next ∷ classes) n 0)) same

-- ---- while the classes are counted

pub counted-first : (classes : List ℕ) (borders : List Bool) → get_or classes 0 0 ≡ 0 → (byte : ℕ) → byte ≤ 0 → get_or classes byte 0 ≡ class_of borders byte
counted-first classes borders first byte le = subst (λ (n : ℕ). get_or classes n 0 ≡ class_of borders n) (omega arith) (first ∙ sym (class_of-first borders))

pub counted-more : (classes : List ℕ) (borders : List Bool) (at class : ℕ) → at + 1 < length classes → class ≡ class_of borders (at + 1)
    → ((byte : ℕ) → byte ≤ at → get_or classes byte 0 ≡ class_of borders byte)
    → (byte : ℕ) → byte ≤ at + 1 → get_or (set classes (at + 1) class) byte 0 ≡ class_of borders byte
counted-more classes borders at class below is counted byte le =
    elim (cases_eq byte (at + 1)) [
      | inl here ↦ ap (λ (n : ℕ). get_or (set classes (at + 1) class) n 0) here ∙ get_or-set_same classes (at + 1) class 0 below ∙ is ∙ ap (class_of borders) (sym here)
      | inr there ↦ get_or-set_other classes (at + 1) byte class 0 there ∙ counted byte (omega arith)
    ]

-- a border is told where the class of the next byte is greater
rises-at : (borders : List Bool) (at : ℕ) → nat_lt (class_of borders at) (class_of borders (at + 1)) ≡ is_border borders at
rises-at borders at =
    elim (cases_Bool (is_border borders at)) [
      | inl border ↦ lt-ltb (class_of borders at) (class_of borders (at + 1)) (omega (arith, class_of-border borders at border)) ∙ sym border
      | inr none ↦ le-ltb (class_of borders at) (class_of borders (at + 1)) (omega (arith, class_of-none borders at none)) ∙ sym none
    ]

pub borders_of-counted : (classes : List ℕ) (borders : List Bool) → length classes ≡ 256 → length borders ≡ 255
    → ((byte : ℕ) → byte < 256 → get_or classes byte 0 ≡ class_of borders byte) → borders_of classes ≡ borders
borders_of-counted classes borders sized parts counted =
    let told = length-borders_of classes 255 sized in
    ext_get_or false (borders_of classes) borders (omega arith)
    (λ at below.
    is_border-borders_of classes at (omega arith)
    ∙ ap (λ (n : ℕ). nat_lt n (get_or classes (at + 1) 0)) (counted at (omega arith))
    ∙ ap (λ (n : ℕ). nat_lt (class_of borders at) n) (counted (at + 1) (omega arith))
    ∙ rises-at borders at)

pub AreClasses-counted : (classes : List ℕ) (borders : List Bool) → length classes ≡ 256 → length borders ≡ 255
    → ((byte : ℕ) → byte < 256 → get_or classes byte 0 ≡ class_of borders byte) → AreClasses classes
AreClasses-counted classes borders sized parts counted = record {
  sized = sized;
  counted = λ byte below. counted byte below ∙ ap (λ (bs : List Bool). class_of bs byte) (sym (borders_of-counted classes borders sized parts counted));
}
