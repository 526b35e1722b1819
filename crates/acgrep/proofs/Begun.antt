-- Beginnings of what is told of lines: a beginning of a part is a beginning of the whole.
use Rattle.acgrep.proofs.Common.{Appends, Appends-trans, AppendsBeginning}
use Rattle.std.proofs.Common.{◌++◌, ◌∙◌, ◌∷◌, ◌≡◌, ◌⊎◌, List, Option, [], ap, append-nil, append_assoc, drop, inl, inr, refl, sym, take, take-append-drop, ℕ}
use Rattle.acgrep.specs.Begun.{BeginsOf}

-- bytes of which a front is nothing
pub nil_front : (xs ys : List ℕ) → [] ≡ xs ++ ys → xs ≡ []
nil_front [] ys same = refl
nil_front (x ∷ xs) ys same = absurd (cc)

module _ (Tells : List (List ℕ) → List ℕ → Type 0) where
  -- nothing is written
  pub begins_nothing : (ls : List (List ℕ)) (x y : Option (List ℕ)) (all : List ℕ) → Tells [] all → Appends x y [] → BeginsOf Tells ls x y
  begins_nothing ls x y all tells written = record { first = []; left = ls; cut = refl; all = all; tells = tells; begun = []; missing = all; is = refl; written = written }

  -- what is told of these lines is written
  pub begins_all : (ls : List (List ℕ)) (x y : Option (List ℕ)) (all : List ℕ) → Tells ls all → Appends x y all → BeginsOf Tells ls x y
  begins_all ls x y all tells written =
      record { first = ls; left = []; cut = sym (append-nil ls); all = all; tells = tells; begun = all; missing = []; is = sym (append-nil all); written = written }

  -- or a beginning of it
  pub begins_some : (ls : List (List ℕ)) (x y : Option (List ℕ)) (all : List ℕ) → Tells ls all → AppendsBeginning x y all → BeginsOf Tells ls x y
  begins_some ls x y all tells (n, within, written) =
      record { first = ls; left = []; cut = sym (append-nil ls); all = all; tells = tells; begun = take n all; missing = drop n all; is = sym (take-append-drop n all); written = written }

  -- lines more may follow
  pub begins_more : (ls ms : List (List ℕ)) (x y : Option (List ℕ)) → BeginsOf Tells ls x y → BeginsOf Tells (ls ++ ms) x y
  begins_more ls ms x y b = record {
    first = b.first;
    left = b.left ++ ms;
    cut = ap (λ (l : List (List ℕ)). l ++ ms) b.cut ∙ append_assoc b.first b.left ms;
    all = b.all;
    tells = b.tells;
    begun = b.begun;
    missing = b.missing;
    is = b.is;
    written = b.written;
  }

  -- the output is written on
  pub begins_on : (ls : List (List ℕ)) (x y x' y' : Option (List ℕ)) → (b : BeginsOf Tells ls x y) → Appends x' y' b.begun → BeginsOf Tells ls x' y'
  begins_on ls x y x' y' b written =
      record { first = b.first; left = b.left; cut = b.cut; all = b.all; tells = b.tells; begun = b.begun; missing = b.missing; is = b.is; written = written }

-- lines stand before them of which all is told
pub begins_behind : (Tells Told : List (List ℕ) → List ℕ → Type 0) (ls ms : List (List ℕ)) (x y z : Option (List ℕ)) (bytes : List ℕ)
    → ((first : List (List ℕ)) (all : List ℕ) → Tells first all → Told (ls ++ first) (bytes ++ all)) → Appends x y bytes → BeginsOf Tells ms y z → BeginsOf Told (ls ++ ms) x z
begins_behind Tells Told ls ms x y z bytes joined written b = record {
  first = ls ++ b.first;
  left = b.left;
  cut = ap (λ (l : List (List ℕ)). ls ++ l) b.cut ∙ sym (append_assoc ls b.first b.left);
  all = bytes ++ b.all;
  tells = joined b.first b.all b.tells;
  begun = bytes ++ b.begun;
  missing = b.missing;
  is = ap (λ (l : List ℕ). bytes ++ l) b.is ∙ sym (append_assoc bytes b.begun b.missing);
  written = Appends-trans x y z bytes b.begun written b.written;
}

-- of what is told of lines and what stands behind it one is nothing: beginnings of both are one of the whole
pub begins_both : (all begun missing total more rest : List ℕ) → all ≡ begun ++ missing → total ≡ more ++ rest → (all ≡ []) ⊎ (total ≡ []) → (last : List ℕ) × (all ++ total ≡ (begun ++ more) ++ last)
begins_both all begun missing total more rest is cut (inl none) =
    (rest, ap (λ (l : List ℕ). l ++ total) none ∙ cut ∙ ap (λ (l : List ℕ). (l ++ more) ++ rest) (sym (nil_front begun missing (sym none ∙ is))))
begins_both all begun missing total more rest is cut (inr none) = (
  missing,
  ap (λ (l : List ℕ). all ++ l) none ∙ append-nil all ∙ is ∙ ap (λ (l : List ℕ). l ++ missing) (sym (append-nil begun))
      ∙ ap (λ (l : List ℕ). (begun ++ l) ++ missing) (sym (nil_front more rest (sym none ∙ cut))),
)
