-- Fronts of lists that are gone through.
use Rattle.std.proofs.Common.{◌≡◌, ℕ, ◌<◌, List, [], ◌∷◌, ◌++◌, length, get_or, take, sym, ap, ◌∙◌}
use Rattle.std.proofs.lemmas.List.{length_push, take_more}

-- one element more
pub front_more : {A : Type 0} → (xs yielded ys : List A) (x : A) → ys ≡ take (length yielded) xs → length yielded < length xs → x ≡ get_or xs (length yielded) x
    → ys ++ x ∷ [] ≡ take (length (yielded ++ x ∷ [])) xs
front_more {A} xs yielded ys x so_far below is =
    ap (λ (l : List A). l ++ x ∷ []) so_far
    ∙ ap (λ (y : A). take (length yielded) xs ++ y ∷ []) is
    ∙ sym (take_more xs (length yielded) x below)
    ∙ ap (λ (n : ℕ). take n xs) (sym (length_push yielded x))
