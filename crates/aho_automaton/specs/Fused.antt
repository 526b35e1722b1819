-- Iterators that give none again once they gave none.
use Rattle.std.specs.Prelude.{◌≡◌, List, [], ◌∷◌, Option, None}
use Rattle.std.specs.Iterator.{YieldsThen}
use Rattle.std.specs.List.{All}

-- calls of `next` gave these, one after another
abbrev pub CallsGive : {S A : Type 0} → (S → Option A → S → Type 0) → S → List (Option A) → S → Type 0
CallsGive steps s [] t = s ≡ t
CallsGive {S} steps s (given ∷ rest) t = (after : S) × steps s given after × CallsGive steps after rest t

-- once a call gave none, every later one gives none
abbrev pub IsFused : {S A : Type 0} → (S → Option A → S → Type 0) → S → Type 0
IsFused {S} {A} steps s = (ms : List A) (u t : S) (rest : List (Option A))
    → YieldsThen steps s ms None u → CallsGive steps u rest t → All (λ given. given ≡ None) rest
