-- The entry at index 0, which comes with the first one of a list.
use Rattle.std.proofs.Common.{◌≡◌, ℕ, ◌<◌, List, [], ◌∷◌, ◌++◌, length, max, refl, sym, ap, ◌∙◌, arith}
use Rattle.aho_table.specs.ListsInside.{with_first}
use Rattle.aho_table.specs.declared.lists.transitions.Transition.{Transition}

pub first-some : (entries : List Transition) → 0 < length entries → with_first entries ≡ entries
first-some [] some = absurd (omega arith)
first-some (entry ∷ entries) some = refl

pub length-with_first : (entries : List Transition) → length (with_first entries) ≡ max 1 (length entries)
length-with_first [] = refl
length-with_first (entry ∷ entries) = omega arith

-- where there is a list the entries are those
pub real_entries : (entries : List Transition) (list : ℕ) → 0 < list → list < length (with_first entries) → with_first entries ≡ entries
real_entries [] list some below = absurd (omega arith)
real_entries (entry ∷ entries) list some below = refl

pub first-push : (entries : List Transition) (more : Transition) → with_first (entries ++ more ∷ []) ≡ entries ++ more ∷ []
first-push [] more = refl
first-push (entry ∷ entries) more = refl

-- what was made of the entries was made of those with the one at index 0
pub first-made : (make : List Transition → List Transition) (entries new : List Transition) → with_first entries ≡ entries → 0 < length new → new ≡ make entries → with_first new ≡ make (with_first entries)
first-made make entries new real some is = first-some new some ∙ is ∙ ap make (sym real)
