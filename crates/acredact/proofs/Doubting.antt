-- What stands at a place of a list.
use Rattle.acredact.proofs.Common.{Errors, List, Rule, SinkGhosts, TellsBytes, ap, append_assoc, arith, common_steps, drop, drop_more, get_or, get_or-map, length, map, map-map, nat_lt, secret_of, secrets_of, slice_index_or, sym, tells-later, true, ℕ, ◌++◌, ◌+◌, ◌<◌, ◌∙◌, ◌∷◌, ◌≡◌}

-- what is made of the element at a number is what stands there of all that is made of them
pub made_there : {X Y Z : Type 0} (f : X → Y) (g : Y → Z) (xs : List X) (number : ℕ) (x d : X) (e : Z) → true ≡ nat_lt number (length xs) → x ≡ slice_index_or xs number d → g (f x) ≡ get_or (map g (map f xs)) number e
made_there {X = X} {Z = Z} f g xs number x d e within found =
    let lt : number < length xs = grind (arith, common_steps, within) in
    ap (λ (y : X). g (f y)) found ∙ sym (ap (λ (l : List Z). get_or l number e) (map-map g f xs) ∙ get_or-map (λ (y : X). g (f y)) xs number d e lt)

-- what is left is what stands at the place, and the others
pub item_cut : {X : Type 0} (xs : List X) (at : ℕ) (x : X) → at < length xs → x ≡ get_or xs at x → drop at xs ≡ x ∷ drop (at + 1) xs
item_cut {X = X} xs at x within is = drop_more xs at x within ∙ ap (λ (y : X). y ∷ drop (at + 1) xs) (sym is)

-- and so it is of the secrets
pub secrets_cut : (rules : List Rule) (at : ℕ) (rule : Rule) → at < length rules → rule ≡ get_or rules at rule → secrets_of (drop at rules) ≡ secret_of rule ∷ secrets_of (drop (at + 1) rules)
secrets_cut rules at rule within is = ap secrets_of (item_cut rules at rule within is)

-- of some first things it is told
pub record ToldSoFar {E : Type 0} (K : SinkGhosts E) (old new : Errors E) (all rest : List ℕ) : Type 0 where
  pub done : List ℕ
  pub are : all ≡ done ++ rest
  pub told : TellsBytes K old new done

-- and of one more
pub told_more : {E : Type 0} {K : SinkGhosts E} {old mid new : Errors E} {all rest : List ℕ} (first : List ℕ) → ToldSoFar K old mid all (first ++ rest) → TellsBytes K mid new first → ToldSoFar K old new all rest
told_more {K = K} {rest = rest} first so_far next = record {
  done = so_far.done ++ first;
  are = so_far.are ∙ sym (append_assoc so_far.done first rest);
  told = tells-later K so_far.told next;
}
