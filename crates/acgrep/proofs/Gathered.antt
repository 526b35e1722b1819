-- What several things gave, one after another.
use Rattle.std.proofs.Common.{◌++◌, ◌∙◌, ◌∷◌, ◌≡◌, List, Option, [], ap, append-nil, append_assoc, arith, length, refl, subst, sym, ℕ}
use Rattle.std.specs.Prelude.{map}
use Rattle.acgrep.specs.Gathered.{AddsGiven, AllGive}

module _ {A B : Type 0} (Gives : A → (left left' : Option (List ℕ)) → List B → Type 0) (all : List A) (begin : Option (List ℕ)) where
  -- what those so far gave, and what the others are to give, is what all give
  abbrev pub GaveSoFar : List A → Option (List ℕ) → List B → Type 0
  GaveSoFar rest left given = (left' : Option (List ℕ)) (more : List B) → AllGive Gives rest left left' more → AllGive Gives all begin left' (given ++ more)

  -- the first of some, and then the others
  pub more_given : (one : A) (rest : List A) (left left' : Option (List ℕ)) (old new : List B) → GaveSoFar (one ∷ rest) left old → AddsGiven (Gives one left left') old new → GaveSoFar rest left' new
  more_given one rest left left' old new before added end more are =
      subst (AllGive Gives all begin end) (sym (append_assoc old added.more more) ∙ ap (λ (l : List B). l ++ more) (sym added.grown))
      (before end (added.more ++ more) (left', added.more, more, refl, added.of, are))

  pub all_given : {X : Type 0} (f : X → A) (xs : List X) (left : Option (List ℕ)) (given : List B) → length xs ≡ 0 → GaveSoFar (map f xs) left given → AllGive Gives all begin left given
  all_given f [] left given none before = subst (AllGive Gives all begin left) (append-nil given) (before left [] (refl, refl))
  all_given f (x ∷ xs) left given none before = absurd (omega (arith, none))
