-- What is read of the file of a name.
use Rattle.acredact.specs.Common.{Consumes, IsAtEnd, Keeps, is_input}
use Rattle.std.specs.Prelude.{◌≡◌, ℕ, MatchBool, List, [], ◌∷◌, ◌++◌, Option, Vec, map}

-- the bytes of each of some texts
abbrev pub bytes_of_names : {Z : Type 0} → List (Vec ℕ Z) → List (List ℕ)
bytes_of_names names = map (λ name. name.items) names

-- it is what the input has left, or what the folder holds under the name
abbrev pub OfName : (holds : List ℕ → Option (List ℕ)) → List ℕ
    → (Option (List ℕ) → Option (List ℕ) → Type 0) → (left left' : Option (List ℕ)) → Type 0
OfName holds name Reads left left' =
    MatchBool (is_input name) (Reads left left') ((left' ≡ left) × (rest : Option (List ℕ)) × Reads (holds name) rest)

-- a text was read to its end
pub record ReadsText (text : List ℕ) (left left' : Option (List ℕ)) : Type 0 where
  pub read : Consumes left left' text
  pub ended : IsAtEnd left'

-- this comes of each file, one after another
abbrev pub EachName : (Does : List ℕ → (left left' held held' : Option (List ℕ)) → Type 0)
    → List (List ℕ) → (left left' held held' : Option (List ℕ)) → Type 0
EachName Does [] left left' held held' = (left' ≡ left) × Keeps held held'
EachName Does (name ∷ names) left left' held held' = (between : Option (List ℕ)) × (meanwhile : Option (List ℕ))
    × Does name left between held meanwhile × EachName Does names between left' meanwhile held'

-- what all of some give, in order, where each gives what this says, and leaves something else as it says
abbrev pub EachGives : {I X S : Type 0} → (Gives : I → List X → (left left' : S) → Type 0) → List I → List X → (left left' : S) → Type 0
EachGives Gives [] all left left' = (all ≡ []) × (left' ≡ left)
EachGives {X = X} {S = S} Gives (item ∷ items) all left left' = (first : List X) × (rest : List X) × (all ≡ first ++ rest)
    × (between : S) × Gives item first left between × EachGives Gives items rest between left'
