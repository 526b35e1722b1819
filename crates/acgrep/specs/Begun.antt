-- A beginning of what is told of lines.
use Rattle.acgrep.specs.Common.{Appends}
use Rattle.std.specs.Prelude.{◌++◌, ◌≡◌, List, Option, ℕ}

-- of some first ones of these lines a beginning of what is told is written, and nothing else; `Tells first all` says what that is
pub record BeginsOf (Tells : List (List ℕ) → List ℕ → Type 0) (ls : List (List ℕ)) (old new : Option (List ℕ)) : Type 0 where
  pub first : List (List ℕ)
  pub left : List (List ℕ)
  pub cut : ls ≡ first ++ left
  pub all : List ℕ
  pub tells : Tells first all
  pub begun : List ℕ
  pub missing : List ℕ
  pub is : all ≡ begun ++ missing
  pub written : Appends old new begun
