-- Matches that can be replaced one after another.
use Rattle.std.specs.Prelude.{◌≡◌, ℕ, ◌≤◌, List, [], ◌∷◌, Vec, vec_items}
use Rattle.aho_core.specs.Occurrence.{Occurrence}
use Rattle.aho_core.specs.Replacement.{replaced}

-- they stand one behind the other, from one place on and up to another
abbrev pub StandInTurn : ℕ → ℕ → List Occurrence → Type 0
StandInTurn at end [] = at ≤ end
StandInTurn at end (m ∷ ms) = (at ≤ m.start) × (m.start ≤ m.end) × StandInTurn m.end end ms

-- the bytes are a haystack with a piece in the place of each of its finds
pub record IsReplacedBy {Z : Type 0} (AreAll : List Occurrence → Type 0) (haystack : List ℕ) (pieces : List (List ℕ)) (bytes : Vec ℕ Z) : Type 0 where
  pub finds : List Occurrence
  pub are : AreAll finds
  pub replaced_are : vec_items bytes ≡ replaced haystack finds pieces
