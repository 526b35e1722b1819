-- What a table is once each number that stands in it was exchanged for another.
use Rattle.std.specs.Prelude.{◌≡◌, ◌≢◌, ◌<◌, ◌≤◌, ℕ, List, [], ◌∷◌, length, slice_index_or}
use Rattle.std.specs.List.{AllZip}
use Rattle.aho_table.specs.Table.{State}

-- a number is led to another. FAIL (1) names no state, and stays
pub record IsLed (leads : ℕ → ℕ → Type 0) (old new : ℕ) : Type 0 where
  pub none : old ≡ 1 → new ≡ 1
  pub some : old ≢ 1 → leads old new

-- the byte stays, and the number is led to another
abbrev pub IsTransitionLed : (ℕ → ℕ → Type 0) → ℕ × ℕ → ℕ × ℕ → Type 0
IsTransitionLed leads old new = (new.0 ≡ old.0) × IsLed leads old.1 new.1

-- while a list is written anew: so many items are related to those before, and the others are those before
pub record IsWritten {X : Type 0} (R : X → X → Type 0) (default : X) (count : ℕ) (old new : List X) : Type 0 where
  pub sized : length new ≡ length old
  pub written : (k : ℕ) → k < count → k < length old → R (slice_index_or old k default) (slice_index_or new k default)
  pub left : (k : ℕ) → count ≤ k → slice_index_or new k default ≡ slice_index_or old k default

-- the numbers of the state are led to others: those to which bytes lead, and its link
pub record IsRenamed (leads : ℕ → ℕ → Type 0) (old new : State) : Type 0 where
  pub transitions : AllZip (IsTransitionLed leads) old.transitions new.transitions
  pub matches : new.matches ≡ old.matches
  pub fail : IsLed leads old.fail new.fail
  pub depth : new.depth ≡ old.depth

-- ---- laws for `Remappable`, which an implementation cites from here

-- a relation of the items of two lists implies a weaker one
pub AllZip-weaker : {X Y : Type 0} (R Q : X → Y → Type 0) → ((x : X) (y : Y) → R x y → Q x y) → (xs : List X) (ys : List Y) → AllZip R xs ys → AllZip Q xs ys
AllZip-weaker R Q weaker [] [] both = both
AllZip-weaker R Q weaker [] (y ∷ ys) both = both
AllZip-weaker R Q weaker (x ∷ xs) [] both = both
AllZip-weaker R Q weaker (x ∷ xs) (y ∷ ys) both = (weaker x y both.0, AllZip-weaker R Q weaker xs ys both.1)

IsLed-weaker : (f g : ℕ → ℕ → Type 0) → ((a b : ℕ) → f a b → g a b) → (old new : ℕ) → IsLed f old new → IsLed g old new
IsLed-weaker f g fewer old new led = record { none = led.none; some = λ ne. fewer old new (led.some ne) }

pub IsRenamed-weaker : (f g : ℕ → ℕ → Type 0) → ((a b : ℕ) → f a b → g a b) → (old new : State) → IsRenamed f old new → IsRenamed g old new
IsRenamed-weaker f g fewer old new renamed = record {
  transitions = AllZip-weaker (IsTransitionLed f) (IsTransitionLed g) (λ x y both. (both.0, IsLed-weaker f g fewer x.1 y.1 both.1)) old.transitions new.transitions renamed.transitions;
  matches = renamed.matches;
  fail = IsLed-weaker f g fewer old.fail new.fail renamed.fail;
  depth = renamed.depth;
}
