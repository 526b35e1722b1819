-- What the impls of std's traits answer.
use Rattle.std.specs.Prelude.{◌≡◌, ◌↔◌, ℕ, IsTrue}
use Rattle.std.specs.Ordering.{nat_cmp}
use Rattle.std.specs.declared.clone.Clone.{Ghosts as CloneOf}
use Rattle.std.specs.declared.cmp.Ordering.{Ordering}
use Rattle.std.specs.declared.cmp.PartialEq.{Ghosts as EqualityOf}

-- each clone is its original, and none is refused
abbrev pub ClonesTheSame : {T : Type 0} → CloneOf T → Type 0
ClonesTheSame {T} clone = ((x y : T) → clone.is_clone x y → y ≡ x) × ((x : T) → clone.is_infallible x)

-- two values are equal just where they are the same
abbrev pub EqualsTheSame : {T : Type 0} → EqualityOf T → Type 0
EqualsTheSame {T} equality = (x y : T) → (IsTrue (equality.eq x y) ↔ (x ≡ y))

-- two values are in the order of their numbers
abbrev pub ComparesNumbers : (ℕ → ℕ → Ordering) → Type 0
ComparesNumbers cmp = (x y : ℕ) → cmp x y ≡ nat_cmp x y
