-- Borders between bytes, and the classes that they make.
use Rattle.std.specs.Prelude.{◌≡◌, ℕ, ◌+◌, ◌<◌, ◌≤◌, ◌||◌, Bool, true, false, List, take, replicate, nat_eq, slice_index_or}
use Rattle.std.specs.List.{count_by}

-- borders are told by a list of 255 entries. Whether one stands between this byte and the next
abbrev pub is_border : List Bool → ℕ → Bool
is_border borders at = slice_index_or borders at false

-- whether this byte is the last one below a range of bytes, or the last one of it: the range ends between it and the next
abbrev pub is_edge : ℕ → ℕ → ℕ → Bool
is_edge lo hi at = nat_eq (at + 1) lo || nat_eq at hi

unfoldable pub no_borders : List Bool
no_borders = replicate 255 false

-- the class of a byte: how many borders stand below it
unfoldable pub class_of : List Bool → ℕ → ℕ
class_of borders byte = count_by (λ border. border) (take byte borders)

-- how many classes there are: one more than there are borders
unfoldable pub class_count : List Bool → ℕ
class_count borders = count_by (λ border. border) borders + 1

-- two bytes are of one class
abbrev pub AreOfOneClass : List Bool → ℕ → ℕ → Type 0
AreOfOneClass borders low high = class_of borders low ≡ class_of borders high

-- no border stands between the two bytes, of which the first is not above the second
abbrev pub IsNotParted : List Bool → ℕ → ℕ → Type 0
IsNotParted borders low high = (at : ℕ) → low ≤ at → at < high → is_border borders at ≡ false

-- there is a border below the byte and one above it, but none is wanted at either edge of 0 to 255
abbrev pub HasItsEdges : List Bool → ℕ → Type 0
HasItsEdges borders byte = (at : ℕ) → at < 255 → is_edge byte byte at ≡ true → is_border borders at ≡ true

-- no other byte is of this byte's class
abbrev pub IsAlone : List Bool → ℕ → Type 0
IsAlone borders byte = (other : ℕ) → other < 256 → AreOfOneClass borders other byte → other ≡ byte
