-- How many bytes a source gave.
use Rattle.acredact.specs.Common.{Consumes, Keeps}
use Rattle.std.specs.Prelude.{◌≡◌, ℕ, ◌+◌, ◌-◌, ◌≤◌, ◌^◌, min, true, List, Option, None, Some, Result, MatchResult, is_some, length, take}

-- how many bytes there are, where they are known
abbrev pub known_size : Option (List ℕ) → ℕ
known_size None = 0
known_size (Some bytes) = length bytes

-- of these bytes, where they are known, so many are left, and all others were added to a number; that stops at the greatest
abbrev pub IsMetered : (whole left : Option (List ℕ)) → (start bytes : ℕ) → Type 0
IsMetered whole left start bytes = is_some whole ≡ true
    → (is_some left ≡ true) × (known_size left ≤ known_size whole) × (bytes ≡ min (start + (known_size whole - known_size left)) (2 ^ 64 - 1))

-- that stays so
abbrev pub StaysMetered : (left left' : Option (List ℕ)) → (bytes bytes' : ℕ) → Type 0
StaysMetered left left' bytes bytes' = (whole : Option (List ℕ)) (start : ℕ) → IsMetered whole left start bytes → IsMetered whole left' start bytes'

-- a read gave the first bytes of a buffer, and no other; one that failed gave none
abbrev pub GivesFirst : {Z : Type 0} → Result ℕ Z → (left left' : Option (List ℕ)) → List ℕ → Type 0
GivesFirst result left left' bytes = MatchResult result (λ count. Consumes left left' (take count bytes)) (λ _. Keeps left left')
