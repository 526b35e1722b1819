-- How many bytes a line may have by what is given.
use Rattle.std.specs.Prelude.{ℕ, ◌+◌, ◌*◌, ◌-◌, ◌==◌, ◌||◌, Bool, List, [], ◌∷◌, Option, Some, None, if◌then◌else◌, is_some, nat_lt, option_and_then}

-- a number with a digit behind it; behind a greater one than this no digit is read
abbrev pub with_digit : ℕ → ℕ → Option ℕ
with_digit number byte =
    if nat_lt byte 48 || nat_lt 57 byte || nat_lt 1000000000000000 number then None else Some (number * 10 + (byte - 48))

-- the number that some digits behind a number mean
abbrev pub number_from : ℕ → List ℕ → Option ℕ
number_from number [] = Some number
number_from number (byte ∷ rest) = option_and_then (λ more. number_from more rest) (with_digit number byte)

-- a number of bytes, from 1 on
abbrev pub from_one : ℕ → Option ℕ
from_one number = if number == 0 then None else Some number

abbrev pub size_in : List ℕ → Option ℕ
size_in value = option_and_then from_one (number_from 0 value)

abbrev pub is_size : List ℕ → Bool
is_size value = is_some (size_in value)
