-- How states are renumbered.
use Rattle.std.specs.Prelude.{◌≡◌, ◌<◌, ℕ, List, length, nat_eq, slice_index, slice_index_or, if◌then◌else◌}

-- where a number is when two have changed places
abbrev pub transposed : ℕ → ℕ → ℕ → ℕ
transposed a b n = if nat_eq n a then b else if nat_eq n b then a else n

-- where the state stands whose number was this one at first, by the list of these places; a number of no state stays
abbrev pub place_of_state : List ℕ → ℕ → ℕ
place_of_state places number = slice_index_or places number number

-- each number that is named has its place among them, and the first number by the place
pub record AreInverse (places origins : List ℕ) : Type 0 where
  pub as_many : length origins ≡ length places
  pub placed : (n : ℕ) → n < length places → slice_index places n < length places
  pub numbered : (n : ℕ) → n < length places → slice_index origins n < length places
  pub back : (n : ℕ) → n < length places → slice_index origins (slice_index places n) ≡ n
  pub there : (n : ℕ) → n < length places → slice_index places (slice_index origins n) ≡ n
