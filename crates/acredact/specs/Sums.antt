-- What is counted for each pattern that was given: its own count, and those of its forms.
use Rattle.std.specs.Prelude.{◌≡◌, ℕ, ◌+◌, ◌-◌, ◌<◌, ◌^◌, min, List, [], ◌∷◌, is_some, length, map, nat_eq, not, slice_index, unwrap_or, if◌then◌else◌}
use Rattle.std.specs.List.{filter, range_with_len}
use Rattle.aho_cover.specs.Counting.{grown_count}
use Rattle.acredact.specs.Tables.{Secret}

-- how many were given, and are no forms of others
abbrev pub given_count : List Secret → ℕ
given_count secrets = length (filter (λ (secret : Secret). not (is_some secret.form_of)) secrets)

-- a pattern counts for its own number, or for that of the one of which it is a form
abbrev pub counts_for : ℕ → Secret → ℕ
counts_for number secret = unwrap_or secret.form_of number

-- what a count adds to that of a number
abbrev pub share : (counted_for number count : ℕ) → ℕ
share counted_for number count = if nat_eq counted_for number then count else 0

-- what these counts add to that of a number, where the first is of the pattern at this place
abbrev pub sum_for : (number place : ℕ) → List Secret → (counts : List ℕ) → ℕ
sum_for number place [] counts = 0
sum_for number place (secret ∷ secrets) [] = 0
sum_for number place (secret ∷ secrets) (count ∷ counts) =
    share (counts_for place secret) number count + sum_for number (place + 1) secrets counts

-- for each pattern that was given the sum of its count and those of its forms; it stops at the greatest number
abbrev pub sums_of : List Secret → (counts : List ℕ) → List ℕ
sums_of secrets counts = map (λ number. min (sum_for number 0 secrets counts) (2 ^ 64 - 1)) (range_with_len 0 (given_count secrets))

-- sums have grown, each by what is added to that of its number
pub record HaveGrown (more : ℕ → ℕ) (sums sums' : List ℕ) : Type 0 where
  pub as_many : length sums' ≡ length sums
  pub each : (number : ℕ) → number < length sums → slice_index sums' number ≡ grown_count (slice_index sums number) (more number)
