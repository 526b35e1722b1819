-- How often each pattern was found, by the numbers of the patterns that were, and how that is told.
use Rattle.acgrep.specs.Common.{Bor}
use Rattle.std.specs.Prelude.{◌++◌, ◌+◌, ◌-◌, ◌<◌, ◌==◌, ◌^◌, ◌∷◌, ◌≡◌, Bool, List, None, Option, Some, Vec, [], codes, decimal, false, filter, length, map, max, min, slice_index, ℕ}
use Rattle.aho_core.specs.Replacement.{pieces_of}
use Rattle.acgrep.specs.Arguments.{number_by}
use Rattle.acgrep.specs.Lines.{lines}

-- these bytes were put at the end of a text
abbrev pub PutsBytes : {Z : Type 0} → (text text' : Vec ℕ Z) → List ℕ → Type 0
PutsBytes text text' bytes = text'.items ≡ text.items ++ bytes

-- whether a line writes this number
abbrev pub is_that : ℕ → Option ℕ → Bool
is_that number None = false
is_that number (Some other) = other == number

abbrev pub writes : ℕ → List ℕ → Bool
writes number line = is_that number (number_by line)

-- how many of these lines do
abbrev pub count_of : ℕ → List (List ℕ) → ℕ
count_of number found = length (filter (λ (line : List ℕ). writes number line) found)

-- what is told of a pattern: its number, how often it was found, and its bytes, with TABs between them
abbrev pub row_of : (number count : ℕ) → List ℕ → List ℕ
row_of number count pattern = decimal number ++ (codes "\t" ++ (decimal count ++ (codes "\t" ++ (pattern ++ codes "\n"))))

-- of patterns with the numbers from this one on, where these are the numbers of those that were found; a count stays at the greatest
-- number
abbrev pub rows_from : ℕ → (patterns found : List (List ℕ)) → List ℕ
rows_from number [] found = []
rows_from number (pattern ∷ patterns) found =
    row_of number (min (count_of number found) (2 ^ 64 - 1)) pattern ++ rows_from (number + 1) patterns found

-- of all patterns, where the lines of a text, each ended by this byte, write the numbers of those that were found
abbrev pub counts_table : (ending : ℕ) → List (List ℕ) → List ℕ → List ℕ
counts_table ending patterns numbers = rows_from 0 patterns (lines ending numbers)

-- the same of patterns that are lent
abbrev pub counts_table_of : (ending : ℕ) → List (Bor (List ℕ)) → List ℕ → List ℕ
counts_table_of ending patterns numbers = counts_table ending (pieces_of patterns) numbers

-- a count with more; it stays at the greatest number
abbrev pub count_with : ℕ → ℕ → ℕ
count_with count more = max count (min (count + more) (2 ^ 64 - 1))

-- the count of each number has grown by the lines that write it
pub record CountsLines (found : List (List ℕ)) (counts counts' : List ℕ) : Type 0 where
  pub as_many : length counts' ≡ length counts
  pub grown : (number : ℕ) → number < length counts → slice_index counts' number ≡ count_with (slice_index counts number) (count_of number found)

-- before any was found
abbrev pub zeros_of : List (List ℕ) → List ℕ
zeros_of patterns = map (λ pattern. 0) patterns

-- what is told of patterns by their counts
abbrev pub rows_counted : ℕ → List (List ℕ) → (counts : List ℕ) → List ℕ
rows_counted number [] counts = []
rows_counted number (pattern ∷ patterns) [] = []
rows_counted number (pattern ∷ patterns) (count ∷ counts) = row_of number count pattern ++ rows_counted (number + 1) patterns counts
