-- How many runs of each pattern a cover replaced, added to counts.
use Rattle.std.specs.Prelude.{◌≡◌, ℕ, ◌+◌, ◌-◌, ◌<◌, ◌^◌, nat_eq, max, min, List, [], ◌++◌, filter, length, slice_index}
use Rattle.aho_core.specs.Occurrence.{Occurrence}

-- how many of these runs are of a pattern
abbrev pub runs_named : ℕ → List Occurrence → ℕ
runs_named number runs = length (filter (λ (run : Occurrence). nat_eq run.pattern number) runs)

-- a count that has grown: it stops at the greatest number of 64 bits
abbrev pub grown_count : ℕ → ℕ → ℕ
grown_count count more = max count (min (count + more) (2 ^ 64 - 1))

-- the count of each pattern, where there is one for it, has grown by the runs of that pattern
pub record CountsThese (runs : List Occurrence) (counts counts' : List ℕ) : Type 0 where
  pub as_many : length counts' ≡ length counts
  pub grown : (number : ℕ) → number < length counts → slice_index counts' number ≡ grown_count (slice_index counts number) (runs_named number runs)

-- what was written of a cover: bytes, and the runs whose pieces are among them
pub record Output : Type 0 where
  pub bytes : List ℕ
  pub runs : List Occurrence

abbrev pub output_of : List ℕ → List Occurrence → Output
output_of bytes runs = record { bytes = bytes; runs = runs }

-- before anything was written
abbrev pub no_output : Output
no_output = output_of [] []

-- with more bytes, and the pieces of more runs among them
abbrev pub put_on : Output → List ℕ → List Occurrence → Output
put_on written bytes runs = output_of (written.bytes ++ bytes) (written.runs ++ runs)
