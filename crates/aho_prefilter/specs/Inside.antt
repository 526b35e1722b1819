-- How the builder keeps what a prefilter depends on.
use Rattle.std.specs.Prelude.{ℕ, Bool, not, ◌&&◌, List, [], ◌∷◌, Option, Some, None as Nothing, if◌then◌else◌}
use Rattle.std.specs.List.{fold}
use Rattle.aho_core.specs.Patterns.{Patterns, pattern_at}
use Rattle.aho_prefilter.specs.FirstBytes.{cases_of, first_bytes, has_byte}
use Rattle.aho_prefilter.specs.Prefilter.{has_empty, is_searched_whole, with_word}
use Rattle.aho_prefilter.specs.declared.prefilter.Searcher.{Searcher}
use Rattle.aho_prefilter.specs.declared.prefilter.Searcher.TheVariants.{Memchr, Memchr2, Memchr3}
use Rattle.aho_prefilter.specs.declared.prefilter.first_bytes.FirstBytes.{FirstBytes}
use Rattle.aho_prefilter.specs.declared.prefilter.first_bytes.FirstBytes.TheVariants.{None, One, Two, Three, Any}

-- the bytes, if they are few
abbrev pub bytes_of : FirstBytes → List ℕ
bytes_of None = []
bytes_of (One x) = x ∷ []
bytes_of (Two x y) = x ∷ y ∷ []
bytes_of (Three x y z) = x ∷ y ∷ z ∷ []
bytes_of Any = []

abbrev pub few : List ℕ → FirstBytes
few [] = None
few (x ∷ []) = One x
few (x ∷ y ∷ []) = Two x y
few (x ∷ y ∷ z ∷ []) = Three x y z
few (x ∷ y ∷ z ∷ u ∷ more) = Any

-- with a byte that is none of these
abbrev pub few_more : FirstBytes → ℕ → FirstBytes
few_more None byte = One byte
few_more (One x) byte = Two x byte
few_more (Two x y) byte = Three x y byte
few_more (Three x y z) byte = Any
few_more Any byte = Any

-- with a byte
abbrev pub few_with : FirstBytes → ℕ → FirstBytes
few_with bytes byte = if has_byte (bytes_of bytes) byte then bytes else few_more bytes byte

-- with the bytes with which a word begins
abbrev pub few_with_word : Bool → FirstBytes → List ℕ → FirstBytes
few_with_word ignore_case bytes [] = Any
few_with_word ignore_case bytes (byte ∷ word) = fold few_with bytes (cases_of ignore_case byte)

-- those of all patterns
abbrev pub few_of : Patterns → FirstBytes
few_of p = if has_empty p then Any else few (first_bytes p)

-- the search for few bytes
abbrev pub search_for_few : FirstBytes → Option Searcher
search_for_few None = Nothing
search_for_few (One x) = Some (Memchr x)
search_for_few (Two x y) = Some (Memchr2 x y)
search_for_few (Three x y z) = Some (Memchr3 x y z)
search_for_few Any = Nothing

-- the only pattern, where it is searched for as a whole and is not empty
abbrev pub whole_of : Patterns → Option (List ℕ)
whole_of p = if is_searched_whole p && not (has_empty p) then Some (pattern_at p 0) else Nothing

-- the same with one more pattern
abbrev pub whole_with : Patterns → List ℕ → Option (List ℕ)
whole_with p word = whole_of (with_word p word)
