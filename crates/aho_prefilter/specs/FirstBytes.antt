-- With which bytes the patterns begin.
use Rattle.std.specs.Prelude.{◌≢◌, ℕ, ◌<◌, Bool, List, [], ◌∷◌, ◌++◌, length, slice_index, nat_eq, if◌then◌else◌}
use Rattle.std.specs.List.{flat_map, fold, list_any}
use Rattle.aho_core.specs.Bytes.{IsSameByte, opposite}
use Rattle.aho_core.specs.Patterns.{Patterns, pattern_at}

-- the byte and, under the case rule, its other case
abbrev pub cases_of : Bool → ℕ → List ℕ
cases_of ignore_case byte = if ignore_case then byte ∷ opposite byte ∷ [] else byte ∷ []

-- the bytes with which a word begins: none, if it is empty
abbrev pub begins_by : Bool → List ℕ → List ℕ
begins_by ignore_case [] = []
begins_by ignore_case (byte ∷ word) = cases_of ignore_case byte

-- whether the byte is one of these
abbrev pub has_byte : List ℕ → ℕ → Bool
has_byte bytes byte = list_any (λ x. nat_eq x byte) bytes

-- these bytes and one more, unless it is one of them
unfoldable pub with_byte : List ℕ → ℕ → List ℕ
with_byte bytes byte = if has_byte bytes byte then bytes else bytes ++ byte ∷ []

-- the bytes with which patterns begin, each once, in the order of the patterns
unfoldable pub first_bytes : Patterns → List ℕ
first_bytes p = fold with_byte [] (flat_map (begins_by p.ignore_case) p.words)

-- a pattern begins with this byte, by the case rule
pub record IsFirstOf (p : Patterns) (byte : ℕ) : Type 0 where
  pub number : ℕ
  pub numbered : number < length p.words
  pub some : 0 < length (pattern_at p number)
  pub same : IsSameByte p (slice_index (pattern_at p number) 0) byte

-- no byte stands at two places
abbrev pub IsEachOnce : List ℕ → Type 0
IsEachOnce bytes = (i j : ℕ) → i < j → j < length bytes → slice_index bytes i ≢ slice_index bytes j
