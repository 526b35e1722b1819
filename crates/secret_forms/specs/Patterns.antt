-- Lists of patterns, in which each stands once.
use Rattle.std.specs.Prelude.{◌≡◌, ℕ, Bool, IfOk, List, [], ◌∷◌, ◌++◌, OnOk, Result, Vec, fold, map, if◌then◌else◌}
use Rattle.std.specs.List.{list_any}
use Rattle.std.specs.Str.{bytes_eq}

-- the bytes of each pattern
abbrev pub pattern_bytes : {Z : Type 0} → List (Vec ℕ Z) → List (List ℕ)
pattern_bytes patterns = map (λ pattern. pattern.items) patterns

-- whether some pattern has these bytes
abbrev pub is_pattern_of : List (List ℕ) → List ℕ → Bool
is_pattern_of patterns bytes = list_any (λ pattern. bytes_eq pattern bytes) patterns

-- the patterns with one more, unless it is among them
unfoldable pub added : List (List ℕ) → List ℕ → List (List ℕ)
added patterns bytes = if is_pattern_of patterns bytes then patterns else patterns ++ bytes ∷ []

-- the patterns with others behind them, each once
abbrev pub added_all : List (List ℕ) → List (List ℕ) → List (List ℕ)
added_all patterns more = fold added patterns more

-- a list holds these patterns too now
abbrev pub AddsPatterns : {Y Z : Type 0} → (old new : Vec (Vec ℕ Z) Y) → List (List ℕ) → Type 0
AddsPatterns old new more = pattern_bytes new.items ≡ added_all (pattern_bytes old.items) more

-- what a call made holds these patterns, each once
abbrev pub ListsPatterns : {Y Z E : Type 0} → Result (Vec (Vec ℕ Z) Y) E → List (List ℕ) → Type 0
ListsPatterns result patterns = IfOk result (λ made. pattern_bytes made.items ≡ added_all [] patterns)

-- a call that did not fail wrote these bytes behind the others
abbrev pub Writes : {T E Z : Type 0} → Result T E → (old new : Vec ℕ Z) → List ℕ → Type 0
Writes result old new bytes = OnOk result (new.items ≡ old.items ++ bytes)
