-- A step by one byte, and its look-ups. States are words, `None` is the dead state; the byte is folded.
use Rattle.std.specs.Prelude.{ℕ, ◌+◌, List, [], ◌∷◌, ◌++◌, length, Option, Some, None, if◌then◌else◌}
use Rattle.aho_core.specs.declared.search.Anchored.{Anchored}
use Rattle.aho_core.specs.declared.search.Anchored.TheVariants.{No, Yes}
use Rattle.aho_core.specs.Failure.{is_cut, state_after}
use Rattle.aho_core.specs.Patterns.{Patterns}
use Rattle.aho_core.specs.Trie.{is_node}

-- the state that a byte leads to; an anchored step follows no failure link
abbrev pub follow : Patterns → Anchored → Option (List ℕ) → ℕ → Option (List ℕ)
follow p anchored None byte = None
follow p No (Some word) byte = state_after p (word ++ byte ∷ [])
follow p Yes (Some word) byte = if is_node p (word ++ byte ∷ []) then Some (word ++ byte ∷ []) else None

-- how many states are looked at until one takes the byte, from a word on: only nodes are states, and the root and the
-- dead state take every byte
abbrev pub lookups_from : Patterns → ℕ → List ℕ → ℕ
lookups_from p byte [] = 1
lookups_from p byte (x ∷ word) =
    if is_node p (x ∷ word ++ byte ∷ []) then 1
    else (if is_node p (x ∷ word) then 1 else 0) + (if is_cut p (x ∷ word) then 1 else lookups_from p byte word)

-- the look-ups of one step
abbrev pub lookups : Patterns → Anchored → Option (List ℕ) → ℕ → ℕ
lookups p No None byte = 1
lookups p No (Some word) byte = lookups_from p byte word
lookups p Yes state byte = 1

-- how far a state is from the start: the length of its word
abbrev pub depth_of : Option (List ℕ) → ℕ
depth_of None = 0
depth_of (Some word) = length word

-- the steps of a word
abbrev pub follow_along : Patterns → Anchored → Option (List ℕ) → List ℕ → Option (List ℕ)
follow_along p anchored state [] = state
follow_along p anchored state (byte ∷ word) = follow_along p anchored (follow p anchored state byte) word

-- and their look-ups
abbrev pub lookups_along : Patterns → Anchored → Option (List ℕ) → List ℕ → ℕ
lookups_along p anchored state [] = 0
lookups_along p anchored state (byte ∷ word) = lookups p anchored state byte + lookups_along p anchored (follow p anchored state byte) word
