-- What a step of an automaton promises, whatever the automaton.
use Rattle.std.specs.Prelude.{ℕ, ◌+◌, ◌≤◌, List, [], ◌∷◌, ◌++◌}

-- whatever bytes the state may be held after, the next one may be held after these and one byte more
abbrev pub GoesOn : (List ℕ → ℕ → Type 0) → ℕ → ℕ → ℕ → Type 0
GoesOn held sid byte next = (word : List ℕ) → held word sid → held (word ++ byte ∷ []) next

-- a step makes two look-ups and one more for each state that it leads back towards the start, at most: by the depth of the
-- states, the state before and after it, and the look-ups before and after it
abbrev pub IsPaid : (ℕ → ℕ) → ℕ → ℕ → ℕ → ℕ → Type 0
IsPaid depth sid next lookups lookups' = lookups' + depth next ≤ lookups + depth sid + 2
