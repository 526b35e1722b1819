-- How the states of a table are named: a naming is a list with the word of each state at its number, none for DEAD, FAIL
-- and the anchored start, and for every number past the end.
use Rattle.std.specs.Prelude.{List, None, Option, Some, slice_index_or, ℕ, ◌≡◌}
use Rattle.aho_table.specs.Table.{dead_id}

-- the word that a state stands for
abbrev pub name_at : List (Option (List ℕ)) → ℕ → Option (List ℕ)
name_at names sid = slice_index_or names sid None

-- the state of a word is one that has it as its name; that of none is DEAD
abbrev pub IsStateOf : List (Option (List ℕ)) → Option (List ℕ) → ℕ → Type 0
IsStateOf names None sid = sid ≡ dead_id
IsStateOf names (Some word) sid = name_at names sid ≡ Some word
