-- The state that is held after a word was read.
use Rattle.std.specs.Prelude.{ℕ, Bool, true, false, List, [], ◌∷◌, Option, Some, None, if◌then◌else◌}
use Rattle.aho_core.specs.declared.search.Anchored.{Anchored}
use Rattle.aho_core.specs.declared.search.Anchored.TheVariants.{No, Yes}
use Rattle.aho_core.specs.Bytes.{folded_word}
use Rattle.aho_core.specs.Failure.{state_after}
use Rattle.aho_core.specs.Patterns.{Patterns}
use Rattle.aho_core.specs.Trie.{is_node}

-- unanchored the state after the word; anchored the word itself while it is a node, and then the dead state
abbrev pub held_after : Patterns → Anchored → List ℕ → Option (List ℕ)
held_after p No word = state_after p (folded_word p word)
held_after p Yes word = if is_node p (folded_word p word) then Some (folded_word p word) else None

-- whether a state is the root: the start of an unanchored search, and what the state is again where nothing that was read
-- begins a pattern
abbrev pub is_root : Option (List ℕ) → Bool
is_root None = false
is_root (Some []) = true
is_root (Some (x ∷ word)) = false
