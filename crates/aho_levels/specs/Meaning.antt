-- What it means that the states are the automaton of some patterns.
use Rattle.std.specs.Prelude.{◌≡◌, ◌≢◌, ◌⊎◌, ℕ, ◌<◌, List, [], ◌∷◌, ◌++◌, length, map, MatchBool, Option, Some, None, slice_index_or, true}
use Rattle.std.specs.List.{All}
use Rattle.aho_core.specs.Bytes.{folded}
use Rattle.aho_core.specs.Failure.{failure_of}
use Rattle.aho_core.specs.Held.{held_after}
use Rattle.aho_core.specs.MatchList.{matches_of}
use Rattle.aho_core.specs.Patterns.{Patterns}
use Rattle.aho_core.specs.Step.{follow}
use Rattle.aho_core.specs.Trie.{is_node}
use Rattle.aho_core.specs.declared.search.Anchored.{Anchored}
use Rattle.aho_core.specs.declared.search.Anchored.TheVariants.{No}
use Rattle.aho_core.specs.declared.search.MatchKind.{MatchKind}
use Rattle.aho_levels.specs.Layout.{StateTables, child_at, depth_at, row_entry_at, link_at, list_of_state}

-- the word of a state, by a list with the word of each at its number; none for the dead one, and past the end
abbrev pub named_word : List (Option (List ℕ)) → ℕ → Option (List ℕ)
named_word names sid = slice_index_or names sid None

-- the state of a word is one that has it as its name; that of none is the dead one
abbrev pub IsStateNamed : List (Option (List ℕ)) → Option (List ℕ) → ℕ → Type 0
IsStateNamed names None sid = sid ≡ 0
IsStateNamed names (Some word) sid = named_word names sid ≡ Some word

-- of words of one length, by the first byte that differs
abbrev pub IsLess : List ℕ → List ℕ → Type 0
IsLess xs [] = ⊥
IsLess [] (y ∷ ys) = ⊥
IsLess (x ∷ xs) (y ∷ ys) = (x < y) ⊎ ((x ≡ y) × IsLess xs ys)

-- by length, and then by the first byte that differs
abbrev pub ComesBefore : List ℕ → List ℕ → Type 0
ComesBefore u w = (length u < length w) ⊎ ((length u ≡ length w) × IsLess u w)

-- a byte as it is compared
abbrev pub IsFolded : Patterns → ℕ → Type 0
IsFolded p byte = (byte < 256) × (folded p byte ≡ byte)

-- the states are nodes, level by level and each level in its order, behind the dead state; and a byte leads from a node to the child
-- with that byte, if that is a node
pub record AreLevels (p : Patterns) (names : List (Option (List ℕ))) (t : StateTables) : Type 0 where
  pub sized : length names ≡ length t.bytes
  pub dead : named_word names 0 ≡ None
  pub root : named_word names 1 ≡ Some []
  pub complete : (i : ℕ) → i < length names → i ≢ 0 → (word : List ℕ) × (named_word names i ≡ Some word)
  pub ordered : (i j : ℕ) (u w : List ℕ) → i < j → named_word names i ≡ Some u → named_word names j ≡ Some w → ComesBefore u w
  pub nodes : (i : ℕ) (word : List ℕ) → named_word names i ≡ Some word → is_node p word ≡ true
  pub depths : (i : ℕ) (word : List ℕ) → named_word names i ≡ Some word → depth_at t i ≡ length word
  pub children : (i : ℕ) (word : List ℕ) (byte : ℕ) → named_word names i ≡ Some word → byte < 256
      → MatchBool
      (is_node p (word ++ folded p byte ∷ []))
      ((child : ℕ) × (child_at t i (folded p byte) ≡ Some child) × (named_word names child ≡ Some (word ++ folded p byte ∷ [])))
      (child_at t i (folded p byte) ≡ None)
  pub folded : (i : ℕ) (word : List ℕ) → named_word names i ≡ Some word → All (IsFolded p) word

-- each state that has a link leads on failure where its word does, and a row leads where the word's step does
pub record AreLinked (p : Patterns) (names : List (Option (List ℕ))) (t : StateTables) : Type 0 where
  pub links : (i : ℕ) (word : List ℕ) → i < length t.fails → named_word names i ≡ Some word
      → word ≢ [] → IsStateNamed names (failure_of p word) (link_at t i)
  pub rows : (i byte : ℕ) (state : Option (List ℕ)) → i < t.row_count → byte < 256 → IsStateNamed names state i
      → IsStateNamed names (follow p No state (folded p byte)) (row_entry_at t i byte)

-- by this naming of its states the layout leads as the words do, as far as links are made
pub record LeadsAsWords (p : Patterns) (t : StateTables) (names : List (Option (List ℕ))) : Type 0 where
  pub case_is : t.ignore_case ≡ p.ignore_case
  pub levels : AreLevels p names t
  pub linked : AreLinked p names t

-- and it is the automaton of the patterns: each state lists what its word lists
pub record NamesAll (p : Patterns) (t : StateTables) (names : List (Option (List ℕ))) : Type 0 where
  pub leads : LeadsAsWords p t names
  pub lists : (i : ℕ) (word : List ℕ) → named_word names i ≡ Some word → list_of_state t i ≡ matches_of p (Some word)
  pub dead_list : list_of_state t 0 ≡ []

-- by some naming
pub record IsLevelsOf (t : StateTables) (p : Patterns) (kind : MatchKind) (lengths : List ℕ) : Type 0 where
  pub kind_is : kind ≡ p.kind
  pub lengths_are : lengths ≡ map length p.words
  pub names : List (Option (List ℕ))
  pub naming : NamesAll p t names

-- by every naming the state is the one that is held after the word
abbrev pub IsHeldByNames : StateTables → Patterns → Anchored → List ℕ → ℕ → Type 0
IsHeldByNames t p anchored word sid = (names : List (Option (List ℕ)))
    → NamesAll p t names → IsStateNamed names (held_after p anchored word) sid
