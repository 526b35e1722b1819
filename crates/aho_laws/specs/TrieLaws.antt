-- What is proved of the word automaton, and of what its states say.
use Rattle.std.specs.Prelude.{◌≡◌, ℕ, zero, suc, ◌+◌, ◌<◌, ◌≤◌, true, false, List, [], ◌∷◌, ◌++◌, map, drop, length, Option, Some, None, is_none}
use Rattle.aho_core.specs.declared.search.Anchored.{Anchored}
use Rattle.aho_core.specs.declared.search.Anchored.TheVariants.{No}
use Rattle.aho_core.specs.Bytes.{IsSameWord}
use Rattle.aho_core.specs.Failure.{failure_of}
use Rattle.aho_core.specs.Held.{held_after, is_root}
use Rattle.aho_core.specs.Laws.{Reads}
use Rattle.aho_core.specs.MatchList.{matches_of}
use Rattle.aho_core.specs.Occurrence.{Occurrence}
use Rattle.aho_core.specs.Occurs.{Occurs}
use Rattle.aho_core.specs.Order.{IsMoreOr}
use Rattle.aho_core.specs.Patterns.{Patterns, pattern_at}
use Rattle.aho_core.specs.Step.{depth_of, follow, lookups}
use Rattle.aho_core.specs.Trie.{is_kept, is_node, pattern_word}

-- by the state that is held after a word, what it lists, whether it is dead and whether it is the root, the laws hold
abbrev pub HasLaws : Patterns → Type 0
HasLaws p = Reads p p.kind (map length p.words) (λ anchored w s. s ≡ held_after p anchored w) (matches_of p) is_none is_root

-- a step makes a state at most one longer, and all its look-ups but two make it shorter by one at least
abbrev pub IsCounted : Patterns → Type 0
IsCounted p = (anchored : Anchored) (s : Option (List ℕ)) (x : ℕ) → lookups p anchored s x + depth_of (follow p anchored s x) ≤ depth_of s + 2

-- the pattern of this number is the same as the word's bytes from some place on
pub record IsSuffixOf (p : Patterns) (word : List ℕ) (number : ℕ) : Type 0 where
  pub numbered : number < length p.words
  pub at : ℕ
  pub within : at ≤ length word
  pub same : IsSameWord p (pattern_at p number) (drop at word)

-- the longer pattern first, then the lesser number
abbrev pub IsLongerOrFirst : Patterns → ℕ → ℕ → Type 0
IsLongerOrFirst p j k = IsMoreOr (length (pattern_at p j)) (length (pattern_at p k)) (j < k)

-- the node ends the word, and no longer node does; both are folded
pub record IsLongestNode (p : Patterns) (word node : List ℕ) : Type 0 where
  pub front : List ℕ
  pub parts : front ++ node ≡ word
  pub a_node : is_node p node ≡ true
  pub longest : (front other : List ℕ) → front ++ other ≡ word → is_node p other ≡ true → length other ≤ length node

-- a pattern occurs in the word, and starts before its last n bytes
pub record OccursBefore (p : Patterns) (word : List ℕ) (n : ℕ) : Type 0 where
  pub found : Occurrence
  pub occurs : Occurs p No word 0 (length word) found
  pub before : found.start + n < length word

-- the word with some rest is a kept pattern; both are folded
pub record BeginsKept (p : Patterns) (word : List ℕ) : Type 0 where
  pub number : ℕ
  pub numbered : number < length p.words
  pub kept : is_kept p number ≡ true
  pub rest : List ℕ
  pub whole : word ++ rest ≡ pattern_word p number

-- the pattern of this number is kept, and is the word; both are folded
pub record IsOwnPattern (p : Patterns) (word : List ℕ) (number : ℕ) : Type 0 where
  pub numbered : number < length p.words
  pub kept : is_kept p number ≡ true
  pub same : pattern_word p number ≡ word

-- an earlier, shorter pattern begins the pattern of this number
pub record IsBegun (p : Patterns) (number : ℕ) : Type 0 where
  pub earlier : ℕ
  pub before : earlier < number
  pub shorter : length (pattern_word p earlier) < length (pattern_word p number)
  pub rest : List ℕ
  pub whole : pattern_word p earlier ++ rest ≡ pattern_word p number

-- a step from the state by the byte follows no failure link: the dead state and the root take every byte, a node those that
-- lead to a node
abbrev pub Takes : Patterns → Option (List ℕ) → ℕ → Type 0
Takes p None byte = Unit {0}
Takes p (Some []) byte = Unit {0}
Takes p (Some (x ∷ word)) byte = is_node p (x ∷ word ++ byte ∷ []) ≡ true

-- a step from the state by the byte follows this many failure links until a state takes the byte
abbrev pub FollowsLinks : Patterns → Option (List ℕ) → ℕ → ℕ → Type 0
FollowsLinks p state byte zero = Takes p state byte
FollowsLinks p None byte (suc links) = ⊥
FollowsLinks p (Some []) byte (suc links) = ⊥
FollowsLinks p (Some (x ∷ word)) byte (suc links) = (is_node p (x ∷ word ++ byte ∷ []) ≡ false) × FollowsLinks p (failure_of p (x ∷ word)) byte links

-- the state is dead, or a node
abbrev pub IsTrieState : Patterns → Option (List ℕ) → Type 0
IsTrieState p None = Unit {0}
IsTrieState p (Some word) = is_node p word ≡ true
