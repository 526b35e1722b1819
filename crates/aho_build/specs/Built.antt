-- The table that is built, and how a build gets there from the trie.
use Rattle.std.specs.Prelude.{◌≡◌, ◌≢◌, ℕ, List, [], Option, Some}
use Rattle.aho_core.specs.declared.search.MatchKind.{MatchKind}
use Rattle.aho_core.specs.MatchList.{own_matches}
use Rattle.aho_core.specs.Patterns.{Patterns}
use Rattle.aho_core.specs.Trie.{is_node}
use Rattle.aho_build.specs.Trie.{IsTrie}
use Rattle.aho_build.specs.StateNames.{name_at}
use Rattle.aho_table.specs.Table.{dead_id, State, fail_in, matches_in}
use Rattle.aho_build.specs.Starts.{root_loop, IsAnchoredStart, IsDead, IsReady}
use Rattle.aho_build.specs.FailureLinks.{IsLinked}
use Rattle.aho_build.specs.FirstStates.{root_id}

-- every state's link and list are those of its word
pub record IsBuilt (p : Patterns) (names : List (Option (List ℕ))) (states : List State) : Type 0 where
  pub trie : IsTrie p (is_node p) (root_loop p) names states
  pub dead : IsDead states
  pub anchored : IsAnchoredStart p states
  pub root_fail : fail_in states root_id ≡ dead_id
  pub root_matches : matches_in states root_id ≡ own_matches p []
  pub linked : (i : ℕ) (word : List ℕ) → name_at names i ≡ Some word → word ≢ [] → IsLinked p names states i word

-- the table with its starts is ready for the links, by some naming
abbrev pub IsReadyBySome : MatchKind → List State → Type 0
IsReadyBySome kind states = (p : Patterns) × ((names : List (Option (List ℕ))) × (p.kind ≡ kind) × IsReady p names states)

-- what was ready, by any naming, is built by the same
abbrev pub BuildsReady : MatchKind → List State → List State → Type 0
BuildsReady kind old new = (p : Patterns) (names : List (Option (List ℕ))) → p.kind ≡ kind → IsReady p names old → IsBuilt p names new
