-- The starts made ready: DEAD, the root that takes every byte, and the anchored start, before any link is made.
use Rattle.std.specs.Prelude.{◌≡◌, ◌≢◌, ℕ, ◌<◌, ◌≤◌, nat_eq, nat_lt, ◌&&◌, if◌then◌else◌, Bool, true, List, [], ◌∷◌, ◌++◌, length, Option, Some}
use Rattle.aho_core.specs.declared.search.MatchKind.{MatchKind}
use Rattle.aho_core.specs.Bytes.{folded}
use Rattle.aho_core.specs.Failure.{is_cut, is_leftmost}
use Rattle.aho_core.specs.MatchList.{own_matches}
use Rattle.aho_core.specs.Patterns.{Patterns}
use Rattle.aho_core.specs.Trie.{is_node}
use Rattle.aho_build.specs.StateNames.{name_at}
use Rattle.aho_build.specs.Trie.{IsTrie}
use Rattle.aho_table.specs.Table.{fail_id, dead_id, State, state_at, next_in, fail_in, depth_in, matches_in, lists_byte}
use Rattle.aho_build.specs.FirstStates.{anchored_id, root_id}

-- where the root leads by a byte that begins no pattern: back to itself, or to DEAD where it is cut (a leftmost kind with
-- an empty pattern)
abbrev pub root_loop : Patterns → ℕ
root_loop p = if is_cut p [] then dead_id else root_id

-- the anchored start has the root's own transitions and patterns, and leads nowhere else
pub record IsAnchoredStart (p : Patterns) (states : List State) : Type 0 where
  pub next : (byte : ℕ) → byte < 256 → next_in states anchored_id byte ≡ (if is_node p (folded p byte ∷ []) then next_in states root_id byte else fail_id)
  pub matches : matches_in states anchored_id ≡ own_matches p []
  pub fail : fail_in states anchored_id ≡ dead_id
  pub depth : depth_in states anchored_id ≡ 0

-- DEAD lists nothing and is its own link
pub record IsDead (states : List State) : Type 0 where
  pub matches : matches_in states dead_id ≡ []
  pub fail : fail_in states dead_id ≡ dead_id
  pub depth : depth_in states dead_id ≡ 0

-- whether a state that lists these patterns ends the walk along failure links
abbrev pub stops_at : MatchKind → List ℕ → Bool
stops_at kind listed = is_leftmost kind && nat_lt 0 (length listed)

-- where the byte leads from the root once the root takes every byte
abbrev pub looped : MatchKind → List State → ℕ → ℕ
looped kind states byte = if nat_eq (next_in states root_id byte) fail_id then (if stops_at kind (matches_in states root_id) then dead_id else root_id) else next_in states root_id byte

-- each byte below a count leads from the state where it should, and nothing else was changed
pub record IsLedBelow (sid count : ℕ) (leads : ℕ → ℕ) (old new : List State) : Type 0 where
  pub sized : length new ≡ length old
  pub transitions : (byte : ℕ) → byte < count → next_in new sid byte ≡ leads byte
  pub later : (byte : ℕ) → count ≤ byte → next_in new sid byte ≡ next_in old sid byte
  pub matches : matches_in new sid ≡ matches_in old sid
  pub fail : fail_in new sid ≡ fail_in old sid
  pub depth : depth_in new sid ≡ depth_in old sid
  pub others : (i : ℕ) → i ≢ sid → state_at new i ≡ state_at old i

-- the anchored start has got the root's transitions and, after its own, its patterns, and nothing else was changed
pub record IsLedAsRoot (old new : List State) : Type 0 where
  pub sized : length new ≡ length old
  pub transitions : (byte : ℕ) → byte < 256 → next_in new anchored_id byte ≡ next_in old root_id byte
  pub matches : matches_in new anchored_id ≡ matches_in old anchored_id ++ matches_in old root_id
  pub fail : fail_in new anchored_id ≡ fail_in old anchored_id
  pub depth : depth_in new anchored_id ≡ depth_in old anchored_id
  pub others : (i : ℕ) → i ≢ anchored_id → state_at new i ≡ state_at old i

-- the state has a transition for every byte
abbrev pub ListsAllBytes : List State → ℕ → Type 0
ListsAllBytes states sid = (byte : ℕ) → byte < 256 → lists_byte states sid byte ≡ true

-- before the links are made: the trie with its starts, each state with its own patterns and without a link
pub record IsReady (p : Patterns) (names : List (Option (List ℕ))) (states : List State) : Type 0 where
  pub trie : IsTrie p (is_node p) (root_loop p) names states
  pub dead : IsDead states
  pub anchored : IsAnchoredStart p states
  pub lists : (i : ℕ) (word : List ℕ) → name_at names i ≡ Some word → matches_in states i ≡ own_matches p word
  pub unlinked : (i : ℕ) (word : List ℕ) → name_at names i ≡ Some word → fail_in states i ≡ fail_id
