-- How far links and rows are made.
use Rattle.std.specs.Prelude.{◌≡◌, ◌≢◌, ◌&&◌, ℕ, ◌+◌, ◌-◌, ◌*◌, ◌<◌, ◌≤◌, Bool, not, List, [], ◌∷◌, ◌++◌, length, nat_eq, nat_le, slice_index_or, if◌then◌else◌, Option}
use Rattle.aho_core.specs.Bytes.{folded_by}
use Rattle.aho_core.specs.Failure.{is_leftmost}
use Rattle.aho_core.specs.Patterns.{Patterns}
use Rattle.aho_core.specs.declared.search.Anchored.TheVariants.{No}
use Rattle.aho_core.specs.declared.search.MatchKind.{MatchKind}
use Rattle.aho_laws.proofs.ByLinks.{is_empty}
use Rattle.aho_levels.specs.Building.{AreOfTrie, HasSameTrie, owns_at}
use Rattle.aho_levels.specs.Layout.{CanStepThrough, StateTables, child_by, depth_at, row_entry_at, first_child, link_at, next_at, told_else}
use Rattle.aho_levels.specs.Listing.{ArePassed}
use Rattle.aho_levels.specs.Meaning.{AreLinked}
use Rattle.aho_levels.specs.declared.links.Walk.{Walk}
use Rattle.aho_levels.specs.declared.trie.Own.{Own}

-- ---- lists of numbers that grow

-- so many numbers more stand at the end
pub record IsLonger (old new : List ℕ) (count : ℕ) : Type 0 where
  pub sized : length new ≡ length old + count
  pub kept : (i : ℕ) → i < length old → slice_index_or new i 0 ≡ slice_index_or old i 0

-- the upper-case byte of a lower-case one, where case is ignored; else the byte itself
abbrev pub upper_by : Bool → ℕ → ℕ
upper_by ignore_case byte = if ignore_case && (nat_le 97 byte && nat_le byte 122) then byte - 32 else byte

-- each of the bytes is as it is compared
abbrev pub AreFolded : Bool → List ℕ → Type 0
AreFolded ignore_case bytes = (i : ℕ) → i < length bytes → folded_by ignore_case (slice_index_or bytes i 0) ≡ slice_index_or bytes i 0

-- in a row the entry of each byte that leads to one of the first so many children is that child; every other number stays
pub record AreSet (ignore_case : Bool) (bytes : List ℕ) (first row count : ℕ) (old new : List ℕ) : Type 0 where
  pub sized : length new ≡ length old
  pub kept : (i : ℕ) → i < row → slice_index_or new i 0 ≡ slice_index_or old i 0
  pub child : (k byte : ℕ) → k < count → byte < 256 → folded_by ignore_case byte ≡ slice_index_or bytes k 0
      → slice_index_or new (row + byte) 0 ≡ first + k
  pub other : (byte : ℕ) → byte < 256 → ((k : ℕ) → k < count → folded_by ignore_case byte ≢ slice_index_or bytes k 0)
      → slice_index_or new (row + byte) 0 ≡ slice_index_or old (row + byte) 0

-- ---- layouts that grow

-- one link more
pub record HasNewLink (old new : StateTables) (link : ℕ) : Type 0 where
  pub trie : HasSameTrie old new
  pub fails : new.fails ≡ old.fails ++ link ∷ []
  pub rows : new.rows ≡ old.rows
  pub counted : new.row_count ≡ old.row_count

-- the row of a state leads to its children now, and elsewhere where it did
pub record HasSetRow (old new : StateTables) (sid : ℕ) : Type 0 where
  pub trie : HasSameTrie old new
  pub fails : new.fails ≡ old.fails
  pub counted : new.row_count ≡ old.row_count
  pub sized : length new.rows ≡ length old.rows
  pub kept : (i : ℕ) → i < sid * 256 → slice_index_or new.rows i 0 ≡ slice_index_or old.rows i 0
  pub entry : (byte : ℕ) → byte < 256 → row_entry_at new sid byte ≡ told_else (child_by old sid byte) (row_entry_at old sid byte)

-- one row more, for this state: it leads to its children, and elsewhere where the link's row does
pub record HasNewRow (old new : StateTables) (sid link : ℕ) : Type 0 where
  pub trie : HasSameTrie old new
  pub fails : new.fails ≡ old.fails
  pub counted : new.row_count ≡ old.row_count + 1
  pub longer : IsLonger old.rows new.rows 256
  pub entry : (byte : ℕ) → byte < 256 → row_entry_at new sid byte ≡ told_else (child_by old sid byte) (row_entry_at old link byte)

-- the dead state and the root have links and rows
pub record HasFirstLinks (old new : StateTables) (back : ℕ) : Type 0 where
  pub trie : HasSameTrie old new
  pub fails : new.fails ≡ 0 ∷ 0 ∷ []
  pub counted : new.row_count ≡ 2
  pub sized : length new.rows ≡ 512
  pub dead : (byte : ℕ) → byte < 256 → row_entry_at new 0 byte ≡ 0
  pub root : (byte : ℕ) → byte < 256 → row_entry_at new 1 byte ≡ told_else (child_by old 1 byte) back

-- ---- what is known while states are linked

-- the states stand level by level: the children of the root first, and those of the last state at the end; and bytes are as they are compared
pub record AreInLevels (t : StateTables) : Type 0 where
  pub begins : first_child t 1 ≡ 2
  pub ends : first_child t (length t.bytes) ≡ length t.bytes
  pub deeper : (i j : ℕ) → i < j → j < length t.bytes → depth_at t i ≤ depth_at t j
  pub folded : (i : ℕ) → 2 ≤ i → i < length t.bytes → folded_by t.ignore_case (slice_index_or t.bytes i 0) ≡ slice_index_or t.bytes i 0
  pub bytes : (i : ℕ) → 2 ≤ i → i < length t.bytes → slice_index_or t.bytes i 0 < 256

-- whether the walk along links ends at a state: a pattern ends there, and the kind is leftmost
abbrev pub ends_walk_at : MatchKind → List Own → ℕ → Bool
ends_walk_at kind owns sid = is_leftmost kind && not (is_empty (owns_at owns sid))

-- the states of one byte lead back to the root, or are dead where the walk ends at the root
pub record IsWalkOf (owns : List Own) (walk : Walk) : Type 0 where
  pub back : walk.back ≡ (if ends_walk_at walk.kind owns 1 then 0 else 1)

-- where the child of a state leads on failure, unless the walk ends at it
abbrev pub link_below : StateTables → ℕ → ℕ → ℕ → ℕ
link_below t back parent child = if nat_eq parent 1 then back else next_at t No (link_at t parent) (slice_index_or t.bytes child 0)

-- the states before this one are linked as their words are, each to one less deep, and the patterns before this one end at them
pub record AreLinkedTo (kind : MatchKind) (owns : List Own) (own count : ℕ) (t : StateTables) : Type 0 where
  pub can : CanStepThrough t
  pub levels : AreInLevels t
  pub linked : length t.fails ≡ count
  pub nearer : (sid : ℕ) → 2 ≤ sid → sid < count → depth_at t (link_at t sid) < depth_at t sid
  pub within : own ≤ length owns
  pub passed : (p : Patterns) (names : List (Option (List ℕ))) → p.kind ≡ kind → AreOfTrie p names owns t → ArePassed owns own count
  pub links : (p : Patterns) (names : List (Option (List ℕ))) → p.kind ≡ kind → AreOfTrie p names owns t → AreLinked p names t

-- and as many states as are to have rows have them
abbrev pub HaveRowsTo : ℕ → ℕ → StateTables → Type 0
HaveRowsTo most count t = count < most → t.row_count ≡ count
