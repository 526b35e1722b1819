-- Which files the operands of a recursive search name.
use Rattle.acgrep.specs.Common.{bytes_eq, is_input}
use Rattle.std.specs.Cmp.Lexicographic.{slice_cmp}
use Rattle.std.specs.List.{ends_with}
use Rattle.std.specs.List.Sorted.{IsPermutation, IsSorted}
use Rattle.std.specs.Ordering.{nat_cmp}
use Rattle.std.specs.Prelude.{◌&&◌, ◌++◌, ◌||◌, ◌∷◌, ◌≡◌, ◌⊎◌, Bool, IfSome, List, MatchBool, None, Option, [], codes, false, if◌then◌else◌, map, nat_eq, not, true, unwrap_or, ℕ}
use Rattle.std.specs.Str.{IsUtf8, is_utf8}
use Rattle.acgrep.specs.Listed.{listed_bytes}
use Rattle.acgrep.specs.Rules.{RuleSaid, is_left_out, without_slashes}
use Rattle.acgrep.specs.declared.folders.Folders.{Ghosts as FolderGhosts}
use Rattle.acgrep.specs.declared.folders.Kind.{Kind}
use Rattle.acgrep.specs.declared.folders.Kind.TheVariants.{Device, File, Folder}
use Rattle.acgrep.specs.declared.open.Open.{Ghosts as Openers}
use Rattle.acgrep.specs.declared.walk.Found.{Found}
use Rattle.acgrep.specs.declared.walk.Pending.{Pending}
use Rattle.acgrep.specs.declared.walk.Unread.{Unread}
use Rattle.acgrep.specs.declared.walk.Ways.{Ways}

-- what is known of names and folders
pub record Tree : Type 0 where
  -- what a name stands for, where links are followed or not
  pub kinds : Bool → List ℕ → Option Kind
  -- the names in the folder of a name
  pub lists : List ℕ → Option (List (List ℕ))

-- and of files
pub record Known : Type 0 where
  pub holds : List ℕ → Option (List ℕ)
  pub tree : Tree

abbrev pub tree_of : {F : Type 0} → FolderGhosts F → F → Tree
tree_of folders files = record { kinds = folders.kinds files; lists = folders.lists files }

abbrev pub known_by : {F X : Type 0} → Openers F X → FolderGhosts F → F → Known
known_by openers folders files = record { holds = openers.holds files; tree = tree_of folders files }

-- a name that is looked at, and whether it is an operand
pub record Spot : Type 0 where
  pub name : List ℕ
  pub given : Bool

abbrev pub operand : List ℕ → Spot
operand name = record { name = name; given = true }

-- what stands between the name of a folder and a name in it: the working folder has no name here, and `-` is a file there
abbrev pub between : (folder name : List ℕ) → List ℕ
between [] name = if is_input name then codes "./" else []
between (byte ∷ bytes) name = if ends_with nat_eq (byte ∷ bytes) (codes "/") then [] else codes "/"

-- the name of a folder has no slashes at its end there, but for its first byte; two slashes alone may be another folder than one
abbrev pub folder_named : List ℕ → List ℕ
folder_named folder = if bytes_eq folder (codes "//") then folder else without_slashes folder

abbrev pub path_inside : (folder name : List ℕ) → List ℕ
path_inside folder name = folder_named folder ++ (between (folder_named folder) name ++ name)

-- what has this name in a folder
abbrev pub inside : (folder name : List ℕ) → Spot
inside folder name = record { name = path_inside folder name; given = false }

-- an operand may be standard input
abbrev pub is_standard : Spot → Bool
is_standard spot = spot.given && is_input spot.name

-- links are followed that are operands, and others where that is asked for
abbrev pub is_followed : Ways → Spot → Bool
is_followed ways spot = spot.given || ways.follow

-- a name stands for this, as far as is known
abbrev pub IsKind : Tree → Ways → Spot → Kind → Type 0
IsKind tree ways spot kind = IfSome (tree.kinds (is_followed ways spot) spot.name) (λ known. kind ≡ known)

abbrev pub is_folder : Kind → Bool
is_folder Folder = true
is_folder _ = false

-- devices are read where that is said, and where nothing is said of it those where a link would be followed
abbrev pub reads_devices : Ways → Spot → Bool
reads_devices ways spot = unwrap_or ways.devices (is_followed ways spot)

-- whether it is searched: a file is, and a device where those are read
abbrev pub is_searched : Kind → Bool → Bool
is_searched File devices = true
is_searched Device devices = devices
is_searched _ devices = false

abbrev pub files_by : Ways → Kind → Spot → List (List ℕ)
files_by ways kind spot = if is_searched kind (reads_devices ways spot) then spot.name ∷ [] else []

-- a folder holds these names, as far as is known, and they are in the order of their bytes
pub record HoldsNames (tree : Tree) (folder : List ℕ) (names : List (List ℕ)) : Type 0 where
  pub listed : IfSome (tree.lists folder) (λ known. IsPermutation known names)
  pub ordered : IsSorted (slice_cmp nat_cmp) names

-- whether rules leave out a file, or a folder, of a name
abbrev pub is_spot_left : List RuleSaid → (is_folder : Bool) → Spot → Bool
is_spot_left rules is_folder spot = is_left_out rules is_folder spot.given spot.name

-- below a folder they leave out what cannot be looked at, as if it were a file. Of a name that is not UTF-8 nothing can be known, and it
-- may well be a folder: it is left out where a folder of that name is left out too
abbrev pub is_lost_left : List RuleSaid → Spot → Bool
is_lost_left rules spot = not spot.given && is_spot_left rules false spot && (is_utf8 spot.name || is_spot_left rules true spot)

-- nothing is known of a name, or it is not UTF-8
abbrev pub IsUnknown : Tree → Bool → List ℕ → Type 0
IsUnknown tree followed name = (tree.kinds followed name ≡ None) ⊎ (IsUtf8 name → ⊥)

-- so it is of what cannot be looked at
abbrev pub IsLost : Tree → Ways → Spot → Type 0
IsLost tree ways spot = IsUnknown tree (is_followed ways spot) spot.name

-- names stand for these files, one after another, but for those that rules leave out. A folder stands for what it holds. What cannot
-- be looked at, or be read as a folder, is left out, and told; and so is a folder that stands in itself, as links can have it
pub data AreFiles (tree : Tree) (rules : List RuleSaid) (ways : Ways) : List Spot → (files unread : List (List ℕ)) → Type 0 where
  none : AreFiles tree rules ways [] [] []
  input : {spot : Spot} {spots : List Spot} {files unread : List (List ℕ)}
      → is_standard spot ≡ true → AreFiles tree rules ways spots files unread → AreFiles tree rules ways (spot ∷ spots) (spot.name ∷ files) unread
  missed : {spot : Spot} {spots : List Spot} {files unread : List (List ℕ)}
      → is_standard spot ≡ false → IsLost tree ways spot → is_lost_left rules spot ≡ false
      → AreFiles tree rules ways spots files unread → AreFiles tree rules ways (spot ∷ spots) files (spot.name ∷ unread)
  lost : {spot : Spot} {spots : List Spot} {files unread : List (List ℕ)}
      → is_standard spot ≡ false → IsLost tree ways spot → is_lost_left rules spot ≡ true
      → AreFiles tree rules ways spots files unread → AreFiles tree rules ways (spot ∷ spots) files unread
  left : {spot : Spot} {spots : List Spot} {files unread : List (List ℕ)} (kind : Kind)
      → is_standard spot ≡ false → IsKind tree ways spot kind → is_spot_left rules (is_folder kind) spot ≡ true
      → AreFiles tree rules ways spots files unread → AreFiles tree rules ways (spot ∷ spots) files unread
  looked : {spot : Spot} {spots : List Spot} {files unread : List (List ℕ)} (kind : Kind)
      → is_standard spot ≡ false → IsKind tree ways spot kind → is_folder kind ≡ false → is_spot_left rules false spot ≡ false
      → AreFiles tree rules ways spots files unread → AreFiles tree rules ways (spot ∷ spots) (files_by ways kind spot ++ files) unread
  unlisted : {spot : Spot} {spots : List Spot} {files unread : List (List ℕ)}
      → is_standard spot ≡ false → IsKind tree ways spot Folder → is_spot_left rules true spot ≡ false
      → AreFiles tree rules ways spots files unread → AreFiles tree rules ways (spot ∷ spots) files (spot.name ∷ unread)
  entered : {spot : Spot} {spots : List Spot} {files unread : List (List ℕ)} (names : List (List ℕ))
      → is_standard spot ≡ false → IsKind tree ways spot Folder → is_spot_left rules true spot ≡ false → HoldsNames tree spot.name names
      → AreFiles tree rules ways (map (inside spot.name) names ++ spots) files unread → AreFiles tree rules ways (spot ∷ spots) files unread

-- those below the working folder, unless that cannot be read
abbrev pub AreHere : Tree → List RuleSaid → Ways → (files unread : List (List ℕ)) → Type 0
AreHere tree rules ways files unread =
    ((names : List (List ℕ)) × HoldsNames tree (codes ".") names × AreFiles tree rules ways (map (inside []) names) files unread)
    ⊎ ((files ≡ []) × (unread ≡ codes "." ∷ []))

-- these files are named by operands, or are below them; where there is no operand, those below the working folder
abbrev pub AreBelow : Tree → List RuleSaid → Ways → (operands files unread : List (List ℕ)) → Type 0
AreBelow tree rules ways [] files unread = AreHere tree rules ways files unread
AreBelow tree rules ways (name ∷ names) files unread = AreFiles tree rules ways (map operand (name ∷ names)) files unread

-- what is still to be looked at
abbrev pub spot_of : Pending → Spot
spot_of pending = record { name = pending.name.items; given = pending.given }

abbrev pub spots_of : List Pending → List Spot
spots_of pending = map spot_of pending

-- the names of what cannot be read
abbrev pub missed_of : List Unread → List (List ℕ)
missed_of unread = map (λ missed. missed.name.items) unread

-- what was found between two times: whatever files the names behind stand for, those before stand for these and them
pub record FindsFiles (tree : Tree) (rules : List RuleSaid) (ways : Ways) (before after : List Spot) (old new : Found) : Type 0 where
  pub files : List (List ℕ)
  pub unread : List (List ℕ)
  pub names : listed_bytes new.names.items ≡ listed_bytes old.names.items ++ files
  pub missed : missed_of new.unread.items ≡ missed_of old.unread.items ++ unread
  pub leads : (more others : List (List ℕ)) → AreFiles tree rules ways after more others → AreFiles tree rules ways before (files ++ more) (unread ++ others)

-- the names of a folder, in order, were put before what is still to be looked at
pub record PutsInside (names : List (List ℕ)) (folder : List ℕ) (old new : List Spot) : Type 0 where
  pub ordered : List (List ℕ)
  pub permuted : IsPermutation names ordered
  pub sorted : IsSorted (slice_cmp nat_cmp) ordered
  pub put : new ≡ map (inside folder) ordered ++ old

-- what a folder holds was put there, or the folder is told
abbrev pub Enters : Tree → List ℕ → (before after : List Spot) → Found → Found → Type 0
Enters tree folder before after old new =
    ((names : List (List ℕ)) × HoldsNames tree folder names × (after ≡ map (inside folder) names ++ before) × (new ≡ old))
    ⊎ ((after ≡ before) × (new.names ≡ old.names) × (missed_of new.unread.items ≡ missed_of old.unread.items ++ (folder ∷ [])))

-- a walk begins at these names: whatever files they stand for, those are named by the operands
pub record Begins (tree : Tree) (rules : List RuleSaid) (ways : Ways) (operands : List (List ℕ)) (spots : List Spot) (found : Found) : Type 0 where
  pub leads : (files unread : List (List ℕ)) → AreFiles tree rules ways spots files unread
      → AreBelow tree rules ways operands (listed_bytes found.names.items ++ files) (missed_of found.unread.items ++ unread)

-- an operand of this kind is passed over
abbrev pub is_passed : Ways → Kind → Bool
is_passed ways Folder = ways.skips_folders
is_passed ways Device = not (unwrap_or ways.devices true)
is_passed ways _ = false

-- operands of some kind are
abbrev pub passes : Ways → Bool
passes ways = ways.skips_folders || not (unwrap_or ways.devices true)

-- an operand is searched or not, by what it is and as rules say, where it can be looked at
abbrev pub IsKept : Tree → List RuleSaid → Ways → List ℕ → Bool → Type 0
IsKept tree rules ways name kept =
    MatchBool (is_input name) (kept ≡ true)
    ((IsUnknown tree true name × (kept ≡ true))
    ⊎ ((kind : Kind) × IfSome (tree.kinds true name) (λ known. kind ≡ known) × (kept ≡ not (is_passed ways kind || is_left_out rules (is_folder kind) true name))))

abbrev pub kept_of : List ℕ → Bool → List (List ℕ)
kept_of name kept = if kept then name ∷ [] else []

-- these of the operands are searched, where folders are not entered
abbrev pub AreChosen : Tree → List RuleSaid → Ways → (names files : List (List ℕ)) → Type 0
AreChosen tree rules ways [] files = files ≡ []
AreChosen tree rules ways (name ∷ names) files =
    (kept : Bool) × (others : List (List ℕ)) × IsKept tree rules ways name kept × AreChosen tree rules ways names others × (files ≡ kept_of name kept ++ others)

-- one operand was looked at
pub record Chooses (tree : Tree) (rules : List RuleSaid) (ways : Ways) (name : List ℕ) (old new : Found) : Type 0 where
  pub kept : Bool
  pub is : IsKept tree rules ways name kept
  pub names : listed_bytes new.names.items ≡ listed_bytes old.names.items ++ kept_of name kept
  pub unread : new.unread ≡ old.unread
