-- Files that are searched one after another, whatever is searched for in them.
use Rattle.acgrep.specs.Common.{Keeps}
use Rattle.std.specs.Prelude.{◌||◌, ◌∷◌, ◌≡◌, ◌⊎◌, Bool, List, MatchBool, Option, [], false, if◌then◌else◌, true, ℕ}
use Rattle.tool_parts.specs.Answers.{status_of}
use Rattle.acgrep.specs.declared.files.Outcome.{Outcome}
use Rattle.acgrep.specs.declared.files.Outcome.TheVariants.{Searched, Stopped, Unread}
use Rattle.acgrep.specs.declared.files.Seen.{Seen}
use Rattle.acgrep.specs.declared.options.Shown.{Shown}
use Rattle.acgrep.specs.declared.options.Shown.TheVariants.{Nothing}

-- under `-q` one selected line of any file is enough
abbrev pub is_enough : Shown → Bool → Bool
is_enough Nothing any = any
is_enough _ any = false

-- before any file was searched
abbrev pub nothing_seen : Seen
nothing_seen = record { selected = false; failed = false; ended = false }

-- what was seen, and then came of a file
abbrev pub seen_after : Shown → Seen → Outcome → Seen
seen_after shown seen (Searched any) = record { selected = seen.selected || any; failed = seen.failed; ended = seen.ended || is_enough shown any }
seen_after shown seen Unread = record { selected = seen.selected; failed = true; ended = seen.ended }
seen_after shown seen Stopped = record { selected = seen.selected; failed = true; ended = true }

-- where an error was told it goes before all but a selected line under `-q`
abbrev pub status_by : Shown → Seen → ℕ
status_by shown seen =
    if is_enough shown seen.selected then 0 else (if seen.failed then 2 else (if seen.selected then 0 else 1))

-- what is so where a file was searched
abbrev pub IfSearched : Outcome → (Bool → Type 0) → Type 0
IfSearched (Searched any) P = P any
IfSearched _ P = Unit {0}

-- what is so where a file was not searched
abbrev pub IfBroken : Outcome → Type 0 → Type 0
IfBroken (Searched any) P = Unit {0}
IfBroken _ P = P

-- what is done of the file of a name, from what is left of standard input to what is left then, and from what the output holds to what
-- it holds then: all that is asked, where the second `Bool` says whether a line is selected and the first whether one of a file before
-- is, or a beginning of it; how standard input is left, and whether the file has a selected line
pub record FileWork (S : Type 0) : Type 1 where
  pub Does : Bool → List ℕ → S → S → (held held' : Option (List ℕ)) → Bool → Type 0
  pub Begins : Bool → List ℕ → S → (held held' : Option (List ℕ)) → Type 0
  pub Leaves : List ℕ → S → S → Type 0
  pub Has : List ℕ → S → Type 0

module _ {S : Type 0} (work : FileWork S) where
  -- of some first ones of the files of these names, one after another, all that is asked is written, or a beginning of it; and
  -- nothing else
  abbrev pub AreBegun : Bool → List (List ℕ) → (left : S) → (held held' : Option (List ℕ)) → Type 0
  AreBegun follows [] left held held' = Keeps held held'
  AreBegun follows (name ∷ names) left held held' =
      Keeps held held'
      ⊎ ((between : S) × (meanwhile : Option (List ℕ)) × work.Leaves name left between
      × (((any : Bool) × work.Does follows name left between held meanwhile any × AreBegun (follows || any) names between meanwhile held')
      ⊎ (work.Begins follows name left held meanwhile × AreBegun follows names between meanwhile held')))

  -- one of these files has a selected line, whether those before it could be read or not
  abbrev pub HasOne : List (List ℕ) → S → Type 0
  HasOne [] left = ⊥
  HasOne (name ∷ names) left = work.Has name left ⊎ ((between : S) × work.Leaves name left between × HasOne names between)

module _ {S : Type 0} (work : FileWork S) (shown : Shown) where
  -- the files of these names were searched, one after another; `any` says whether a line is selected, and `follows` whether one of a
  -- file before is
  abbrev pub AreDone : Bool → List (List ℕ) → (left left' : S) → (held held' : Option (List ℕ)) → Bool → Type 0
  AreDone follows [] left left' held held' any = (left' ≡ left) × Keeps held held' × (any ≡ false)
  AreDone follows (name ∷ names) left left' held held' any =
      (between : S) × (meanwhile : Option (List ℕ)) × (first : Bool) × work.Does follows name left between held meanwhile first
      × MatchBool (is_enough shown first)
      ((left' ≡ between) × Keeps meanwhile held' × (any ≡ true))
      ((others : Bool) × AreDone (follows || first) names between left' meanwhile held' others × (any ≡ (first || others)))

  -- the files of these names were searched, and the status tells it; under `-q` that is all, even where others cannot be read
  abbrev pub AreDoneOr : List (List ℕ) → (left left' : S) → (held held' : Option (List ℕ)) → ℕ → Type 0
  AreDoneOr names left left' held held' status =
      ((any : Bool) × AreDone false names left left' held held' any × (status ≡ status_of any))
      ⊎ ((shown ≡ Nothing) × (status ≡ 0) × HasOne work names left)

  -- what was seen is so: where no error was told all were searched, and one selected line that is enough was seen in one of them
  pub record AreSeen (names : List (List ℕ)) (left left' : S) (held held' : Option (List ℕ)) (seen : Seen) : Type 0 where
    pub searched : seen.failed ≡ false → AreDone false names left left' held held' seen.selected
    pub found : shown ≡ Nothing → seen.selected ≡ true → HasOne work names left
    pub begun : AreBegun work false names left held held'
