-- The patterns that a build takes from an iterator, and why it refuses them.
use Rattle.std.specs.Prelude.{List, None, Option, Some, length, map, take, ℕ, ◌<◌, ◌≡◌, ◌⊎◌}
use Rattle.std.specs.Iterator.{Drains, Yields}
use denote.Ref.{Bor}
use Rattle.aho_core.specs.Patterns.{Patterns}
use Rattle.aho_core.specs.declared.error.BuildError.{BuildError}
use Rattle.aho_core.specs.declared.error.BuildError.TheVariants.{OutOfMemory}
use Rattle.aho_build.specs.Refusals.{Growth, IsAccepted, IsCause, cause, refusal_of}
use Rattle.aho_build.specs.declared.settings.Settings.{Settings}

-- the patterns of these byte strings, by their places
abbrev pub patterns_of : Settings → List (Bor (List ℕ)) → Patterns
patterns_of settings items = record {
  words = map (λ item. item.now) items;
  kind = settings.kind;
  ignore_case = settings.ignore_case;
}

-- the items that an iterator gives first
abbrev pub HasYielded : {S A : Type 0} → (S → Option A → S → Type 0) → S → List A → Type 0
HasYielded {S} gives state items = (later : S) × Yields gives state items later

-- the items of an automaton: those that the iterator gave until it ended, of which the limits refuse nothing
abbrev pub AreAccepted : {S : Type 0} → (S → Option (Bor (List ℕ)) → S → Type 0) → S → Settings → List (Bor (List ℕ)) → Type 0
AreAccepted gives state settings items = Drains gives state items × (cause settings (patterns_of settings items) ≡ None)

-- the limits refuse a growth that these items ask for, none before it, and nothing while fewer of the items are taken
pub record IsFirstRefused (settings : Settings) (items : List (Bor (List ℕ))) (refused : Growth) : Type 0 where
  pub cause : IsCause settings (patterns_of settings items) refused
  pub fewer : (count : ℕ) → count < length items → IsAccepted settings (patterns_of settings (take count items))

-- why a build stopped that took these items: memory was wanted, or the last of them met the first thing that the limits refuse
abbrev pub IsStopped : Settings → List (Bor (List ℕ)) → BuildError → Type 0
IsStopped settings items error =
    (error ≡ OutOfMemory)
    ⊎ ((refused : Growth) × IsFirstRefused settings items refused × (error ≡ refusal_of settings refused))

-- why a build was refused where memory was found: the limits refuse a growth that the items ask for, none before it, and the
-- error says which. It is met either at the last of these items, whatever the iterator would have given after it, and these are
-- the fewest at which one is; or when the iterator had ended.
abbrev pub IsRefusal : {S : Type 0} → (S → Option (Bor (List ℕ)) → S → Type 0) → S → Settings → BuildError → Type 0
IsRefusal gives state settings error =
    (items : List (Bor (List ℕ))) × ((refused : Growth) × ((error ≡ refusal_of settings refused)
    × ((HasYielded gives state items × IsFirstRefused settings items refused)
    ⊎ (Drains gives state items × (cause settings (patterns_of settings items) ≡ Some refused)))))

-- why a build failed: memory was wanted, or its settings refuse the patterns
abbrev pub IsFailure : {S : Type 0} → (S → Option (Bor (List ℕ)) → S → Type 0) → S → Settings → BuildError → Type 0
IsFailure gives state settings error = (error ≡ OutOfMemory) ⊎ IsRefusal gives state settings error

-- why the trie was not made, of the items that were taken for it
abbrev pub IsTrieFailure : {S : Type 0} → (S → Option (Bor (List ℕ)) → S → Type 0) → S → Settings → BuildError → Type 0
IsTrieFailure gives state settings error = (items : List (Bor (List ℕ))) × (HasYielded gives state items × IsStopped settings items error)

-- what is true of the patterns of all items of an iterator
abbrev pub OfDrained : {S : Type 0} → (S → Option (Bor (List ℕ)) → S → Type 0) → S → Settings → (Patterns → Type 0) → Type 0
OfDrained gives state settings is_true =
    (items : List (Bor (List ℕ))) × Drains gives state items × is_true (patterns_of settings items)

-- what is true of the patterns of the items of an automaton
abbrev pub OfAccepted : {S : Type 0} → (S → Option (Bor (List ℕ)) → S → Type 0) → S → Settings → (Patterns → Type 0) → Type 0
OfAccepted gives state settings is_true =
    (items : List (Bor (List ℕ))) × AreAccepted gives state settings items × is_true (patterns_of settings items)
