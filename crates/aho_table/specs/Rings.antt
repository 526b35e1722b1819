-- Lists in one vector: each entry links to the next of its list, and the last one back to the first.
use Rattle.std.specs.Prelude.{Bool, true, ◌+◌, ◌⊎◌, Option, Some, None, IfSome, ◌≡◌, ◌≢◌, ℕ, zero, suc, ◌-◌, ◌<◌, ◌≤◌, List, [], ◌∷◌, map, nat_eq, nat_lt, if◌then◌else◌}
use Rattle.std.specs.List.{range_with_len}

-- what stands at each place: an item, the place that it links to, and a key, which rises along a list
pub record Entries (X : Type 0) : Type 0 where
  pub item : ℕ → X
  pub link : ℕ → ℕ
  pub key : ℕ → ℕ

-- the items from one place along the links to another, which is that many links away or less
unfoldable pub list_along : {X : Type 0} → Entries X → ℕ → ℕ → ℕ → List X
list_along entries zero at last = entries.item last ∷ []
list_along entries (suc steps) at last = if nat_eq at last then entries.item last ∷ [] else entries.item at ∷ list_along entries steps (entries.link at) last

-- the same, where keys rise on the way
unfoldable pub list_to : {X : Type 0} → Entries X → ℕ → ℕ → List X
list_to entries at last = list_along entries (entries.key last - entries.key at) at last

-- the list whose last entry is at this place: an entry is the last of its list where its link's key is no greater than its own.
-- No list ends at another place, and none at 0
unfoldable pub list_ending : {X : Type 0} → Entries X → ℕ → List X
list_ending entries last =
    if nat_eq last 0 then []
    else if nat_lt (entries.key last) (entries.key (entries.link last)) then []
    else list_to entries (entries.link last) last

-- the lists that end at the places below this number
unfoldable pub lists_of : {X : Type 0} → Entries X → ℕ → List (List X)
lists_of entries count = map (list_ending entries) (range_with_len 0 count)

-- what is left of a list from a place on
unfoldable pub rest_from : {X : Type 0} → Entries X → Option ℕ → ℕ → List X
rest_from entries None last = []
rest_from entries (Some at) last = list_to entries at last

-- where a walk goes from a place: along the link, and to the end from the last one
abbrev pub place_after : ℕ → ℕ → ℕ → Option ℕ
place_after link at last = if nat_eq at last then None else Some link

-- the links from this place lead to the last one, where keys rise on the way, and pass these items
pub data IsRun {X : Type 0} (entries : Entries X) (last : ℕ) : ℕ → List X → Type 0 where
  here : {at : ℕ} {xs : List X} → at ≡ last → xs ≡ entries.item last ∷ [] → IsRun entries last at xs
  on : {at : ℕ} {xs ys : List X} → at ≢ last → entries.key at < entries.key (entries.link at) → IsRun entries last (entries.link at) ys
      → xs ≡ entries.item at ∷ ys → IsRun entries last at xs

-- the links from this place lead to the other, and do not pass the last one on the way
pub data IsPassed {X : Type 0} (entries : Entries X) (last place : ℕ) : ℕ → Type 0 where
  stop : {at : ℕ} → at ≡ place → IsPassed entries last place at
  pass : {at : ℕ} → at ≢ last → entries.key at < entries.key (entries.link at) → IsPassed entries last place (entries.link at) → IsPassed entries last place at

-- each link leads to an entry, and where an entry is a last one its link leads to the first of its list
pub record AreRings {X : Type 0} (entries : Entries X) (count : ℕ) : Type 0 where
  pub some : 0 < count
  pub within : (i : ℕ) → i < count → entries.link i < count
  pub joined : (last : ℕ) → 0 < last → last < count → entries.key (entries.link last) ≤ entries.key last → (xs : List X) × IsRun entries last (entries.link last) xs

-- below `beside` the entries of a list lie side by side: each that is not a last one links to the next place
pub record AreSideBySide {X : Type 0} (entries : Entries X) (count beside : ℕ) : Type 0 where
  pub within : beside ≤ count
  pub linked : (i : ℕ) → i < beside → entries.key i < entries.key (entries.link i) → entries.link i ≡ i + 1

-- how far they lie side by side once the entry at this place of a list links to one more at the end, `made`, which is
-- behind the last one or elsewhere: as far as before, but not past the place; or all of them
abbrev pub IsBesideBehind : ℕ → ℕ → ℕ → ℕ → Bool → ℕ → Type 0
IsBesideBehind beside list place made above now =
    ((now ≤ beside) × (now ≤ place))
    ⊎ ((above ≡ true) × (place ≡ list) × (beside ≡ made) × (place + 1 ≡ made) × (now ≡ made + 1))

-- a walk along a list: it is at an entry from which the links lead to the last one, or at its end
pub record IsWalk {X : Type 0} (entries : Entries X) (count : ℕ) (at : Option ℕ) (last : ℕ) : Type 0 where
  pub within : (i : ℕ) → i < count → entries.link i < count
  pub on_list : IfSome at (λ place. (place < count) × (xs : List X) × IsRun entries last place xs)
