-- What a walk through folders finds.
use Rattle.acgrep.proofs.Common.{Ways, get_or, length-map}
use Rattle.std.proofs.Common.{◌++◌, ◌+◌, ◌<◌, ◌∙◌, ◌∷◌, ◌≡◌, Bool, List, None, Option, Some, [], ap, arith, codes, false, inl, inr, length, refl, subst, sym, true, ℕ}
use Rattle.std.proofs.lemmas.List.{append-nil, append_assoc, get_or-map, map-append}
use Rattle.std.proofs.lemmas.List.Sorted.{IsPermutation-trans}
use Rattle.std.specs.Cmp.Lexicographic.{slice_cmp}
use Rattle.std.specs.List.Sorted.{IsPermutation, IsSorted, IsSortedBy}
use Rattle.std.specs.Ordering.{nat_cmp}
use Rattle.std.specs.Prelude.{IfSome, map}
use Rattle.acgrep.specs.Folders.{AreBelow, AreFiles, Begins, Enters, FindsFiles, HoldsNames, IsKind, IsLost, PutsInside, Spot, Tree, entered, files_by, input, inside, is_folder, is_lost_left, is_spot_left, is_standard, left, looked, lost, missed, missed_of, none, operand, unlisted}
use Rattle.acgrep.specs.Listed.{listed_bytes}
use Rattle.acgrep.specs.Rules.{RuleSaid}
use Rattle.acgrep.specs.declared.folders.Kind.{Kind}
use Rattle.acgrep.specs.declared.folders.Kind.TheVariants.{Folder}
use Rattle.acgrep.specs.declared.walk.Found.{Found}

-- a folder holds the names that were read, in order
holds-put : (tree : Tree) (folder : List ℕ) (names ordered : List (List ℕ)) → IfSome (tree.lists folder) (λ known. IsPermutation known names) → IsPermutation names ordered
    → IsSorted (slice_cmp nat_cmp) ordered → HoldsNames tree folder ordered
holds-put tree folder names ordered listed permuted sorted = record { listed = by (tree.lists folder) listed; ordered = sorted }
  where
    by : (known : Option (List (List ℕ))) → IfSome known (λ k. IsPermutation k names) → IfSome known (λ k. IsPermutation k ordered)
    by None is = tt
    by (Some k) is = IsPermutation-trans k names ordered is permuted

-- no name stands for no file
nothing-there : (tree : Tree) (rules : List RuleSaid) (ways : Ways) {files unread : List (List ℕ)} → AreFiles tree rules ways [] files unread → (files ≡ []) × (unread ≡ [])
nothing-there tree rules ways none = (refl, refl)

-- an element goes from the end of one list to the front of another
pub moved : {X Y : Type 0} (f : X → Y) (front : List X) (last : X) (behind : List Y) → map f (front ++ (last ∷ [])) ++ behind ≡ map f front ++ (f last ∷ behind)
moved f front last behind = ap (λ l. l ++ behind) (map-append f front (last ∷ [])) ∙ append_assoc (map f front) (f last ∷ []) behind

-- what is in order is so by the values that are compared
pub sorted-map : {X Y : Type 0} (f : X → Y) (lt : Y → Y → Bool) (xs : List X) → IsSortedBy (λ x y. lt (f x) (f y)) xs → IsSortedBy lt (map f xs)
sorted-map f lt [] sorted = λ k d low high. absurd (omega (arith, high))
sorted-map f lt (x ∷ xs) sorted = λ k d low high.
    let within : k + 1 < length (x ∷ xs) = subst (λ (n : ℕ). k + 1 < n) (length-map (x ∷ xs) f) high in
    let next : get_or (map f (x ∷ xs)) (k + 1) d ≡ f (get_or (x ∷ xs) (k + 1) x) = get_or-map f (x ∷ xs) (k + 1) x d within in
    let here : get_or (map f (x ∷ xs)) k d ≡ f (get_or (x ∷ xs) k x) = get_or-map f (x ∷ xs) k x d (omega (arith, within)) in
    ap (λ (y : _). lt y (get_or (map f (x ∷ xs)) k d)) next ∙ ap (λ (y : _). lt (f (get_or (x ∷ xs) (k + 1) x)) y) here ∙ sorted k x low within

module _ (tree : Tree) (rules : List RuleSaid) (ways : Ways) (operands : List (List ℕ)) where
  -- a walk goes on
  pub begins-then : (before after : List Spot) (old new : Found) → Begins tree rules ways operands before old → FindsFiles tree rules ways before after old new → Begins tree rules ways operands after new
  begins-then before after old new so_far step = record {
    leads = λ files unread are.
        let all = so_far.leads (step.files ++ files) (step.unread ++ unread) (step.leads files unread are) in
        let names : listed_bytes old.names.items ++ (step.files ++ files) ≡ listed_bytes new.names.items ++ files = sym (append_assoc (listed_bytes old.names.items) step.files files) ∙ ap (λ l. l ++ files) (sym step.names) in
        let others : missed_of old.unread.items ++ (step.unread ++ unread) ≡ missed_of new.unread.items ++ unread = sym (append_assoc (missed_of old.unread.items) step.unread unread) ∙ ap (λ l. l ++ unread) (sym step.missed) in
        rw others at (rw names at all);
  }

  -- and ends where nothing is left
  pub begins-end : (found : Found) → Begins tree rules ways operands [] found → AreBelow tree rules ways operands (listed_bytes found.names.items) (missed_of found.unread.items)
  begins-end found so_far = rw (append-nil (missed_of found.unread.items)) at (rw (append-nil (listed_bytes found.names.items)) at (so_far.leads [] [] none))

  -- it begins at operands, if there are some
  pub begins-given : (found : Found) → 0 < length operands → listed_bytes found.names.items ≡ [] → missed_of found.unread.items ≡ [] → Begins tree rules ways operands (map operand operands) found
  begins-given found some clean empty = record {
    leads = λ files unread are. rw clean (rw empty (given operands some files unread are));
  }
    where
      given : (names : List (List ℕ)) → 0 < length names → (files unread : List (List ℕ)) → AreFiles tree rules ways (map operand names) files unread → AreBelow tree rules ways names files unread
      given [] some files unread are = absurd (omega (arith, some))
      given (name ∷ names) some files unread are = are

-- or in the working folder
module _ (tree : Tree) (rules : List RuleSaid) (ways : Ways) (found : Found) where
  pub begins-here : (names : List (List ℕ)) (spots : List Spot) → IfSome (tree.lists (codes ".")) (λ known. IsPermutation known names) → PutsInside names [] [] spots
      → listed_bytes found.names.items ≡ [] → missed_of found.unread.items ≡ [] → Begins tree rules ways [] spots found
  begins-here names spots listed puts clean empty = record {
    leads = λ files unread are.
        rw clean (rw empty (inl (puts.ordered, holds-put tree (codes ".") names puts.ordered listed puts.permuted puts.sorted, (rw (puts.put ∙ append-nil (map (inside []) puts.ordered)) at are))));
  }

  -- which may be unreadable
  pub begins-nowhere : listed_bytes found.names.items ≡ [] → missed_of found.unread.items ≡ codes "." ∷ [] → Begins tree rules ways [] [] found
  begins-nowhere clean missing = record {
    leads = λ files unread are.
        let (no_files, no_others) = nothing-there tree rules ways are in
        inr (ap (λ l. listed_bytes found.names.items ++ l) no_files ∙ append-nil (listed_bytes found.names.items) ∙ clean, ap (λ l. missed_of found.unread.items ++ l) no_others ∙ append-nil (missed_of found.unread.items) ∙ missing);
  }

-- what was put down of a folder
pub enters-put : (tree : Tree) (folder : List ℕ) (names : List (List ℕ)) (before after : List Spot) (found : Found) → IfSome (tree.lists folder) (λ known. IsPermutation known names)
    → PutsInside names folder before after → Enters tree folder before after found found
enters-put tree folder names before after found listed puts = inl (puts.ordered, holds-put tree folder names puts.ordered listed puts.permuted puts.sorted, puts.put, refl)

-- what is found at a name
module _ (tree : Tree) (rules : List RuleSaid) (ways : Ways) (spot : Spot) (spots after : List Spot) (old new : Found) where
  -- these files, where what stands behind it then stands for others
  finds-names : (files : List (List ℕ)) → listed_bytes new.names.items ≡ listed_bytes old.names.items ++ files → new.unread ≡ old.unread
      → ((more others : List (List ℕ)) → AreFiles tree rules ways after more others → AreFiles tree rules ways (spot ∷ spots) (files ++ more) others) → FindsFiles tree rules ways (spot ∷ spots) after old new
  finds-names files grown same leads =
      record { files = files; unread = []; names = grown; missed = ap (λ u. missed_of u.items) same ∙ sym (append-nil (missed_of old.unread.items)); leads = leads }

  -- or none
  finds-none : new ≡ old → ((more others : List (List ℕ)) → AreFiles tree rules ways after more others → AreFiles tree rules ways (spot ∷ spots) more others)
      → FindsFiles tree rules ways (spot ∷ spots) after old new
  finds-none same leads = finds-names [] (ap (λ f. listed_bytes f.names.items) same ∙ sym (append-nil (listed_bytes old.names.items))) (ap (λ f. f.unread) same) leads

  -- or it is told
  finds-missed : (new.names ≡ old.names) × (missed_of new.unread.items ≡ missed_of old.unread.items ++ (spot.name ∷ []))
      → ((more others : List (List ℕ)) → AreFiles tree rules ways after more others → AreFiles tree rules ways (spot ∷ spots) more (spot.name ∷ others)) → FindsFiles tree rules ways (spot ∷ spots) after old new
  finds-missed (same, grown) leads =
      record { files = []; unread = spot.name ∷ []; names = ap (λ n. listed_bytes n.items) same ∙ sym (append-nil (listed_bytes old.names.items)); missed = grown; leads = leads }

  pub finds-entered : is_standard spot ≡ false → IsKind tree ways spot Folder → is_spot_left rules true spot ≡ false → Enters tree spot.name spots after old new → FindsFiles tree rules ways (spot ∷ spots) after old new
  finds-entered other is kept (inl (names, holds, put, same)) =
      finds-none same (λ more others are. entered names other is kept holds (subst (λ (l : List Spot). AreFiles tree rules ways l more others) put are))
  finds-entered other is kept (inr (put, same, grown)) =
      finds-missed (same, grown) (λ more others are. unlisted other is kept (subst (λ (l : List Spot). AreFiles tree rules ways l more others) put are))

module _ (tree : Tree) (rules : List RuleSaid) (ways : Ways) (spot : Spot) (spots : List Spot) (old new : Found) where
  pub finds-input : is_standard spot ≡ true → listed_bytes new.names.items ≡ listed_bytes old.names.items ++ (spot.name ∷ []) → new.unread ≡ old.unread → FindsFiles tree rules ways (spot ∷ spots) spots old new
  finds-input is grown same = finds-names tree rules ways spot spots spots old new (spot.name ∷ []) grown same (λ more others are. input is are)

  pub finds-looked : (kind : Kind) → is_standard spot ≡ false → IsKind tree ways spot kind → is_folder kind ≡ false → is_spot_left rules false spot ≡ false
      → listed_bytes new.names.items ≡ listed_bytes old.names.items ++ files_by ways kind spot
      → new.unread ≡ old.unread → FindsFiles tree rules ways (spot ∷ spots) spots old new
  finds-looked kind other is plain kept grown same = finds-names tree rules ways spot spots spots old new (files_by ways kind spot) grown same (λ more others are. looked kind other is plain kept are)

  -- nothing is at one that is left out
  pub finds-left : (kind : Kind) → is_standard spot ≡ false → IsKind tree ways spot kind → is_spot_left rules (is_folder kind) spot ≡ true → FindsFiles tree rules ways (spot ∷ spots) spots old old
  finds-left kind other is out = finds-none tree rules ways spot spots spots old old refl (λ more others are. left kind other is out are)

  -- nor at one that cannot be looked at and is left out; else it is told
  pub finds-out : is_standard spot ≡ false → IsLost tree ways spot → is_lost_left rules spot ≡ true → FindsFiles tree rules ways (spot ∷ spots) spots old old
  finds-out other gone out = finds-none tree rules ways spot spots spots old old refl (λ more others are. lost other gone out are)

  pub finds-lost : is_standard spot ≡ false → IsLost tree ways spot → is_lost_left rules spot ≡ false → new.names ≡ old.names
      → missed_of new.unread.items ≡ missed_of old.unread.items ++ (spot.name ∷ []) → FindsFiles tree rules ways (spot ∷ spots) spots old new
  finds-lost other gone kept same grown = finds-missed tree rules ways spot spots spots old new (same, grown) (λ more others are. missed other gone kept are)

-- what is a folder is that kind
pub folder-alone : (tree : Tree) (ways : Ways) (spot : Spot) (kind : Kind) → is_folder kind ≡ true → IsKind tree ways spot kind → IsKind tree ways spot Folder
folder-alone tree ways spot Folder is known = known
folder-alone tree ways spot _ is known = absurd (cc)
