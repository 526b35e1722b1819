-- How much of files was read: how many of them, and how many bytes.
use Rattle.std.specs.Prelude.{◌≡◌, ℕ, ◌+◌, ◌-◌, ◌^◌, min, true, List, [], ◌∷◌, Bool, Option, if◌then◌else◌, is_some, length}
use Rattle.aho_cover.specs.Counting.{grown_count}
use Rattle.acredact.specs.Deeds.{WholeText}
use Rattle.acredact.specs.Reads.{OfName}
use Rattle.acredact.specs.declared.summary.Volume.{Volume}

-- a text was read to its end, and its bytes were added to a number, where it tells them; the number stops at the greatest
abbrev pub AddsBytes : (bytes bytes' : ℕ) → (left left' : Option (List ℕ)) → Type 0
AddsBytes bytes bytes' left left' = WholeText (λ text. is_some left ≡ true → bytes' ≡ min (bytes + length text) (2 ^ 64 - 1)) left left'

module _ (holds : List ℕ → Option (List ℕ)) where
  -- of the file of a name
  abbrev pub AddsName : List ℕ → (bytes bytes' : ℕ) → (left left' : Option (List ℕ)) → Type 0
  AddsName name bytes bytes' left left' = OfName holds name (AddsBytes bytes bytes') left left'

  -- and of each file, one after another
  abbrev pub AddsNames : List (List ℕ) → (bytes bytes' : ℕ) → (left left' : Option (List ℕ)) → Type 0
  AddsNames [] bytes bytes' left left' = (bytes' ≡ bytes) × (left' ≡ left)
  AddsNames (name ∷ names) bytes bytes' left left' =
      (mid : ℕ) × (between : Option (List ℕ)) × AddsName name bytes mid left between × AddsNames names mid bytes' between left'

  -- all files of these names were read to their ends, and counted
  pub record ReadsVolume (names : List (List ℕ)) (volume volume' : Volume) (left left' : Option (List ℕ)) : Type 0 where
    pub bytes : AddsNames names volume.bytes volume'.bytes left left'
    pub files : volume'.files ≡ grown_count volume.files (length names)

-- one file more, if it was read to its end
abbrev pub files_with : Bool → ℕ → ℕ
files_with whole files = if whole then grown_count files 1 else files
