-- How great the numbers are that are told: none has grown by more than the bytes that were read, whether all were read or not.
use Rattle.acredact.specs.Common.{Consumes, SourceGhosts}
use Rattle.std.specs.Prelude.{◌≡◌, ℕ, ◌+◌, ◌<◌, ◌≤◌, List, [], ◌∷◌, Option, length, slice_index}
use Rattle.std.specs.List.{sum}
use Rattle.acredact.specs.Deeds.{SomeStream}
use Rattle.acredact.specs.Reads.{OfName}
use Rattle.acredact.specs.declared.summary.Volume.{Volume}

-- no count has grown by more than this, nor have all together
pub record GrowAtMost (most : ℕ) (counts counts' : List ℕ) : Type 0 where
  pub as_many : length counts' ≡ length counts
  pub each : (number : ℕ) → number < length counts → slice_index counts' number ≤ slice_index counts number + most
  pub together : sum counts' ≤ sum counts + most

-- no count has grown by more than a source gave
abbrev pub Bounded : {R : Type 0} → SourceGhosts R → (source source' : R) → (counts counts' : List ℕ) → Type 0
Bounded S source source' counts counts' = SomeStream S (λ given ended. GrowAtMost (length given) counts counts') source source'

-- so many bytes were read of a text
abbrev pub ReadsSize : ℕ → (left left' : Option (List ℕ)) → Type 0
ReadsSize size left left' = (given : List ℕ) × Consumes left left' given × (length given ≡ size)

-- nor has a number of bytes, by more than was read of something
pub record NumbersRead (Of : (Option (List ℕ) → Option (List ℕ) → Type 0) → Type 0) (counts counts' : List ℕ) (bytes bytes' : ℕ) : Type 0 where
  pub size : ℕ
  pub read : Of (ReadsSize size)
  pub counted : GrowAtMost size counts counts'
  pub added : bytes' ≤ bytes + size

module _ (holds : List ℕ → Option (List ℕ)) where
  -- so many bytes were read of the file of a name
  abbrev pub ReadsSome : List ℕ → ℕ → (left left' : Option (List ℕ)) → Type 0
  ReadsSome name size left left' = OfName holds name (ReadsSize size) left left'

  -- and of all files, one after another
  abbrev pub ReadInAll : List (List ℕ) → ℕ → (left left' : Option (List ℕ)) → Type 0
  ReadInAll [] size left left' = (size ≡ 0) × (left' ≡ left)
  ReadInAll (name ∷ names) size left left' =
      (first : ℕ) × (rest : ℕ) × (size ≡ first + rest) × (between : Option (List ℕ))
      × ReadsSome name first left between × ReadInAll names rest between left'

  -- no number has grown by more than was read of all files, and no more files were counted than there are
  pub record NumbersOfAll (names : List (List ℕ)) (counts counts' : List ℕ) (volume volume' : Volume) (left left' : Option (List ℕ)) : Type 0 where
    pub size : ℕ
    pub read : ReadInAll names size left left'
    pub counted : GrowAtMost size counts counts'
    pub bytes : volume'.bytes ≤ volume.bytes + size
    pub files : volume'.files ≤ volume.files + length names
