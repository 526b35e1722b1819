-- The heads of words: a bit for each hash of the first bytes of one.
use Rattle.std.specs.Prelude.{ℕ, ◌<◌, ◌≤◌, Bool, List, replicate}
use Rattle.aho_prefilter.specs.Strided.{HasMark, IsTable, hash_of_head, with_mark}

-- how many bytes a head has, the case rule, and the bits that are set
pub record HeadMarks : Type 0 where
  pub size : ℕ
  pub ignore_case : Bool
  pub table : List ℕ

-- what is true of each
pub record AreSoundHeads (heads : HeadMarks) : Type 0 where
  pub some : 0 < heads.size
  pub short : heads.size ≤ 16
  pub table : IsTable heads.table

-- those of no word
abbrev pub no_heads : ℕ → Bool → HeadMarks
no_heads size ignore_case = record { size = size; ignore_case = ignore_case; table = replicate 64 0 }

-- with that of one more word
abbrev pub heads_with : HeadMarks → List ℕ → HeadMarks
heads_with heads word = record heads { table = with_mark heads.table (hash_of_head heads.ignore_case heads.size word 0) }

-- the bit of the head at a place is set
abbrev pub StandsHead : HeadMarks → List ℕ → ℕ → Type 0
StandsHead heads bytes at = HasMark heads.table (hash_of_head heads.ignore_case heads.size bytes at)
