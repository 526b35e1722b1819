-- Runs of bytes: the arrows of a picture.
use Rattle.std.specs.Prelude.{◌≡◌, ℕ, ◌+◌, List, [], ◌∷◌, map}
use Rattle.std.specs.List.{flat_map, range_with_len}
use Rattle.acdraw.specs.declared.picture.runs.Run.{Run}

-- the transitions that an arrow stands for: each byte of the run leads to the one state
abbrev pub pairs_of : Run → List (ℕ × ℕ)
pairs_of run = map (λ byte. (byte, run.next)) (range_with_len run.first (run.more + 1))

-- those of several arrows, one after another
abbrev pub all_pairs : List Run → List (ℕ × ℕ)
all_pairs runs = flat_map pairs_of runs

-- the second run begins where the first one ends, and leads to the same state: they could be one
abbrev pub Adjoins : Run → Run → Type 0
Adjoins run after = (run.first + run.more + 1 ≡ after.first) × (run.next ≡ after.next)

-- no run goes on in the one behind it
abbrev pub AreApart : List Run → Type 0
AreApart [] = Unit {0}
AreApart (run ∷ []) = Unit {0}
AreApart (run ∷ after ∷ runs) = (Adjoins run after → ⊥) × AreApart (after ∷ runs)
