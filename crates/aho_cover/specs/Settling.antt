-- What is written of runs that are settled, and of the bytes beside them.
use Rattle.std.specs.Prelude.{ℕ, List}
use Rattle.aho_devices.specs.declared.device.Sink.{Ghosts as SinkGhosts}
use Rattle.aho_cover.specs.declared.progress.CoverProgress.{CoverProgress}
use Rattle.aho_core.specs.Patterns.{Patterns}
use Rattle.aho_cover.specs.declared.pieces.Pieces.{Ghosts as PieceGhosts}
use Rattle.aho_cover.specs.Counting.{Output}
use Rattle.aho_cover.specs.Feeds.{Feeding}
use Rattle.aho_cover.specs.Pieces.{PieceRule}
use Rattle.aho_cover.specs.Progress.{ClearlyCovered, HasCovered, IsBeginning, walk_end}
use Rattle.aho_cover.specs.Writes.{WritesOn}

-- runs were written that end before a place, behind which begins what ends later
abbrev pub Settles : {W P : Type 0} → SinkGhosts W → PieceGhosts P → W → W → List ℕ → List ℕ → P → P → ℕ → CoverProgress → CoverProgress → Type 0
Settles K Q sink sink' counts counts' pieces pieces' place s s' = (at : ℕ) → WritesOn K sink sink' counts counts'
    (Feeding (Q.holds pieces) s (ClearlyCovered (Q.rule pieces) s at place))
    (Feeding (Q.holds pieces') s' (ClearlyCovered (Q.rule pieces) s' at place))

-- a write of them failed
abbrev pub StopsSettling : {W P : Type 0} → SinkGhosts W → PieceGhosts P → W → W → List ℕ → List ℕ → P → ℕ → CoverProgress → Type 0
StopsSettling K Q sink sink' counts counts' pieces place s = (at : ℕ) → WritesOn K sink sink' counts counts'
    (Feeding (Q.holds pieces) s (ClearlyCovered (Q.rule pieces) s at place)) (IsBeginning s.words (Q.rule pieces))

-- bytes that no run holds were written up to such a place
abbrev pub WritesOutside : {W : Type 0} → SinkGhosts W → W → W → ℕ → CoverProgress → CoverProgress → Type 0
WritesOutside K sink sink' place s s' = (at : ℕ) (rule : PieceRule) (counts : List ℕ)
    → WritesOn K sink sink' counts counts (ClearlyCovered rule s at place) (HasCovered rule s' at)

-- a write of them failed
abbrev pub StopsOutside : {W : Type 0} → SinkGhosts W → W → W → ℕ → CoverProgress → Type 0
StopsOutside K sink sink' place s = (at : ℕ) (rule : PieceRule) (counts : List ℕ)
    → WritesOn K sink sink' counts counts (ClearlyCovered rule s at place) (IsBeginning s.words rule)

-- a write failed, once so many bytes were walked
abbrev pub StopsAt : {W P : Type 0} → SinkGhosts W → PieceGhosts P → W → W → List ℕ → List ℕ → P → CoverProgress → ℕ → Type 0
StopsAt K Q sink sink' counts counts' pieces s at = WritesOn K sink sink' counts counts'
    (Feeding (Q.holds pieces) s (HasCovered (Q.rule pieces) s at)) (IsBeginning s.words (Q.rule pieces))

-- more of the first run was fed: what was covered, of all that could be walked, is the same
abbrev pub FeedsFirst : {P : Type 0} → PieceGhosts P → P → P → CoverProgress → CoverProgress → Type 0
FeedsFirst Q pieces pieces' s s' = (written : Output) (p : Patterns) (haystack : List ℕ)
    → Feeding (Q.holds pieces) s (HasCovered (Q.rule pieces) s (walk_end s)) p haystack written
    → Feeding (Q.holds pieces') s' (HasCovered (Q.rule pieces) s' (walk_end s)) p haystack written
