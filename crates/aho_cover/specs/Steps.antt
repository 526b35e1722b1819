-- How far the walk over a covered stream has come, with what was written of it.
use Rattle.std.specs.Prelude.{◌≡◌, ℕ, ◌+◌, ◌-◌, ◌*◌, ◌≤◌, List, length}
use Rattle.aho_core.specs.Laws.{shortest}
use Rattle.aho_core.specs.Patterns.{Patterns}
use Rattle.aho_core.specs.declared.search.MatchKind.TheVariants.{Standard}
use Rattle.aho_automaton.specs.declared.automaton.Automaton.{Ghosts as Automata}
use Rattle.aho_automaton.specs.declared.walk.Counted.{Counted}
use Rattle.aho_cover.specs.declared.progress.CoverProgress.{CoverProgress}
use Rattle.aho_devices.specs.declared.device.Sink.{Ghosts as SinkGhosts}
use Rattle.aho_cover.specs.declared.pieces.Pieces.{Ghosts as PieceGhosts}
use Rattle.aho_cover.specs.Counting.{Output}
use Rattle.aho_cover.specs.Feeds.{Feeding}
use Rattle.aho_cover.specs.Hand.{held_runs}
use Rattle.aho_cover.specs.Pieces.{PieceRule}
use Rattle.aho_cover.specs.Progress.{BareFrom, HasCovered, walk_end}
use Rattle.aho_cover.specs.Walks.{StandsIn}
use Rattle.aho_cover.specs.Writes.{WritesOn}

-- by an automaton of these patterns the state is held after the bytes that were walked, and so much was covered
pub record CoversOn {A : Type 0} (G : Automata A) (a : A) (rule : PieceRule) (s : CoverProgress) (at : ℕ) (p : Patterns) (haystack : List ℕ) (written : Output) : Type 0 where
  pub of : G.is_of a p
  pub is_held : StandsIn G a p haystack s.sid at
  pub covered : HasCovered rule s at p haystack written

-- and what makes the pieces holds the bytes that were fed
abbrev pub CoversFed : {A P : Type 0} → Automata A → PieceGhosts P → A → P → CoverProgress → ℕ → Patterns → List ℕ → Output → Type 0
CoversFed G Q a pieces s at = Feeding (Q.holds pieces) s (CoversOn G a (Q.rule pieces) s at)

-- a walk from one place to another writes and counts what settles on its way
abbrev pub WalksAlong : {A W P : Type 0} → Automata A → SinkGhosts W → PieceGhosts P → A
    → P → P → W → W → List ℕ → List ℕ → CoverProgress → ℕ → CoverProgress → ℕ → Type 0
WalksAlong G K Q a pieces pieces' sink sink' counts counts' s at s' at' = WritesOn K sink sink' counts counts'
    (Feeding (Q.holds pieces) s (CoversOn G a (Q.rule pieces) s at))
    (Feeding (Q.holds pieces') s' (CoversOn G a (Q.rule pieces) s' at'))

-- what was covered up to one place is covered up to another, and nothing was written in between
abbrev pub PassesOver : {A : Type 0} → Automata A → A → CoverProgress → ℕ → CoverProgress → ℕ → Type 0
PassesOver G a s at s' at' = (rule : PieceRule) (p : Patterns) (haystack : List ℕ) (written : Output)
    → CoversOn G a rule s at p haystack written → CoversOn G a rule s' at' p haystack written

-- the walk may go on, with so many bytes walked
pub record CanWalk {A : Type 0} (G : Automata A) (walk : Counted A) (rule : PieceRule) (holds : List ℕ → Type 0) (s : CoverProgress) (at : ℕ) : Type 0 where
  pub standard : G.kind walk.automaton.now ≡ Standard
  pub no_empty : 1 ≤ shortest (G.lengths walk.automaton.now)
  pub is_state : G.valid walk.automaton.now s.sid
  pub cheap : walk.work + G.depth walk.automaton.now s.sid ≤ 2 * at
  pub stands : (p : Patterns) × (haystack : List ℕ) × (written : Output)
      × Feeding holds s (CoversOn G walk.automaton.now rule s at) p haystack written

-- the buffer may be rolled: each byte that was not written and lies in no run in hand is among those that a roll keeps
abbrev pub MayRoll : CoverProgress → Type 0
MayRoll s = BareFrom s.copied (held_runs s.hand) (s.read - s.buffer.least)

-- all was written that can be: each byte that was not, and lies in no run in hand, is among those over which the state reaches back,
-- or waits for the next
abbrev pub IsPrompt : {A : Type 0} → Automata A → A → CoverProgress → Type 0
IsPrompt G a s = BareFrom s.copied (held_runs s.hand) (walk_end s - G.reach a s.sid)

-- nothing was read, and the buffer holds the same
pub record KeepsBytes (s s' : CoverProgress) : Type 0 where
  pub read : s'.read ≡ s.read
  pub buffer : s'.buffer ≡ s.buffer
  pub words : s'.words ≡ s.words
  pub ended : s'.ended ≡ s.ended

-- so much was covered of a stream that ends with what was read
abbrev pub CoversToEnd : {A : Type 0} → Automata A → A → PieceRule → (List ℕ → Type 0) → CoverProgress → ℕ → Patterns → List ℕ → Output → Type 0
CoversToEnd G a rule holds s at p haystack written = Feeding holds s (CoversOn G a rule s at) p haystack written × (length haystack ≡ s.read)

-- of some such stream
abbrev pub CoversSomeToEnd : {A : Type 0} → Automata A → A → PieceRule → (List ℕ → Type 0) → CoverProgress → ℕ → Type 0
CoversSomeToEnd G a rule holds s at =
    (p : Patterns) × (haystack : List ℕ) × (written : Output) × CoversToEnd G a rule holds s at p haystack written
