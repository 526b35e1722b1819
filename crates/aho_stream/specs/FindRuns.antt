-- What a run of calls of an iterator over the matches of a stream finds.
use Rattle.std.specs.Prelude.{◌≡◌, ◌||◌, ℕ, Bool, true, false, List, [], ◌∷◌, ◌++◌, Option, None, Result, Ok, Err}
use Rattle.std.specs.Iterator.{Yields, YieldsThen}
use Rattle.std.specs.Iterator.Runs.{Run}
use Rattle.aho_core.specs.declared.error.stream.StreamError.{StreamError}
use Rattle.aho_core.specs.Iteration.{AreFinds}
use Rattle.aho_core.specs.Occurrence.{Occurrence}
use Rattle.aho_core.specs.Patterns.{Patterns}
use Rattle.aho_core.specs.Search.{plain_search}
use Rattle.aho_devices.specs.declared.device.Source.{Ghosts as SourceGhosts}
use Rattle.aho_automaton.specs.Finding.{AreFirstFinds}
use Rattle.aho_stream.specs.After.{MayFollow}
use Rattle.aho_stream.specs.Refills.{is_limit}
use Rattle.aho_stream.specs.Replacing.{SourceGave}
use Rattle.aho_stream.specs.declared.finds.StreamFindIter.{StreamFindIter}

-- the matches among the answers: an error tells none
abbrev pub matches_among : List (Result Occurrence StreamError) → List Occurrence
matches_among [] = []
matches_among (Ok m ∷ items) = m ∷ matches_among items
matches_among (Err error ∷ items) = matches_among items

-- whether one of the answers is that the position limit was met
abbrev pub is_limit_among : List (Result Occurrence StreamError) → Bool
is_limit_among [] = false
is_limit_among (item ∷ items) = is_limit item || is_limit_among items

-- these were the answers since a search of the source began: it gave some bytes, and the matches among the answers are the first
-- finds of these bytes, whatever bytes may follow
pub record FindsSoFar {R : Type 0} (S : SourceGhosts R) (p : Patterns) (source source' : R) (items : List (Result Occurrence StreamError)) : Type 0 where
  pub given : List ℕ
  pub ended : Bool
  pub gives : SourceGave S source source' given ended
  pub first : (more : List ℕ) → MayFollow ended more → AreFirstFinds p (plain_search (given ++ more)) None (matches_among items)

-- the search is over: the end of the source was seen, and the matches among the answers are all finds of what it gave
pub record FindsAll {R : Type 0} (S : SourceGhosts R) (p : Patterns) (source source' : R) (items : List (Result Occurrence StreamError)) : Type 0 where
  pub given : List ℕ
  pub gives : SourceGave S source source' given true
  pub all : AreFinds p (plain_search given) None (matches_among items)

-- a run of calls finds so
abbrev pub RunFindsFirst : {A R : Type 0} {steps : StreamFindIter A R → Option (Result Occurrence StreamError) → StreamFindIter A R → Type 0}
    → SourceGhosts R → Patterns → R → Run steps → Type 0
RunFindsFirst {R = R} S p source run = (left : R) × FindsSoFar S p source left run.items

-- and all of them, where it went on to `None` and the position limit was not answered
abbrev pub RunFindsAll : {A R : Type 0} {steps : StreamFindIter A R → Option (Result Occurrence StreamError) → StreamFindIter A R → Type 0}
    → SourceGhosts R → Patterns → R → Run steps → Type 0
RunFindsAll {R = R} S p source run = run.whole ≡ true → is_limit_among run.items ≡ false → (left : R) × FindsAll S p source left run.items

-- calls of this iterator find so, wherever they leave it
pub record FindsAlong {A R : Type 0} (S : SourceGhosts R) (next_gives : StreamFindIter A R → Option (Result Occurrence StreamError) → StreamFindIter A R → Type 0)
    (p : Patterns) (it : StreamFindIter A R) : Type 0 where
  pub so_far : (items : List (Result Occurrence StreamError)) (rest : StreamFindIter A R) → Yields next_gives it items rest
      → FindsSoFar S p it.chunks.source.now rest.chunks.source.now items
  pub all : (items : List (Result Occurrence StreamError)) (rest : StreamFindIter A R) → YieldsThen next_gives it items None rest
      → is_limit_among items ≡ false → FindsAll S p it.chunks.source.now rest.chunks.source.now items
