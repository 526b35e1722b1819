-- What a search does to the walk and the text that it is given: what stays, what it costs, and how far it reads.
use Rattle.std.specs.Prelude.{◌≡◌, ℕ, [], ◌+◌, ◌-◌, ◌*◌, ◌≤◌}
use Rattle.aho_core.specs.Occurrence.{Occurrence}
use Rattle.aho_core.specs.Patterns.{Patterns}
use Rattle.aho_core.specs.Search.{Search}
use Rattle.aho_core.specs.declared.search.Anchored.{Anchored}
use Rattle.aho_core.specs.declared.search.Anchored.TheVariants.{No, Yes}
use Rattle.aho_prefilter.specs.declared.text.Text.{Ghosts as Texts}
use Rattle.aho_automaton.specs.Reading.{ReadsLongest, ReadsNear, ReadsUpTo, bytes_read}
use Rattle.aho_automaton.specs.declared.automaton.Automaton.{Ghosts as Automata}
use Rattle.aho_automaton.specs.declared.walk.Walk.{Ghosts as Walks}

-- a walk begins in the state: it is held after no byte, and none of its look-ups is owed
pub record BeginsIn {A : Type 0} (automata : Automata A) (a : A) (anchored : Anchored) (sid : ℕ) : Type 0 where
  pub valid : automata.valid a sid
  pub shallow : automata.depth a sid ≡ 0
  pub held : (p : Patterns) → automata.is_of a p → automata.held a p anchored [] sid

-- the walk goes over the same automaton, and the text has the same bytes
pub record Untouched {W A S : Type 0} (walks : Walks W A) (texts : Texts S) (walk walk' : W) (text text' : S) : Type 0 where
  pub same_walk : walks.of walk' ≡ walks.of walk
  pub same_text : texts.bytes text' ≡ texts.bytes text

-- the cost of a search from a place on: two look-ups at most for each byte that it reads and for each that it passes, and no more
-- reads than it passes bytes
pub record Costs {W A S : Type 0} (walks : Walks W A) (texts : Texts S) (walk walk' : W) (text text' : S) (start : ℕ) : Type 0 where
  pub grows : walks.lookups walk ≤ walks.lookups walk'
  pub cost : walks.lookups walk' ≤ walks.lookups walk + 2 * (texts.next text' - start)
  pub two_a_byte : walks.lookups walk' ≤ walks.lookups walk + 2 * bytes_read texts text text'
  pub reads_grow : texts.reads text ≤ texts.reads text'
  pub once : bytes_read texts text text' ≤ texts.next text' - start

-- nothing was looked up, and nothing was read
pub record CostsNothing {W A S : Type 0} (walks : Walks W A) (texts : Texts S) (walk walk' : W) (text text' : S) : Type 0 where
  pub uncounted : walks.lookups walk' ≡ walks.lookups walk
  pub unread : texts.next text' ≡ texts.next text

-- how far a search reads that may find these: no byte comes again, and none past the span is read. An unanchored search does not read
-- far past the match that it finds, an anchored one not far past the longest pattern
pub record ReadsNoFurther {A S : Type 0} (automata : Automata A) (a : A) (texts : Texts S) (text text' : S) (search : Search) (Finds : Occurrence → Type 0) : Type 0 where
  pub forward : texts.next text ≤ texts.next text'
  pub read : ReadsUpTo (texts.next text) (texts.next text') search.end
  pub near : search.anchored ≡ No → (m : Occurrence) → Finds m → ReadsNear automata a texts text text' search.earliest m
  pub anchored_near : search.anchored ≡ Yes → ReadsLongest automata a texts text text' search.start
