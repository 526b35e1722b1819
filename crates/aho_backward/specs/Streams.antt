-- What the replacement of a stream by a walk backward writes, block after block.
use Rattle.std.specs.Prelude.{◌≡◌, ◌⊎◌, ℕ, ◌+◌, ◌-◌, ◌*◌, ◌≤◌, Bool, true, EachIndex, List, ◌++◌, None, Option, Result, IfErr, OnErr, OnOk, drop, length, map, reverse, slice_index, slice_range}
use Rattle.std.specs.Io.{StartsWith}
use Rattle.std.specs.Io.KnownBytes.{Appends}
use Rattle.aho_core.specs.declared.error.stream.StreamError.{StreamError}
use Rattle.aho_core.specs.declared.search.Anchored.TheVariants.{No}
use Rattle.aho_core.specs.Iteration.{AreFinds}
use Rattle.aho_core.specs.Laws.{longest}
use Rattle.aho_core.specs.Occurrence.{Occurrence}
use Rattle.aho_core.specs.Patterns.{Patterns}
use Rattle.aho_core.specs.Replacement.{replaced, replaced_from}
use Rattle.aho_core.specs.Search.{plain_search}
use Rattle.aho_laws.specs.CutLaws.{span_search}
use Rattle.aho_automaton.specs.declared.automaton.Automaton.{Ghosts as Automata}
use Rattle.aho_devices.specs.Refusals.{IsFillRefusal}
use Rattle.aho_devices.specs.declared.device.Sink.{Ghosts as SinkGhosts}
use Rattle.aho_devices.specs.declared.device.Source.{Ghosts as SourceGhosts}
use Rattle.aho_stream.specs.After.{kept_for}
use Rattle.aho_stream.specs.Refills.{is_limit}
use Rattle.aho_stream.specs.Replacing.{BeginsReplacing, GaveAsMany, MayBe, ReplacesStream, SourceGave, piece_for, replaced_up_to}
use Rattle.aho_backward.specs.Backward.{IsTurnedFrom}

-- a walk over the bytes from the last to the first was led to these states, each kept at the place of its byte: it is held after
-- the bytes from the last down to that place
pub record AreHeldAt {A : Type 0} (G : Automata A) (a : A) (bytes states : List ℕ) : Type 0 where
  pub room : length bytes ≤ length states
  pub valid : EachIndex bytes (λ place. G.valid a (slice_index states place))
  pub held : (q : Patterns) → G.is_of a q
      → EachIndex bytes (λ place. G.held a q No (reverse (drop place bytes)) (slice_index states place))

-- the bytes are a text's from a place on, and what begins before the last ones, so many as lie behind, ends in them: they reach to
-- the text's end, or no pattern is longer by more than one byte than what lies behind
pub record IsBlockOf {A : Type 0} (G : Automata A) (a : A) (given bytes : List ℕ) (behind : ℕ) (p : Patterns) (text : List ℕ) (first : ℕ) : Type 0 where
  pub turned_from : IsTurnedFrom G a given p
  pub within : first + length bytes ≤ length text
  pub part : slice_range text first (first + length bytes) ≡ bytes
  pub far : (first + length bytes ≡ length text) ⊎ (longest (G.lengths a) ≤ behind + 1)

-- of a text with these finds: this stands for all bytes before a place, and of the finds those are left that a search from there
-- on gives
pub record StandsBefore (p : Patterns) (pieces : List (List ℕ)) (text : List ℕ) (finds : List Occurrence) (place : ℕ) (written : List ℕ) : Type 0 where
  pub last : Option ℕ
  pub rest : List Occurrence
  pub are : AreFinds p (span_search text place (length text)) last rest
  pub whole : replaced text finds pieces ≡ written ++ replaced_from text place rest (piece_for pieces)
  pub up_to : (further : ℕ) → place ≤ further
      → replaced_up_to text further 0 finds (piece_for pieces) ≡ written ++ replaced_up_to text further place rest (piece_for pieces)

-- of a block: what is said of each text of whose bytes it is a part, and of what stands for all before it
abbrev pub ForItsTexts : {A : Type 0} → Automata A → A → List ℕ → List ℕ → ℕ
    → List (List ℕ) → (Patterns → List ℕ → List Occurrence → ℕ → List ℕ → Type 0) → Type 0
ForItsTexts G a given bytes behind pieces Says =
    (p : Patterns) (text : List ℕ) (first : ℕ) (finds : List Occurrence) (written : List ℕ)
    → IsBlockOf G a given bytes behind p text first
    → StandsBefore p pieces text finds first written → Says p text finds first written

-- some bytes were written, and with them it stands for so many bytes more
pub record WritesMore {A W : Type 0} (G : Automata A) (K : SinkGhosts W) (a : A) (given bytes : List ℕ) (behind : ℕ) (pieces : List (List ℕ)) (sink sink' : W) (count : ℕ) : Type 0 where
  pub chunk : List ℕ
  pub writes : Appends (K.taken sink) (K.taken sink') chunk
  pub stands : ForItsTexts G a given bytes behind pieces (λ p text finds first written. StandsBefore p pieces text finds (first + count) (written ++ chunk))

-- some bytes were written, and with them it is a beginning of the whole
pub record WritesSome {A W : Type 0} (G : Automata A) (K : SinkGhosts W) (a : A) (given bytes : List ℕ) (behind : ℕ) (pieces : List (List ℕ)) (sink sink' : W) : Type 0 where
  pub chunk : List ℕ
  pub writes : Appends (K.taken sink) (K.taken sink') chunk
  pub begins : ForItsTexts G a given bytes behind pieces (λ p text finds first written. StartsWith (replaced text finds pieces) (written ++ chunk))

-- of the bytes that were read and not written yet, some at the front were written, and these are left; what is left is less than
-- twice as much as lies behind a block, or just that. The look-ups are paid for by the bytes that were written
pub record SettlesTo {A W : Type 0} (G : Automata A) (K : SinkGhosts W) (a : A) (given : List ℕ) (behind : ℕ) (pieces : List (List ℕ)) (ahead ahead' : List ℕ) (sink sink' : W) (lookups lookups' : ℕ) : Type 0 where
  pub count : ℕ
  pub within : count ≤ length ahead
  pub on : WritesMore G K a given ahead behind pieces sink sink' count
  pub left : ahead' ≡ drop count ahead
  pub few : length ahead' ≤ 2 * behind
  pub paid : lookups' ≤ lookups + 4 * count

-- how many bytes that were read may be held back, by the patterns' lengths: the longest less one, and as many again, with which a
-- block may have begun
abbrev pub held_back : List ℕ → ℕ
held_back lengths = 2 * (kept_for lengths - 1)

-- of the patterns that are searched for: from a source and a sink before a call to those after it
module _ {R W : Type 0} (S : SourceGhosts R) (K : SinkGhosts W) (AreSearched : Patterns → Type 0) (pieces : List (List ℕ)) (source source' : R) (sink sink' : W) where
  -- the replacement was written up to a place, whatever bytes may follow, and no more bytes are left out than may be held back
  pub record ReplacesAllBut : Type 0 where
    pub given : List ℕ
    pub ended : Bool
    pub gives : SourceGave S source source' given ended
    pub place : ℕ
    pub within : place ≤ length given
    pub near : (p : Patterns) → AreSearched p → length given ≤ place + held_back (map length p.words)
    pub writes : (p : Patterns) (bytes : List ℕ) (finds : List Occurrence) → AreSearched p
        → MayBe given ended bytes → AreFinds p (plain_search bytes) None finds
        → Appends (K.taken sink) (K.taken sink') (replaced_up_to bytes place 0 finds (piece_for pieces))

  -- what a replacement leaves that answers so, of a source that may give so many bytes: all of it was written, or a beginning, and
  -- all but the bytes held back where a read failed or the limit was met
  pub record LeavesByBlocks (most : ℕ) (result : Result (Unit {0}) StreamError) : Type 0 where
    pub replaced_all : OnOk result (ReplacesStream S K AreSearched pieces source source' sink sink')
    pub begun : OnErr result (BeginsReplacing S K AreSearched pieces source source' sink sink')
    pub near : IfErr result (λ error. IsFillRefusal error → ReplacesAllBut)
    pub limit : is_limit result ≡ true → GaveAsMany S source source' most

-- look-ups: at most four for each byte that the source gave
pub record FourAByte {R : Type 0} (S : SourceGhosts R) (source source' : R) (lookups lookups' : ℕ) : Type 0 where
  pub given : List ℕ
  pub ended : Bool
  pub gives : SourceGave S source source' given ended
  pub at_most : lookups' ≤ lookups + 4 * length given
