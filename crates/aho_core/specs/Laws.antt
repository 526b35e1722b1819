-- The laws of an automaton: what its states tell of the bytes that were read. A record over lists and numbers, so that
-- each search is proved once, for every automaton whose states keep it.
use Rattle.std.specs.Prelude.{◌≡◌, ◌≢◌, ℕ, max, min, ◌+◌, ◌-◌, ◌<◌, ◌≤◌, Bool, true, false, not, List, [], ◌∷◌, ◌++◌, map, Option, Some, None, is_none, length, nat_eq, if◌then◌else◌, slice_index}
use Rattle.std.specs.List.{All}
use Rattle.aho_core.specs.declared.search.Anchored.{Anchored}
use Rattle.aho_core.specs.declared.search.Anchored.TheVariants.{No, Yes}
use Rattle.aho_core.specs.declared.search.MatchKind.{MatchKind}
use Rattle.aho_core.specs.declared.search.MatchKind.TheVariants.{Standard, LeftmostFirst, LeftmostLongest}
use Rattle.aho_core.specs.Best.{IsBestOrNone}
use Rattle.aho_core.specs.Held.{held_after}
use Rattle.aho_core.specs.Occurrence.{Occurrence}
use Rattle.aho_core.specs.Occurs.{Occurs}
use Rattle.aho_core.specs.Overlapping.{occurrences_ending, begins_some}
use Rattle.aho_core.specs.Patterns.{Patterns}

-- the best of all of a word
abbrev pub BestAfter : Patterns → Anchored → List ℕ → Option Occurrence → Type 0
BestAfter p anchored word best = IsBestOrNone p.kind (Occurs p anchored word 0 (length word)) best

-- the match that a state's list tells at a place of a search from `start`: its first pattern, which ends there. An anchored
-- search takes it only where it is as long as what was read
abbrev pub told : List ℕ → Anchored → ℕ → ℕ → List ℕ → Option Occurrence
told lengths anchored start at [] = None
told lengths No start at (k ∷ ks) = Some (record { pattern = k; start = at - slice_index lengths k; end = at })
told lengths Yes start at (k ∷ ks) = if nat_eq (slice_index lengths k) (at - start) then Some (record { pattern = k; start = at - slice_index lengths k; end = at }) else None

-- the first of two that is there
abbrev pub first_of_two : Option Occurrence → Option Occurrence → Option Occurrence
first_of_two None other = other
first_of_two (Some m) other = Some m

-- the best, from the best before the last byte and what the state tells: Standard keeps the first, the leftmost kinds take
-- the last
abbrev pub better : MatchKind → Option Occurrence → Option Occurrence → Option Occurrence
better Standard best now = first_of_two best now
better LeftmostFirst best now = first_of_two now best
better LeftmostLongest best now = first_of_two now best

-- each pattern listed is there, and no longer than n
abbrev pub Fits : List ℕ → ℕ → List ℕ → Type 0
Fits lengths n list = All (λ k. (k < length lengths) × (slice_index lengths k ≤ n)) list

-- the greatest length, 0 where there is none
abbrev pub longest : List ℕ → ℕ
longest [] = 0
longest (n ∷ ns) = max n (longest ns)

-- the least length, the greatest `usize` where there is none
abbrev pub shortest : List ℕ → ℕ
shortest [] = 18446744073709551615
shortest (n ∷ ns) = min n (shortest ns)

-- the patterns that end the word, longest first, then by number
abbrev pub patterns_ending : Patterns → List ℕ → List ℕ
patterns_ending p word = map (λ (m : Occurrence). m.pattern) (occurrences_ending p word 0 (length word))

-- what holds of an automaton of the patterns p, by its kind, the lengths of its patterns, the states that may be held after
-- a word, and what a state lists, whether it is dead and whether it is a start
pub record Reads {S : Type 0} (p : Patterns) (kind : MatchKind) (lengths : List ℕ) (held : Anchored → List ℕ → S → Type 0) (list : S → List ℕ) (dead starts : S → Bool) : Type 0 where
  pub kind_is : kind ≡ p.kind
  pub lengths_are : lengths ≡ map length p.words
  -- a pattern listed is no longer than what was read
  pub listed : (anchored : Anchored) (w : List ℕ) (s : S) → held anchored w s → Fits lengths (length w) (list s)
  -- the first pattern is the best: before the first byte, and after one more byte from the best before that byte
  pub at_start : (anchored : Anchored) (s : S) → held anchored [] s → BestAfter p anchored [] (told lengths anchored 0 0 (list s))
  pub after_byte : (anchored : Anchored) (w : List ℕ) (byte : ℕ) (s : S) (best : Option Occurrence) → held anchored (w ++ byte ∷ []) s → BestAfter p anchored w best
      → BestAfter p anchored (w ++ byte ∷ []) (better kind best (told lengths anchored 0 (length w + 1) (list s)))
  -- dead is final: it lists nothing, and whatever follows, the best stays
  pub dead_lists_none : (s : S) → dead s ≡ true → list s ≡ []
  pub dead_keeps : (anchored : Anchored) (w v : List ℕ) (s : S) (best : Option Occurrence) → held anchored w s → dead s ≡ true → BestAfter p anchored w best → BestAfter p anchored (w ++ v) best
  -- a leftmost kind is dead just where the word's own state is; until then a match's start is near
  pub dead_is : (w : List ℕ) (s : S) → kind ≢ Standard → held No w s → dead s ≡ is_none (held_after p No w)
  pub near : (w : List ℕ) (s : S) (m : Occurrence) → kind ≢ Standard → held No w s → dead s ≡ false → BestAfter p No w (Some m) → length w ≤ m.start + longest lengths
  -- an anchored search is dead once it has read more than the longest pattern
  pub anchored_near : (w : List ℕ) (s : S) → held Yes w s → dead s ≡ false → length w ≤ longest lengths
  -- Standard: match lists are the suffixes; anchored the same until the search has ended, where the word begins no pattern
  pub lists : (w : List ℕ) (s : S) → kind ≡ Standard → held No w s → list s ≡ patterns_ending p w
  pub anchored_lists : (w : List ℕ) (s : S) → kind ≡ Standard → held Yes w s → dead s ≡ false → list s ≡ patterns_ending p w
  pub anchored_dead : (byte : ℕ) (w : List ℕ) (s : S) → kind ≡ Standard → held Yes (byte ∷ w) s → dead s ≡ not (begins_some p (byte ∷ w))
  -- a start held again is a start, and what ends later starts there or later
  pub start_again : (w : List ℕ) (s : S) → held No w s → starts s ≡ true → held No [] s
  pub start_apart : (w v : List ℕ) (s : S) (m : Occurrence) → held No w s → starts s ≡ true → Occurs p No (w ++ v) 0 (length (w ++ v)) m → length w < m.end → length w ≤ m.start

-- whether a search answers its first match: Standard always, the others where the earliest is asked for
abbrev pub first_is_answer : MatchKind → Bool → Bool
first_is_answer Standard earliest = true
first_is_answer LeftmostFirst earliest = earliest
first_is_answer LeftmostLongest earliest = earliest

-- how far an unanchored search that answers m may have read
abbrev pub furthest : MatchKind → Bool → List ℕ → Occurrence → ℕ
furthest kind earliest lengths m = if first_is_answer kind earliest then m.end else m.start + longest lengths + 1
