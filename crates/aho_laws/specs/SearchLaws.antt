-- What the laws say of ranges, and of words that begin a pattern.
use Rattle.std.specs.Prelude.{◌≡◌, ℕ, ◌<◌, ◌≤◌, Bool, List, ◌++◌, Result, Ok, length}
use Rattle.std.specs.Borrow.{Bor, MutBor}
use Rattle.std.specs.Fn.{Mut}
use Rattle.std.specs.declared.alloc.AllocError.{AllocError}
use Rattle.aho_core.specs.Bytes.{folded_word}
use Rattle.aho_core.specs.ClosureRun.{CalledOn, RunsInMemory}
use Rattle.aho_core.specs.declared.search.MatchKind.{MatchKind}
use Rattle.aho_core.specs.Listing.{IsListedBy, IsMember}
use Rattle.aho_core.specs.Occurrence.{Occurrence}
use Rattle.aho_core.specs.Order.{IsBefore}
use Rattle.aho_core.specs.Patterns.{Patterns, pattern_at}

-- the first range ends before the second starts, or where it does
abbrev pub EndsBefore : Occurrence → Occurrence → Type 0
EndsBefore m n = m.end ≤ n.start

-- disjoint ranges, in order
pub record AreRanges (ms : List Occurrence) : Type 0 where
  pub apart : IsListedBy EndsBefore ms
  pub ordered : (m : Occurrence) → IsMember ms m → m.start ≤ m.end

-- no member is before it
abbrev pub NoneIsBefore : MatchKind → (Occurrence → Type 0) → Occurrence → Type 0
NoneIsBefore kind Member m = (other : Occurrence) → Member other → IsBefore kind other m → ⊥

-- the ranges are disjoint, and the second ends later
abbrev pub IsFollowedBy : Occurrence → Occurrence → Type 0
IsFollowedBy m n = EndsBefore m n × (m.end < n.end)

-- as bytes are compared, the word with some rest is a pattern
abbrev pub IsFrontOfPattern : Patterns → List ℕ → Type 0
IsFrontOfPattern p word = (number : ℕ) × (number < length p.words) × ((rest : List ℕ) × (folded_word p word ++ rest ≡ folded_word p (pattern_at p number)))

-- each call of the closure that answers appends the bytes that matched
abbrev pub AppendsMatched : {F S : Type 0} → Mut F (Bor Occurrence × (Bor (List ℕ) × (MutBor S × Unit {0}))) (Result Bool AllocError × (MutBor S × Unit {0})) → (S → List ℕ) → Type 0
AppendsMatched {F} {S} calls bytes_of =
    (closure : F) (m : Occurrence) (matched : List ℕ) (old : S) (goes_on : Bool) (next : F) (new : S)
    → CalledOn calls closure m matched old (Ok goes_on) next new → bytes_of new ≡ bytes_of old ++ matched

-- each whole run of the closure over these matches appends the haystack
abbrev pub AppendsHaystack : {F S : Type 0} → Mut F (Bor Occurrence × (Bor (List ℕ) × (MutBor S × Unit {0}))) (Result Bool AllocError × (MutBor S × Unit {0})) → (S → List ℕ) → List ℕ → List Occurrence → Type 0
AppendsHaystack {F} {S} calls bytes_of haystack ms =
    (closure : F) (old new : S) → RunsInMemory calls bytes_of haystack ms closure old (Ok tt) new → bytes_of new ≡ bytes_of old ++ haystack
