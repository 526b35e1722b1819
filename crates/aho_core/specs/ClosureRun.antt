-- A run of a replacement closure: what becomes of the closure and of the destination, from one call to the next.
use Rattle.std.specs.Prelude.{◌≡◌, ◌⊎◌, ℕ, Bool, List, [], ◌∷◌, ◌++◌, Result, Ok, Err, MatchBool, MatchResult, drop, if◌then◌else◌, is_ok, slice_range}
use Rattle.std.specs.Borrow.{Bor, MutBor}
use Rattle.std.specs.Fn.{Called, Mut}
use Rattle.std.specs.declared.alloc.AllocError.{AllocError}
use Rattle.aho_core.specs.Occurrence.{Occurrence}

-- F are the closure's states, S the destinations, E the reasons for which a copy or a call is refused
module _ {F S E : Type 0}
    -- copying these bytes to a destination may end so, and leave this destination
    (copies : S → List ℕ → Result (Unit {0}) E → S → Type 0)
    -- calling the closure on a match, its bytes and a destination may answer so, and leave this closure and destination
    (calls : F → Occurrence → List ℕ → S → Result Bool E → F → S → Type 0)
    (haystack : List ℕ) where
  -- from a place of the haystack on: the bytes up to the next match are copied, the closure is called on that match, and where
  -- it answers true the run goes on at the match's end. After the last match, or the first false, the rest is copied. A refusal
  -- ends the run where it stands.
  abbrev pub ClosureRun : ℕ → List Occurrence → F → S → Result (Unit {0}) E → F → S → Type 0
  ClosureRun at [] closure old result last new = (last ≡ closure) × copies old (drop at haystack) result new
  ClosureRun at (m ∷ ms) closure old result last new =
      ((reason : E) × (result ≡ Err reason) × (last ≡ closure) × copies old (slice_range haystack at m.start) result new)
      ⊎ ((lent : S) × copies old (slice_range haystack at m.start) (Ok tt) lent
      × ((answer : Result Bool E) × (next : F) × (left : S) × calls closure m (slice_range haystack m.start m.end) lent answer next left
      × MatchResult answer
      (λ goes_on. MatchBool goes_on
      (ClosureRun m.end ms next left result last new)
      ((last ≡ next) × copies left (drop m.end haystack) result new))
      (λ reason. (result ≡ Err reason) × (last ≡ next) × (new ≡ left))))

-- in memory a copy is whole, or it is refused and nothing is copied
abbrev pub CopiesWhole : {S E : Type 0} → (S → List ℕ) → S → List ℕ → Result (Unit {0}) E → S → Type 0
CopiesWhole bytes_of old bytes result new = bytes_of new ≡ (if is_ok result then bytes_of old ++ bytes else bytes_of old)

-- a call of a closure on a match, its bytes and a destination may answer so, and leave this closure and destination
pub record CalledOn {F S R : Type 0} (calls : Mut F (Bor Occurrence × (Bor (List ℕ) × (MutBor S × Unit {0}))) (R × (MutBor S × Unit {0})))
    (closure : F) (m : Occurrence) (piece : List ℕ) (old : S) (answer : R) (next : F) (new : S) : Type 0 where
  pub found : Bor Occurrence
  pub bytes : Bor (List ℕ)
  pub lent : MutBor S
  pub left : MutBor S
  pub shows : (found.now ≡ m) × (bytes.now ≡ piece) × (lent.now ≡ old) × (left.now ≡ new)
  pub called : Called calls closure (found, (bytes, (lent, tt))) (answer, (left, tt)) next

-- a replacement in memory of these matches, with this closure and to this destination, may end so
abbrev pub RunsInMemory : {F S : Type 0} → Mut F (Bor Occurrence × (Bor (List ℕ) × (MutBor S × Unit {0}))) (Result Bool AllocError × (MutBor S × Unit {0}))
    → (S → List ℕ) → List ℕ → List Occurrence → F → S → Result (Unit {0}) AllocError → S → Type 0
RunsInMemory {F} calls bytes_of haystack ms closure old result new =
    (last : F) × ClosureRun (CopiesWhole bytes_of) (CalledOn calls) haystack 0 ms closure old result last new
