-- A run of a replacement closure, from one match that an iteration finds to the next.
use Rattle.std.proofs.Common.{◌≡◌, ℕ, ◌≤◌, Bool, true, false, List, [], ◌∷◌, length, Option, Some, None, Result, Ok, Err, inl, inr, refl, sym, ap, subst, ◌∙◌, drop, take, ◌-◌, cond}
use Rattle.std.specs.Prelude.{IsErr, alloc_error, slice_range}
use Rattle.std.specs.declared.alloc.AllocError.{AllocError}
use Rattle.std.proofs.lemmas.List.{take_rest}
use Rattle.aho_core.specs.ClosureRun.{ClosureRun, CopiesWhole}
use Rattle.aho_core.specs.Iteration.{AreFinds, IsNextFind}
use Rattle.aho_core.specs.Occurrence.{Occurrence}
use Rattle.aho_core.specs.Patterns.{Patterns}
use Rattle.aho_core.specs.Replacement.{is_on_boundaries, on_boundaries}
use Rattle.aho_core.specs.Search.{Search, plain_search}
use Rattle.aho_automaton.proofs.NextFinds.{finds-next, finds-none}

-- an error of memory is the one error of its type
pub refused : (result : Result (Unit {0}) AllocError) → IsErr result → result ≡ Err alloc_error
refused (Ok done) is_err = cc
refused (Err reason) is_err = refl

-- the rest of a haystack is copied
pub rest_copied : {S : Type 0} (bytes_of : S → List ℕ) (old new : S) (haystack : List ℕ) (at : ℕ) (result : Result (Unit {0}) AllocError)
    → CopiesWhole bytes_of old (take (length haystack - at) (drop at haystack)) result new → CopiesWhole bytes_of old (drop at haystack) result new
rest_copied bytes_of old new haystack at result copied = subst (λ (bytes : List ℕ). CopiesWhole bytes_of old bytes result new) (take_rest haystack at) copied

module _ {F S E : Type 0} (copies : S → List ℕ → Result (Unit {0}) E → S → Type 0) (calls : F → Occurrence → List ℕ → S → Result Bool E → F → S → Type 0)
    (haystack : List ℕ) (is_of : Patterns → Type 0) (keep : List Occurrence → List Occurrence) (first : F) (begun : S) where
  -- the run over the kept finds of the haystack
  abbrev pub Runs : Result (Unit {0}) E → S → Type 0
  Runs result new =
      (p : Patterns) (ms : List Occurrence) → is_of p → AreFinds p (plain_search haystack) None ms
      → (last : F) × ClosureRun copies calls haystack 0 (keep ms) first begun result last new

  -- what is left of it: a run over the kept finds of what is still to be searched is the rest of that run
  abbrev pub IsLeft : Search → Option ℕ → ℕ → F → S → Type 0
  IsLeft search ended at closure dst =
      (p : Patterns) (ms : List Occurrence) → is_of p → AreFinds p (plain_search haystack) None ms
      → (rest : List Occurrence) × AreFinds p search ended rest
      × ((result : Result (Unit {0}) E) (last : F) (new : S) → ClosureRun copies calls haystack at (keep rest) closure dst result last new
      → ClosureRun copies calls haystack 0 (keep ms) first begun result last new)

  pub IsLeft-begin : IsLeft (plain_search haystack) None 0 first begun
  IsLeft-begin p ms of finds = (ms, finds, λ result last new run. run)

  module _ (search : Search) (ended : Option ℕ) (at : ℕ) (closure : F) (dst : S) (left : IsLeft search ended at closure dst) where
    -- no more is found, and the rest is copied
    pub Runs-end : ((p : Patterns) → is_of p → IsNextFind p search ended None) → keep [] ≡ [] → (result : Result (Unit {0}) E) (new : S)
        → copies dst (drop at haystack) result new → Runs result new
    Runs-end none empty result new copied p ms of finds =
        let (rest, searched, whole) = left p ms of finds in
        let ended : keep rest ≡ [] = ap keep (finds-none p search ended rest searched (none p of)) ∙ empty in
        let run : ClosureRun copies calls haystack at [] closure dst result closure new = (refl, copied) in
        (closure, whole result closure new (subst (λ l. ClosureRun copies calls haystack at l closure dst result closure new) (sym ended) run))

    module _ (m : Occurrence) (within : search.end ≤ length search.haystack) (found : (p : Patterns) → is_of p → IsNextFind p search ended (Some m)) where
      -- a match is skipped
      pub IsLeft-skip : ((ms : List Occurrence) → keep (m ∷ ms) ≡ keep ms) → IsLeft (record search { start = m.end }) (Some m.end) at closure dst
      IsLeft-skip skipped p ms of finds =
          let (rest, searched, whole) = left p ms of finds in
          let (later, split, after) = finds-next p search ended m rest within searched (found p of) in
          let same : keep rest ≡ keep later = ap keep split ∙ skipped later in
          (later, after, λ result last new run. whole result last new (subst (λ l. ClosureRun copies calls haystack at l closure dst result last new) (sym same) run))

      module _ (kept : (ms : List Occurrence) → keep (m ∷ ms) ≡ m ∷ keep ms) where
        -- the bytes before it are refused
        pub Runs-refused_copy : (reason : E) (new : S) → copies dst (slice_range haystack at m.start) (Err reason) new → Runs (Err reason) new
        Runs-refused_copy reason new copied p ms of finds =
            let (rest, searched, whole) = left p ms of finds in
            let (later, split, after) = finds-next p search ended m rest within searched (found p of) in
            let same : keep rest ≡ m ∷ keep later = ap keep split ∙ kept later in
            let run : ClosureRun copies calls haystack at (m ∷ keep later) closure dst (Err reason) closure new = inl (reason, refl, refl, copied) in
            (closure, whole (Err reason) closure new (subst (λ l. ClosureRun copies calls haystack at l closure dst (Err reason) closure new) (sym same) run))

        module _ (lent : S) (gap : copies dst (slice_range haystack at m.start) (Ok tt) lent) (next : F) (after_call : S) where
          -- the closure said to go on
          pub IsLeft-true : calls closure m (slice_range haystack m.start m.end) lent (Ok true) next after_call
              → IsLeft (record search { start = m.end }) (Some m.end) m.end next after_call
          IsLeft-true called p ms of finds =
              let (rest, searched, whole) = left p ms of finds in
              let (later, split, after) = finds-next p search ended m rest within searched (found p of) in
              let same : keep rest ≡ m ∷ keep later = ap keep split ∙ kept later in (
                later,
                after,
                λ result last new run. whole result last new
                    (subst (λ l. ClosureRun copies calls haystack at l closure dst result last new) (sym same) (inr (lent, gap, (Ok true, next, after_call, called, run)))),
              )

          -- the closure said to stop, and the rest is copied
          pub Runs-false : calls closure m (slice_range haystack m.start m.end) lent (Ok false) next after_call
              → (result : Result (Unit {0}) E) (new : S) → copies after_call (drop m.end haystack) result new → Runs result new
          Runs-false called result new copied p ms of finds =
              let (rest, searched, whole) = left p ms of finds in
              let (later, split, after) = finds-next p search ended m rest within searched (found p of) in
              let same : keep rest ≡ m ∷ keep later = ap keep split ∙ kept later in (
                next,
                whole result next new
                    (subst (λ l. ClosureRun copies calls haystack at l closure dst result next new) (sym same) (inr (lent, gap, (Ok false, next, after_call, called, (refl, copied))))),
              )

          -- the closure was refused
          pub Runs-refused_call : (reason : E) → calls closure m (slice_range haystack m.start m.end) lent (Err reason) next after_call → Runs (Err reason) after_call
          Runs-refused_call reason called p ms of finds =
              let (rest, searched, whole) = left p ms of finds in
              let (later, split, after) = finds-next p search ended m rest within searched (found p of) in
              let same : keep rest ≡ m ∷ keep later = ap keep split ∙ kept later in (
                next,
                whole (Err reason) next after_call
                    (subst (λ l. ClosureRun copies calls haystack at l closure dst (Err reason) next after_call) (sym same) (inr (lent, gap, (Err reason, next, after_call, called, (refl, refl, refl))))),
              )

-- which matches of a text are kept
pub on_boundaries-kept : (text : List ℕ) (m : Occurrence) → is_on_boundaries text m ≡ true → (ms : List Occurrence) → on_boundaries text (m ∷ ms) ≡ m ∷ on_boundaries text ms
on_boundaries-kept text m on ms = ap (λ (b : Bool). cond b (m ∷ on_boundaries text ms) (on_boundaries text ms)) on

pub on_boundaries-skipped : (text : List ℕ) (m : Occurrence) → is_on_boundaries text m ≡ false → (ms : List Occurrence) → on_boundaries text (m ∷ ms) ≡ on_boundaries text ms
on_boundaries-skipped text m off ms = ap (λ (b : Bool). cond b (m ∷ on_boundaries text ms) (on_boundaries text ms)) off
