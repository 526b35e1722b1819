-- What a run of a replacement closure appends, by what each of its calls appends.
use Rattle.std.proofs.Common.{◌≡◌, inl, inr, ℕ, ◌≤◌, Bool, true, false, List, [], ◌∷◌, ◌++◌, Result, Ok, Err, drop, refl, sym, ◌∙◌, ap, subst}
use Rattle.std.specs.Prelude.{MatchBool, slice_range}
use Rattle.std.proofs.lemmas.List.{append_assoc}
use Rattle.std.proofs.lemmas.List.Folds.{drop_split}
use Rattle.aho_core.specs.ClosureRun.{ClosureRun, CopiesWhole}
use Rattle.aho_core.specs.Listing.{IsListedBy, IsMember}
use Rattle.aho_core.specs.Occurrence.{Occurrence}
use Rattle.aho_core.specs.Replacement.{replaced_from}
use Rattle.aho_laws.specs.SearchLaws.{EndsBefore}

module _ {F S E : Type 0} (bytes_of : S → List ℕ) (calls : F → Occurrence → List ℕ → S → Result Bool E → F → S → Type 0) (haystack : List ℕ) where
  abbrev Ends : ℕ → List Occurrence → F → S → F → S → Type 0
  Ends at ms f d last new = ClosureRun (CopiesWhole {E = E} bytes_of) calls haystack at ms f d (Ok tt) last new

  -- a closure that always goes on, stays as it is and appends a match's piece
  module _ (piece : Occurrence → List ℕ) (f : F)
      (steps : (m : Occurrence) (matched : List ℕ) (d : S) (goes_on : Bool) (next : F) (left : S) → calls f m matched d (Ok goes_on) next left
      → (goes_on ≡ true) × (bytes_of left ≡ bytes_of d ++ piece m) × (next ≡ f)) where
    pub ClosureRun-pieces : (ms : List Occurrence) (at : ℕ) (d : S) (last : F) (new : S) → Ends at ms f d last new → bytes_of new ≡ bytes_of d ++ replaced_from haystack at ms piece
    ClosureRun-pieces [] at d last new run = run.1
    ClosureRun-pieces (m ∷ ms) at d last new (inl refused) = let clash = refused.1 in cc
    ClosureRun-pieces (m ∷ ms) at d last new (inr (lent, gap, (Err reason, next, left, called, ends))) = let clash = ends.0 in cc
    ClosureRun-pieces (m ∷ ms) at d last new (inr (lent, gap, (Ok goes_on, next, left, called, ends))) =
        let step = steps m (slice_range haystack m.start m.end) lent goes_on next left called in
        let later : Ends m.end ms next left last new = subst (λ (b : Bool). MatchBool b (Ends m.end ms next left last new) ((last ≡ next) × CopiesWhole {E = E} bytes_of left (drop m.end haystack) (Ok tt) new)) step.0 ends in
        let rest : bytes_of new ≡ bytes_of left ++ replaced_from haystack m.end ms piece = ClosureRun-pieces ms m.end left last new (subst (λ (x : F). Ends m.end ms x left last new) step.2 later) in
        rest ∙ ap (λ (bytes : List ℕ). bytes ++ replaced_from haystack m.end ms piece) (step.1 ∙ ap (λ (bytes : List ℕ). bytes ++ piece m) gap)
        ∙ append_assoc (bytes_of d ++ slice_range haystack at m.start) (piece m) (replaced_from haystack m.end ms piece)
        ∙ append_assoc (bytes_of d) (slice_range haystack at m.start) (piece m ++ replaced_from haystack m.end ms piece)

  -- a closure that appends the bytes that matched, whatever it answers
  module _ (steps : (f : F) (m : Occurrence) (matched : List ℕ) (d : S) (goes_on : Bool) (next : F) (left : S) → calls f m matched d (Ok goes_on) next left
      → bytes_of left ≡ bytes_of d ++ matched) where
    after_call : (goes_on : Bool) (m : Occurrence) (ms : List Occurrence) (next : F) (left : S) (last : F) (new : S)
        → ((f : F) (d : S) → Ends m.end ms f d last new → bytes_of new ≡ bytes_of d ++ drop m.end haystack)
        → MatchBool goes_on (Ends m.end ms next left last new) ((last ≡ next) × CopiesWhole {E = E} bytes_of left (drop m.end haystack) (Ok tt) new)
        → bytes_of new ≡ bytes_of left ++ drop m.end haystack
    after_call true m ms next left last new later ends = later next left ends
    after_call false m ms next left last new later ends = ends.1

    pub ClosureRun-own : (ms : List Occurrence) (at : ℕ) (f : F) (d : S) (last : F) (new : S)
        → IsListedBy EndsBefore ms → ((m : Occurrence) → IsMember ms m → at ≤ m.start) → ((m : Occurrence) → IsMember ms m → m.start ≤ m.end)
        → Ends at ms f d last new → bytes_of new ≡ bytes_of d ++ drop at haystack
    ClosureRun-own [] at f d last new listed after ordered run = run.1
    ClosureRun-own (m ∷ ms) at f d last new listed after ordered (inl refused) = let clash = refused.1 in cc
    ClosureRun-own (m ∷ ms) at f d last new listed after ordered (inr (lent, gap, (Err reason, next, left, called, ends))) = let clash = ends.0 in cc
    ClosureRun-own (m ∷ ms) at f d last new listed after ordered (inr (lent, gap, (Ok goes_on, next, left, called, ends))) =
        let matched = slice_range haystack m.start m.end in
        let rest : bytes_of new ≡ bytes_of left ++ drop m.end haystack =
        after_call goes_on m ms next left last new (λ g e. ClosureRun-own ms m.end g e last new listed.1 listed.0 (λ n later. ordered n (inr later))) ends in
        rest ∙ ap (λ (bytes : List ℕ). bytes ++ drop m.end haystack) (steps f m matched lent goes_on next left called ∙ ap (λ (bytes : List ℕ). bytes ++ matched) gap)
        ∙ append_assoc (bytes_of d ++ slice_range haystack at m.start) matched (drop m.end haystack)
        ∙ ap (λ (bytes : List ℕ). (bytes_of d ++ slice_range haystack at m.start) ++ bytes) (sym (drop_split haystack m.start m.end (ordered m (inl refl))))
        ∙ append_assoc (bytes_of d) (slice_range haystack at m.start) (drop m.start haystack)
        ∙ ap (λ (bytes : List ℕ). bytes_of d ++ bytes) (sym (drop_split haystack at m.start (after m (inl refl))))
