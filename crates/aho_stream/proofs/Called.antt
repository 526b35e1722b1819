-- What the calls of a run made of a closure: what holds after some calls, and after one more, holds at its end after all.
use Rattle.std.proofs.Common.{◌≡◌, inl, inr, ℕ, Bool, true, List, [], ◌∷◌, ◌++◌, drop, refl, sym, ap, subst, append_assoc, append-nil}
use Rattle.std.specs.Prelude.{Result, Ok, Err, MatchBool, OnOk, slice_range}
use Rattle.aho_core.specs.ClosureRun.{ClosureRun}
use Rattle.aho_core.specs.Occurrence.{Occurrence}

-- the closure was called on the first of some matches, and on all of them where the run came to its good end
pub record CalledOnFirst {F E : Type 0} (Holds : List Occurrence → F → Type 0) (done ms : List Occurrence) (result : Result (Unit {0}) E) (last : F) : Type 0 where
  pub called : List Occurrence
  pub rest : List Occurrence
  pub are : ms ≡ called ++ rest
  pub holds : Holds (done ++ called) last
  pub all : OnOk result (rest ≡ [])

module _ {F S E : Type 0} (copies : S → List ℕ → Result (Unit {0}) E → S → Type 0) (calls : F → Occurrence → List ℕ → S → Result Bool E → F → S → Type 0) (haystack : List ℕ)
    (Holds : List Occurrence → F → Type 0)
    (goes_on : (f : F) (m : Occurrence) (matched : List ℕ) (old : S) (goes : Bool) (next : F) (new : S) → calls f m matched old (Ok goes) next new → goes ≡ true)
    (steps : (done : List Occurrence) (f : F) (m : Occurrence) (matched : List ℕ) (old : S) (answer : Result Bool E) (next : F) (new : S)
    → Holds done f → calls f m matched old answer next new → Holds (done ++ (m ∷ [])) next) where
  pub run_calls : (ms done : List Occurrence) (at : ℕ) (f : F) (old : S) (result : Result (Unit {0}) E) (last : F) (new : S)
      → Holds done f → ClosureRun copies calls haystack at ms f old result last new → CalledOnFirst Holds done ms result last
  run_calls [] done at f old result last new holds run = record {
    called = [];
    rest = [];
    are = refl;
    holds = subst (Holds (done ++ [])) (sym run.0) (subst (λ (ns : List Occurrence). Holds ns f) (sym (append-nil done)) holds);
    all = on_ok result refl;
  }
    where
      on_ok : {P : Type 0} (r : Result (Unit {0}) E) → P → OnOk r P
      on_ok (Ok x) p = p
      on_ok (Err error) p = tt
  run_calls (m ∷ ms) done at f old result last new holds (inl (reason, refused, same, copied)) = record {
    called = [];
    rest = m ∷ ms;
    are = refl;
    holds = subst (Holds (done ++ [])) (sym same) (subst (λ (ns : List Occurrence). Holds ns f) (sym (append-nil done)) holds);
    all = subst (λ (r : Result (Unit {0}) E). OnOk r (m ∷ ms ≡ [])) (sym refused) tt;
  }
  run_calls (m ∷ ms) done at f old result last new holds (inr (lent, gap, (Err reason, next, left, called, (refused, same, kept)))) = record {
    called = m ∷ [];
    rest = ms;
    are = refl;
    holds = subst (Holds (done ++ (m ∷ []))) (sym same) (steps done f m (slice_range haystack m.start m.end) lent (Err reason) next left holds called);
    all = subst (λ (r : Result (Unit {0}) E). OnOk r (ms ≡ [])) (sym refused) tt;
  }
  run_calls (m ∷ ms) done at f old result last new holds (inr (lent, gap, (Ok goes, next, left, called, ends))) =
      let matched = slice_range haystack m.start m.end in
      let later : ClosureRun copies calls haystack m.end ms next left result last new =
      subst (λ (b : Bool). MatchBool b (ClosureRun copies calls haystack m.end ms next left result last new) ((last ≡ next) × copies left (drop m.end haystack) result new))
      (goes_on f m matched lent goes next left called) ends in
      let then = run_calls ms (done ++ (m ∷ [])) m.end next left result last new (steps done f m matched lent (Ok goes) next left holds called) later in
      record {
        called = m ∷ then.called;
        rest = then.rest;
        are = ap (λ (ns : List Occurrence). m ∷ ns) then.are;
        holds = subst (λ (ns : List Occurrence). Holds ns last) (append_assoc done (m ∷ []) then.called) then.holds;
        all = then.all;
      }
