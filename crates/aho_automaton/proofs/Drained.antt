-- What the iterator of an overlapping search gives, from one call to the next.
use Rattle.std.proofs.Common.{◌≡◌, ℕ, zero, suc, ◌+◌, ◌<◌, ◌≤◌, min, List, [], ◌∷◌, length, take, drop, refl, sym, ◌∙◌, ap, subst, arith}
use Rattle.std.specs.Prelude.{Option, Some, None, slice_get}
use Rattle.std.specs.Iterator.{Yields, YieldsThen}
use Rattle.std.specs.List.{All}
use Rattle.std.proofs.lemmas.List.Elements.{All-cons, All-nil}
use Rattle.std.proofs.lemmas.Option.{slice_get_past, slice_get_within}
use Rattle.aho_core.specs.declared.search.Anchored.{Anchored}
use Rattle.aho_core.specs.declared.search.MatchKind.{MatchKind}
use Rattle.aho_core.specs.declared.search.MatchKind.TheVariants.{Standard, LeftmostFirst, LeftmostLongest}
use Rattle.aho_core.specs.Occurrence.{Occurrence}
use Rattle.aho_core.specs.Overlapping.{overlapping}
use Rattle.aho_core.specs.Patterns.{Patterns}
use Rattle.aho_core.specs.Progress.{FitsBy, FitsSearch, Progress, fresh}
use Rattle.aho_core.specs.Search.{Search}
use Rattle.aho_automaton.specs.Fused.{CallsGive}
use Rattle.aho_automaton.specs.Overlaps.{GivesOverlapping}

drop-next : {X : Type 0} (xs : List X) (n : ℕ) (x : X) → slice_get xs n ≡ Some x → drop n xs ≡ x ∷ drop (n + 1) xs
drop-next [] n x is = cc
drop-next (y ∷ ys) zero x is = cc
drop-next (y ∷ ys) (suc n) x is = let more : suc n + 1 ≡ suc (n + 1) = omega arith in drop-next ys n x is ∙ sym (ap (λ (k : ℕ). x ∷ drop k (y ∷ ys)) more)

drop-past : {X : Type 0} (xs : List X) (n : ℕ) → None ≡ slice_get xs n → (drop n xs ≡ []) × (length xs ≤ n)
drop-past [] zero is = (refl, omega arith)
drop-past [] (suc n) is = (refl, omega arith)
drop-past (y ∷ ys) zero is = cc
drop-past (y ∷ ys) (suc n) is = let rest = drop-past ys n is in (rest.0, omega (arith, rest.1))

-- an iterator that fits a list with n given: a call gives the one numbered n, and then it fits with one more
module _ {S : Type 0} (steps : S → Option Occurrence → S → Type 0) (Fit : S → ℕ → Type 0) (all : List Occurrence)
    (step : (s t : S) (given : Option Occurrence) (n : ℕ) → steps s given t → Fit s n → (given ≡ slice_get all n) × Fit t (min (n + 1) (length all))) where
  -- what calls up to the first none give is the rest of the list
  pub drained : (ms : List Occurrence) (s u : S) (n : ℕ) → n ≤ length all → Fit s n → YieldsThen steps s ms None u → (ms ≡ drop n all) × Fit u (length all)
  drained [] s u n within fits calls =
      let last = step s u None n (subst (λ (x : S). steps x None u) (sym calls.1) calls.2) fits in
      let past = drop-past all n last.0 in
      let still : min (n + 1) (length all) ≡ length all = omega (arith, past.1) in
      (sym past.0, subst (Fit u) still last.1)
  drained (m ∷ ms) s u n within fits calls =
      let next = step s calls.1.0 (Some m) n calls.1.1 fits in
      let below : n < length all = slice_get_within all n m (sym next.0) in
      let more : min (n + 1) (length all) ≡ n + 1 = omega arith in
      let rest = drained ms calls.1.0 u (n + 1) (omega arith) (subst (Fit calls.1.0) more next.1) (calls.0, calls.1.2, calls.2) in
      (ap (λ (xs : List Occurrence). m ∷ xs) rest.0 ∙ sym (drop-next all n m (sym next.0)), rest.1)

  -- what calls up to any place give is a beginning of the rest
  pub given_first : (ms : List Occurrence) (s t : S) (n : ℕ) → n ≤ length all → Fit s n → Yields steps s ms t → ms ≡ take (length ms) (drop n all)
  given_first [] s t n within fits calls = refl
  given_first (m ∷ ms) s t n within fits calls =
      let next = step s calls.0 (Some m) n calls.1 fits in
      let below : n < length all = slice_get_within all n m (sym next.0) in
      let more : min (n + 1) (length all) ≡ n + 1 = omega arith in
      let rest = given_first ms calls.0 t (n + 1) (omega arith) (subst (Fit calls.0) more next.1) calls.2 in
      ap (λ (xs : List Occurrence). m ∷ xs) rest ∙ sym (ap (take (suc (length ms))) (drop-next all n m (sym next.0)))

  -- and then each call gives none
  pub rests : (given : List (Option Occurrence)) (s t : S) → Fit s (length all) → CallsGive steps s given t → All (λ (o : Option Occurrence). o ≡ None) given
  rests [] s t fits calls = All-nil (λ (o : Option Occurrence). o ≡ None)
  rests (o ∷ given) s t fits calls =
      let next = step s calls.0 o (length all) calls.1 fits in
      let still : min (length all + 1) (length all) ≡ length all = omega arith in
      All-cons (λ (x : Option Occurrence). x ≡ None) o given (next.0 ∙ slice_get_past all (length all) (omega arith)) (rests given calls.0 t (subst (Fit calls.0) still next.1) calls.2)

module _ {A : Type 0} (is_of : A → Patterns → Type 0) (valid : A → ℕ → Type 0) (held : A → Patterns → Anchored → List ℕ → ℕ → Type 0) (automaton : A) (p : Patterns) (search : Search) where
  -- the iterator is over this automaton and this search, which its state fits
  pub record FitsOver (a : A) (s : Search) (progress : Progress) (n : ℕ) : Type 0 where
    pub same_automaton : a ≡ automaton
    pub same_search : s ≡ search
    pub fits : FitsSearch (valid automaton) (held automaton p) p search progress n

  pub fresh_over : (a : A) (s : Search) (progress : Progress) → a ≡ automaton → s ≡ search → progress ≡ fresh → FitsOver a s progress 0
  fresh_over a s progress same_automaton same_search is_fresh = record {
    same_automaton = same_automaton;
    same_search = same_search;
    fits = subst (λ (x : Progress). FitsSearch (valid automaton) (held automaton p) p search x 0) (sym is_fresh) (by_kind p.kind);
  }
    where
      by_kind : (kind : MatchKind) → FitsBy kind (valid automaton) (held automaton p) p search fresh 0
      by_kind Standard = refl
      by_kind LeftmostFirst = refl
      by_kind LeftmostLongest = refl

  pub step_over : is_of automaton p → (a a' : A) (s s' : Search) (progress progress' : Progress) (given : Option Occurrence) (n : ℕ) → GivesOverlapping is_of valid held a s progress given a' s' progress' → FitsOver a s progress n
      → (given ≡ slice_get (overlapping p search) n) × FitsOver a' s' progress' (min (n + 1) (length (overlapping p search)))
  step_over of a a' s s' progress progress' given n gives fits =
      let here : GivesOverlapping is_of valid held automaton search progress given a' s' progress' =
      subst (λ (x : Search). GivesOverlapping is_of valid held automaton x progress given a' s' progress') fits.same_search
      (subst (λ (x : A). GivesOverlapping is_of valid held x s progress given a' s' progress') fits.same_automaton gives) in
      (here.given_is p n of fits.fits, record { same_automaton = here.same_automaton; same_search = here.same_search; fits = here.fits p n of fits.fits })
