-- What a state's list tells, and what becomes of the best by it.
use Rattle.std.proofs.Common.{◌≡◌, ℕ, ◌+◌, ◌-◌, ◌<◌, ◌≤◌, ◌⊎◌, inl, inr, Bool, true, false, cond, List, [], ◌∷◌, length, refl, sym, ◌∙◌, ap, arith}
use Rattle.std.specs.Prelude.{Option, Some, None, slice_get, slice_index, is_some, nat_eq}
use Rattle.std.proofs.lemmas.List.Elements.{All-head}
use Rattle.aho_core.specs.declared.search.Anchored.{Anchored}
use Rattle.aho_core.specs.declared.search.Anchored.TheVariants.{No, Yes}
use Rattle.aho_core.specs.declared.search.MatchKind.{MatchKind}
use Rattle.aho_core.specs.declared.search.MatchKind.TheVariants.{Standard, LeftmostFirst, LeftmostLongest}
use Rattle.aho_core.specs.Laws.{Fits, better, first_is_answer, told}
use Rattle.aho_core.specs.Occurrence.{Occurrence, occurrence}
use Rattle.aho_automaton.proofs.Places.{moved, moved_option}

pub is_none : (best : Option Occurrence) → false ≡ is_some best → best ≡ None
is_none None other = refl
is_none (Some m) other = cc

first_fits : (lengths : List ℕ) (n k : ℕ) (ks : List ℕ) → Fits lengths n (k ∷ ks) → (k < length lengths) × (slice_index lengths k ≤ n)
first_fits lengths n k ks fits = All-head (λ k. (k < length lengths) × (slice_index lengths k ≤ n)) k ks fits

-- the first pattern listed is one of the patterns, and no longer than what was read
pub first_listed : (lengths list : List ℕ) (n k : ℕ) → Fits lengths n list → slice_get list 0 ≡ Some k → (k < length lengths) × (slice_index lengths k ≤ n)
first_listed lengths [] n k fits first = cc
first_listed lengths (x ∷ xs) n k fits first = let e : x ≡ k = cc in rw (← e) (first_fits lengths n x xs fits)

same_occurrence : (number start end start' end' : ℕ) → start ≡ start' → end ≡ end' → occurrence start end number ≡ occurrence start' end' number
same_occurrence number start end start' end' starts ends = ap (λ (x : ℕ). occurrence x end number) starts ∙ ap (λ (x : ℕ). occurrence start' x number) ends

-- what is told under a test, moved
moved-tested : (test test' : Bool) (start : ℕ) (m n : Occurrence) → test ≡ test' → moved start m ≡ n → moved_option start (cond test (Some m) None) ≡ cond test' (Some n) None
moved-tested true test' start m n tests same = ap (λ (x : Bool). cond x (Some (moved start m)) None) tests ∙ ap (λ (x : Occurrence). cond test' (Some x) None) same
moved-tested false test' start m n tests same = ap (λ (x : Bool). cond x (Some n) None) tests

-- what a state tells of a part, at its place in the whole
pub moved-told : (lengths list : List ℕ) (anchored : Anchored) (start n at : ℕ) → at ≡ start + n → Fits lengths n list → moved_option start (told lengths anchored 0 n list) ≡ told lengths anchored start at list
moved-told lengths [] anchored start n at place fits = refl
moved-told lengths (k ∷ ks) No start n at place fits = ap Some (same_occurrence k _ _ _ _ (omega (arith, (first_fits lengths n k ks fits).1)) (sym place))
moved-told lengths (k ∷ ks) Yes start n at place fits =
    let count : n - 0 ≡ at - start = omega arith in
    moved-tested _ _ start _ _ (ap (nat_eq (slice_index lengths k)) count) (same_occurrence k _ _ _ _ (omega (arith, (first_fits lengths n k ks fits).1)) (sym place))

-- the better of two of a part, at its place in the whole
pub moved-better : (kind : MatchKind) (start : ℕ) (best now : Option Occurrence) → moved_option start (better kind best now) ≡ better kind (moved_option start best) (moved_option start now)
moved-better Standard start None now = refl
moved-better Standard start (Some m) now = refl
moved-better LeftmostFirst start best None = refl
moved-better LeftmostFirst start best (Some m) = refl
moved-better LeftmostLongest start best None = refl
moved-better LeftmostLongest start best (Some m) = refl

-- a state that tells nothing leaves the best
pub better-none : (kind : MatchKind) (best : Option Occurrence) → better kind best None ≡ best
better-none Standard None = refl
better-none Standard (Some m) = refl
better-none LeftmostFirst best = refl
better-none LeftmostLongest best = refl

-- the first match that a state tells is the best
pub better-first : (kind : MatchKind) (now : Option Occurrence) → better kind None now ≡ now
better-first Standard now = refl
better-first LeftmostFirst None = refl
better-first LeftmostFirst (Some m) = refl
better-first LeftmostLongest None = refl
better-first LeftmostLongest (Some m) = refl

-- a search that goes on takes each match told
pub better-last : (kind : MatchKind) (earliest : Bool) (best : Option Occurrence) (m : Occurrence) → first_is_answer kind earliest ≡ false → better kind best (Some m) ≡ Some m
better-last Standard earliest best m goes_on = cc
better-last LeftmostFirst earliest best m goes_on = refl
better-last LeftmostLongest earliest best m goes_on = refl

-- a search that stops at its first match is earliest or of the Standard kind
pub why_it_stops : (kind : MatchKind) (earliest : Bool) → first_is_answer kind earliest ≡ true → (earliest ≡ true) ⊎ (kind ≡ Standard)
why_it_stops Standard earliest stops = inr refl
why_it_stops LeftmostFirst earliest stops = inl stops
why_it_stops LeftmostLongest earliest stops = inl stops

-- and an earliest search stops there
pub earliest_stops : (kind : MatchKind) → first_is_answer kind true ≡ true
earliest_stops Standard = refl
earliest_stops LeftmostFirst = refl
earliest_stops LeftmostLongest = refl
