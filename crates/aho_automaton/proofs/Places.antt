-- Occurrences in a part of a haystack, and at their place in the whole.
use Rattle.std.proofs.Common.{◌≡◌, ℕ, ◌+◌, ◌-◌, ◌<◌, ◌≤◌, inl, inr, List, [], ◌∷◌, ◌++◌, length, take, drop, get_or, refl, sym, ◌∙◌, ap, subst, arith, length-drop}
use Rattle.std.specs.Prelude.{Option, Some, None, slice_range}
use Rattle.std.proofs.lemmas.List.{take-take, drop-drop, drop-take, length-take, take_more, get_or-drop}
use Rattle.std.proofs.Math.Seq.{take-add}
use Rattle.aho_core.specs.declared.search.Anchored.{Anchored}
use Rattle.aho_core.specs.declared.search.MatchKind.{MatchKind}
use Rattle.aho_core.specs.declared.search.MatchKind.TheVariants.{Standard, LeftmostFirst, LeftmostLongest}
use Rattle.aho_core.specs.Best.{IsBestOrNone}
use Rattle.aho_core.specs.Bytes.{IsSameWord}
use Rattle.aho_core.specs.Laws.{BestAfter}
use Rattle.aho_core.specs.Occurrence.{Occurrence}
use Rattle.aho_core.specs.Occurs.{Occurs}
use Rattle.aho_core.specs.Order.{IsBefore}
use Rattle.aho_core.specs.Patterns.{Patterns, pattern_at}

-- a part of a part
pub part_of_part : (haystack : List ℕ) (start end x y x' y' : ℕ) → x' ≡ start + x → y' ≡ start + y → x ≤ y → y' ≤ end → slice_range (slice_range haystack start end) x y ≡ slice_range haystack x' y'
part_of_part haystack start end x y x' y' at_x at_y le within =
    let split : end - start ≡ x + ((end - start) - x) = omega arith in
    let count : y - x ≡ y' - x' = omega arith in
    ap (λ (n : ℕ). take (y - x) (drop x (take n (drop start haystack)))) split
    ∙ ap (take (y - x)) (drop-take x ((end - start) - x) (drop start haystack))
    ∙ take-take (y - x) ((end - start) - x) (drop x (drop start haystack)) (omega arith)
    ∙ ap (take (y - x)) (drop-drop x start haystack)
    ∙ ap (λ (n : ℕ). take n (drop (start + x) haystack)) count
    ∙ ap (λ (n : ℕ). take (y' - x') (drop n haystack)) (sym at_x)

-- how long a part is
pub length_part : (haystack : List ℕ) (start end : ℕ) → end ≤ length haystack → length (slice_range haystack start end) ≡ end - start
length_part haystack start end within = simp (length-take, length-drop) (omega arith)

-- one byte more of a part
pub part_more : (haystack : List ℕ) (start at : ℕ) → start ≤ at → at < length haystack → slice_range haystack start (at + 1) ≡ slice_range haystack start at ++ get_or haystack at 0 ∷ []
part_more haystack start at le lt =
    let count : (at + 1) - start ≡ (at - start) + 1 = omega arith in
    let place : start + (at - start) ≡ at = omega arith in
    let inside : at - start < length (drop start haystack) = simp length-drop (omega arith) in
    ap (λ (n : ℕ). take n (drop start haystack)) count
    ∙ take_more (drop start haystack) (at - start) 0 inside
    ∙ ap (λ (x : ℕ). take (at - start) (drop start haystack) ++ x ∷ []) (get_or-drop start haystack (at - start) 0 ∙ ap (λ (n : ℕ). get_or haystack n 0) place)

-- a part and the part after it
pub part_join : (haystack : List ℕ) (start at end : ℕ) → start ≤ at → at ≤ end → slice_range haystack start end ≡ slice_range haystack start at ++ slice_range haystack at end
part_join haystack start at end le lt =
    let count : end - start ≡ (at - start) + (end - at) = omega arith in
    let place : start + (at - start) ≡ at = omega arith in
    ap (λ (n : ℕ). take n (drop start haystack)) count
    ∙ take-add (at - start) (end - at) (drop start haystack)
    ∙ ap (λ (rest : List ℕ). take (at - start) (drop start haystack) ++ take (end - at) rest) (drop-drop (at - start) start haystack ∙ ap (λ (n : ℕ). drop n haystack) place)

-- a part of no bytes
pub no_part : (haystack : List ℕ) (at : ℕ) → slice_range haystack at at ≡ []
no_part haystack at = let none : at - at ≡ 0 = omega arith in ap (λ (n : ℕ). take n (drop at haystack)) none

-- an occurrence of a part, at its place in the whole
abbrev pub moved : ℕ → Occurrence → Occurrence
moved start m = record { pattern = m.pattern; start = start + m.start; end = start + m.end }

abbrev pub moved_option : ℕ → Option Occurrence → Option Occurrence
moved_option start None = None
moved_option start (Some m) = Some (moved start m)

-- an occurrence of the whole, seen in the part
abbrev pub moved_back : ℕ → Occurrence → Occurrence
moved_back start m = record { pattern = m.pattern; start = m.start - start; end = m.end - start }

-- and moved to the whole again
moved-moved_back : (start : ℕ) (m : Occurrence) → start ≤ m.start → start ≤ m.end → moved start (moved_back start m) ≡ m
moved-moved_back start m starts ends =
    ap (λ (x : ℕ). record { pattern = m.pattern; start = x; end = start + (m.end - start) }) (omega arith)
    ∙ ap (λ (x : ℕ). record { pattern = m.pattern; start = m.start; end = x }) (omega arith)

-- the order is the same at the place in the whole
moved_before : (kind : MatchKind) (start : ℕ) (m n : Occurrence) → IsBefore kind m n → IsBefore kind (moved start m) (moved start n)
moved_before Standard start m n (inl ends) = inl (omega arith)
moved_before Standard start m n (inr (same, inl starts)) = inr (omega arith, inl (omega arith))
moved_before Standard start m n (inr (same, inr (also, number))) = inr (omega arith, inr (omega arith, number))
moved_before LeftmostFirst start m n (inl starts) = inl (omega arith)
moved_before LeftmostFirst start m n (inr (same, number)) = inr (omega arith, number)
moved_before LeftmostLongest start m n (inl starts) = inl (omega arith)
moved_before LeftmostLongest start m n (inr (same, inl longer)) = inr (omega arith, inl (omega arith))
moved_before LeftmostLongest start m n (inr (same, inr (also, number))) = inr (omega arith, inr (omega arith, number))

module _ (p : Patterns) (anchored : Anchored) (haystack : List ℕ) where
  -- an occurrence up to a place is one up to a later place
  pub widened : (start front end : ℕ) (m : Occurrence) → front ≤ end → Occurs p anchored haystack start front m → Occurs p anchored haystack start end m
  widened start front end m le o = record { numbered = o.numbered; after_start = o.after_start; before_end = omega (arith, o.before_end); sized = o.sized; same = o.same; admitted = o.admitted }

  -- an occurrence that ends by a place is one up to there
  pub narrowed : (start front end : ℕ) (m : Occurrence) → m.end ≤ front → Occurs p anchored haystack start end m → Occurs p anchored haystack start front m
  narrowed start front end m le o = record { numbered = o.numbered; after_start = o.after_start; before_end = le; sized = o.sized; same = o.same; admitted = o.admitted }

  -- an occurrence in a part is one in the whole
  from_part : (start end : ℕ) (m : Occurrence) → start ≤ end → Occurs p anchored (slice_range haystack start end) 0 (end - start) m → Occurs p anchored haystack start end (moved start m)
  from_part start end m le o = record {
    numbered = o.numbered;
    after_start = omega arith;
    before_end = omega (arith, o.before_end);
    sized = omega (arith, o.sized);
    same = subst (λ (bytes : List ℕ). IsSameWord p (pattern_at p m.pattern) bytes) (part_of_part haystack start end m.start m.end (start + m.start) (start + m.end) refl refl (omega (arith, o.sized)) (omega (arith, o.before_end))) o.same;
    admitted = λ (y : _). omega (arith, o.admitted y);
  }

  -- and the other way round
  pub into_part : (start end : ℕ) (m : Occurrence) → Occurs p anchored haystack start end m → Occurs p anchored (slice_range haystack start end) 0 (end - start) (moved_back start m)
  into_part start end m o =
      let before : start ≤ m.start = o.after_start in
      let after : m.start ≤ m.end = omega (arith, o.sized) in
      record {
        numbered = o.numbered;
        after_start = omega arith;
        before_end = omega (arith, o.before_end);
        sized = omega (arith, o.sized);
        same = subst (λ (bytes : List ℕ). IsSameWord p (pattern_at p m.pattern) bytes) (sym (part_of_part haystack start end (m.start - start) (m.end - start) m.start m.end (omega arith) (omega arith) (omega arith) o.before_end)) o.same;
        admitted = λ (y : _). omega (arith, o.admitted y);
      }

  -- an occurrence of the whole is one in all of the part
  into_all : (start end : ℕ) (m : Occurrence) → end ≤ length haystack → Occurs p anchored haystack start end m → Occurs p anchored (slice_range haystack start end) 0 (length (slice_range haystack start end)) (moved_back start m)
  into_all start end m within o = subst (λ (x : ℕ). Occurs p anchored (slice_range haystack start end) 0 x (moved_back start m)) (sym (length_part haystack start end within)) (into_part start end m o)

  -- the best of a part, at its place in the whole
  pub best_in_whole : (start end : ℕ) (best : Option Occurrence) → start ≤ end → end ≤ length haystack → BestAfter p anchored (slice_range haystack start end) best → IsBestOrNone p.kind (Occurs p anchored haystack start end) (moved_option start best)
  best_in_whole start end None le within is_best = λ n o. is_best (moved_back start n) (into_all start end n within o)
  best_in_whole start end (Some m) le within is_best = (
    from_part start end m le (subst (λ (x : ℕ). Occurs p anchored (slice_range haystack start end) 0 x m) (length_part haystack start end within) is_best.0),
    λ n o.
        let there : moved start (moved_back start n) ≡ n = moved-moved_back start n o.after_start (omega (arith, o.after_start, o.sized)) in
        elim (is_best.1 (moved_back start n) (into_all start end n within o)) [
          | inl e ↦ inl (sym there ∙ ap (moved start) e)
          | inr before ↦ inr (subst (IsBefore p.kind (moved start m)) there (moved_before p.kind start m (moved_back start n) before))
        ],
  )
