-- The bytes of a span as a text of their own, and texts that are joined.
use Rattle.std.proofs.Common.{◌≡◌, inl, inr, ℕ, ◌+◌, ◌-◌, ◌≤◌, List, [], ◌∷◌, ◌++◌, length, map, take, drop, Option, Some, None, refl, sym, ◌∙◌, ap, subst, arith, length-append, length-drop}
use Rattle.std.specs.Prelude.{slice_range}
use Rattle.std.proofs.lemmas.List.{drop-append-le, drop-drop, drop-take, length-take, take-append-le, take-take}
use Rattle.std.proofs.Math.Seq.{drop-append-add, drop-append_seam, take-append_seam, take-length}
use Rattle.aho_core.specs.declared.search.Anchored.TheVariants.{No}
use Rattle.aho_core.specs.declared.search.MatchKind.{MatchKind}
use Rattle.aho_core.specs.declared.search.MatchKind.TheVariants.{Standard, LeftmostFirst, LeftmostLongest}
use Rattle.aho_core.specs.Best.{IsBestOrNone}
use Rattle.aho_core.specs.Bytes.{IsSameWord}
use Rattle.aho_core.specs.Iteration.{AreFinds}
use Rattle.aho_core.specs.Occurrence.{Occurrence}
use Rattle.aho_core.specs.Occurs.{Occurs}
use Rattle.aho_core.specs.Order.{IsBefore}
use Rattle.aho_core.specs.Patterns.{Patterns, pattern_at}
use Rattle.aho_core.specs.Search.{plain_search}
use Rattle.aho_laws.specs.CutLaws.{IsClear, NoneIsEmpty, moved, span_search}
use Rattle.aho_laws.proofs.ClearCuts.{best-find, find-best, finds-clear}

-- a part of a part
part_of_part : (haystack : List ℕ) (start end x y : ℕ) → x ≤ y → start + y ≤ end → slice_range (slice_range haystack start end) x y ≡ slice_range haystack (start + x) (start + y)
part_of_part haystack start end x y le within =
    let split : end - start ≡ x + ((end - start) - x) = omega arith in
    let count : y - x ≡ (start + y) - (start + x) = omega arith in
    ap (λ (n : ℕ). take (y - x) (drop x (take n (drop start haystack)))) split
    ∙ ap (take (y - x)) (drop-take x ((end - start) - x) (drop start haystack))
    ∙ take-take (y - x) ((end - start) - x) (drop x (drop start haystack)) (omega arith)
    ∙ ap (take (y - x)) (drop-drop x start haystack)
    ∙ ap (λ (n : ℕ). take n (drop (start + x) haystack)) count

pub length_part : (haystack : List ℕ) (start end : ℕ) → end ≤ length haystack → length (slice_range haystack start end) ≡ end - start
length_part haystack start end within = simp (length-take, length-drop) (omega arith)

-- an occurrence of the whole, seen in the part
abbrev pub moved_back : ℕ → Occurrence → Occurrence
moved_back by m = record { pattern = m.pattern; start = m.start - by; end = m.end - by }

pub moved-moved_back : (by : ℕ) (m : Occurrence) → by ≤ m.start → by ≤ m.end → moved by (moved_back by m) ≡ m
moved-moved_back by m starts ends =
    ap (λ (x : ℕ). record { pattern = m.pattern; start = x; end = by + (m.end - by) }) (omega arith)
    ∙ ap (λ (x : ℕ). record { pattern = m.pattern; start = m.start; end = x }) (omega arith)

-- to move by nothing changes nothing, and to move twice is to move once
pub moved-zero : (m : Occurrence) → moved 0 m ≡ m
moved-zero m =
    ap (λ (x : ℕ). record { pattern = m.pattern; start = x; end = 0 + m.end }) (omega arith)
    ∙ ap (λ (x : ℕ). record { pattern = m.pattern; start = m.start; end = x }) (omega arith)

pub map-moved_zero : (ms : List Occurrence) → map (moved 0) ms ≡ ms
map-moved_zero [] = refl
map-moved_zero (m ∷ ms) = let first = moved-zero m in let rest = map-moved_zero ms in cc

pub moved-before : (kind : MatchKind) (by : ℕ) (m n : Occurrence) → IsBefore kind m n → IsBefore kind (moved by m) (moved by n)
moved-before Standard by m n (inl ends) = inl (omega arith)
moved-before Standard by m n (inr (same, inl starts)) = inr (omega arith, inl (omega arith))
moved-before Standard by m n (inr (same, inr (also, number))) = inr (omega arith, inr (omega arith, number))
moved-before LeftmostFirst by m n (inl starts) = inl (omega arith)
moved-before LeftmostFirst by m n (inr (same, number)) = inr (omega arith, number)
moved-before LeftmostLongest by m n (inl starts) = inl (omega arith)
moved-before LeftmostLongest by m n (inr (same, inl longer)) = inr (omega arith, inl (omega arith))
moved-before LeftmostLongest by m n (inr (same, inr (also, number))) = inr (omega arith, inr (omega arith, number))

abbrev moved_option : ℕ → Option Occurrence → Option Occurrence
moved_option by None = None
moved_option by (Some m) = Some (moved by m)

module _ (p : Patterns) (haystack : List ℕ) (start end : ℕ) where
  abbrev part : List ℕ
  part = slice_range haystack start end

  -- an occurrence of the part is one of the whole, further on, and the other way round
  pub Occurs-moved : (from to : ℕ) (m : Occurrence) → start + to ≤ end → Occurs p No part from to m → Occurs p No haystack (start + from) (start + to) (moved start m)
  Occurs-moved from to m within o = record {
    numbered = o.numbered;
    after_start = omega (arith, o.after_start);
    before_end = omega (arith, o.before_end);
    sized = omega (arith, o.sized);
    same = subst (IsSameWord p (pattern_at p m.pattern)) (part_of_part haystack start end m.start m.end (omega (arith, o.sized)) (omega (arith, o.before_end))) o.same;
    admitted = λ e. cc;
  }

  pub Occurs-moved_back : (from to : ℕ) (m : Occurrence) → start + to ≤ end → Occurs p No haystack (start + from) (start + to) m → Occurs p No part from to (moved_back start m)
  Occurs-moved_back from to m within o =
      let low : start + from ≤ m.start = o.after_start in
      let high : m.end ≤ start + to = o.before_end in
      let ordered : m.start ≤ m.end = omega (arith, o.sized) in
      let starts : start + (m.start - start) ≡ m.start = omega arith in
      let ends : start + (m.end - start) ≡ m.end = omega arith in
      let bytes : slice_range part (m.start - start) (m.end - start) ≡ slice_range haystack m.start m.end =
      part_of_part haystack start end (m.start - start) (m.end - start) (omega arith) (omega arith)
      ∙ ap (λ (x : ℕ). slice_range haystack x (start + (m.end - start))) starts ∙ ap (slice_range haystack m.start) ends in
      record {
        numbered = o.numbered;
        after_start = omega arith;
        before_end = omega arith;
        sized = omega (arith, o.sized);
        same = subst (IsSameWord p (pattern_at p m.pattern)) (sym bytes) o.same;
        admitted = λ e. cc;
      }

  back : (from to : ℕ) (m : Occurrence) → Occurs p No haystack (start + from) (start + to) m → moved start (moved_back start m) ≡ m
  back from to m o = moved-moved_back start m (omega (arith, o.after_start)) (omega (arith, o.after_start, o.sized))

  best-moved : (from to : ℕ) (best : Option Occurrence) → start + to ≤ end → IsBestOrNone p.kind (Occurs p No part from to) best
      → IsBestOrNone p.kind (Occurs p No haystack (start + from) (start + to)) (moved_option start best)
  best-moved from to None within none = λ other occurs. none (moved_back start other) (Occurs-moved_back from to other within occurs)
  best-moved from to (Some m) within best = (
    Occurs-moved from to m within best.0,
    λ other occurs.
        let again = back from to other occurs in
        elim (best.1 (moved_back start other) (Occurs-moved_back from to other within occurs)) [
          | inl same ↦ inl (sym again ∙ ap (moved start) same)
          | inr before ↦ inr (subst (IsBefore p.kind (moved start m)) again (moved-before p.kind start m (moved_back start other) before))
        ],
  )

  module _ (full : NoneIsEmpty p) where
    finds-moved : (ms : List Occurrence) (from to : ℕ) (last other : Option ℕ) → start + to ≤ end → AreFinds p (span_search part from to) last ms
        → AreFinds p (span_search haystack (start + from) (start + to)) other (map (moved start) ms)
    finds-moved [] from to last other within h = best-find p full haystack (start + from) (start + to) other None (best-moved from to None within (find-best p full part from to last None h))
    finds-moved (m ∷ ms) from to last other within h = (
      best-find p full haystack (start + from) (start + to) other (Some (moved start m)) (best-moved from to (Some m) within (find-best p full part from to last (Some m) h.0)),
      finds-moved ms m.end to (Some m.end) (Some (start + m.end)) within h.1,
    )

    -- so are the finds
    pub finds-span : (ms : List Occurrence) → start ≤ end → end ≤ length haystack → AreFinds p (plain_search part) None ms → AreFinds p (span_search haystack start end) None (map (moved start) ms)
    finds-span ms le within h =
        let long : length part ≡ end - start = length_part haystack start end within in
        let starts : start + 0 ≡ start = omega arith in
        let ends : start + length part ≡ end = omega arith in
        let found : AreFinds p (span_search haystack (start + 0) (start + length part)) None (map (moved start) ms) = finds-moved ms 0 (length part) None None (omega arith) h in
        subst (λ (x : ℕ). AreFinds p (span_search haystack start x) None (map (moved start) ms)) ends
        (subst (λ (x : ℕ). AreFinds p (span_search haystack x (start + length part)) None (map (moved start) ms)) starts found)

-- the two parts of joined texts
left_part : (left right : List ℕ) → slice_range (left ++ right) 0 (length left) ≡ left
left_part left right = let count : length left - 0 ≡ length left = omega arith in ap (λ (n : ℕ). take n (left ++ right)) count ∙ take-append_seam left right

right_part : (left right : List ℕ) → slice_range (left ++ right) (length left) (length (left ++ right)) ≡ right
right_part left right =
    let count : length (left ++ right) - length left ≡ length right = omega (arith, length-append left right) in
    ap (take (length (left ++ right) - length left)) (drop-append_seam left right) ∙ ap (λ (n : ℕ). take n right) count ∙ take-length right

-- what occurs in one of them occurs in the whole, and the other way round
module _ (p : Patterns) (left right : List ℕ) where
  range_left : (start end : ℕ) → start ≤ end → end ≤ length left → slice_range (left ++ right) start end ≡ slice_range left start end
  range_left start end le within =
      ap (take (end - start)) (drop-append-le start left right (omega arith)) ∙ take-append-le (end - start) (drop start left) right (omega (arith, length-drop start left))

  range_right : (start end : ℕ) → slice_range (left ++ right) (length left + start) (length left + end) ≡ slice_range right start end
  range_right start end =
      let count : (length left + end) - (length left + start) ≡ end - start = omega arith in
      ap (take ((length left + end) - (length left + start))) (drop-append-add left right start) ∙ ap (λ (n : ℕ). take n (drop start right)) count

  abbrev InWhole : Occurrence → Type 0
  InWhole m = Occurs p No (left ++ right) 0 (length (left ++ right)) m

  pub Occurs-left : (m : Occurrence) → m.end ≤ length left → InWhole m → Occurs p No left 0 (length left) m
  Occurs-left m within o = record {
    numbered = o.numbered;
    after_start = o.after_start;
    before_end = within;
    sized = o.sized;
    same = subst (IsSameWord p (pattern_at p m.pattern)) (range_left m.start m.end (omega (arith, o.sized)) within) o.same;
    admitted = λ e. cc;
  }

  pub Occurs-of_left : (m : Occurrence) → Occurs p No left 0 (length left) m → InWhole m
  Occurs-of_left m o = record {
    numbered = o.numbered;
    after_start = o.after_start;
    before_end = omega (arith, o.before_end, length-append left right);
    sized = o.sized;
    same = subst (IsSameWord p (pattern_at p m.pattern)) (sym (range_left m.start m.end (omega (arith, o.sized)) o.before_end)) o.same;
    admitted = λ e. cc;
  }

  pub Occurs-of_right : (m : Occurrence) → Occurs p No right 0 (length right) m → InWhole (moved (length left) m)
  Occurs-of_right m o = record {
    numbered = o.numbered;
    after_start = omega arith;
    before_end = omega (arith, o.before_end, length-append left right);
    sized = omega (arith, o.sized);
    same = subst (IsSameWord p (pattern_at p m.pattern)) (sym (range_right m.start m.end)) o.same;
    admitted = λ e. cc;
  }

  pub Occurs-right : (m : Occurrence) → length left ≤ m.start → InWhole m → Occurs p No right 0 (length right) (moved_back (length left) m)
  Occurs-right m behind o =
      let starts : length left + (m.start - length left) ≡ m.start = omega arith in
      let ends : length left + (m.end - length left) ≡ m.end = omega (arith, o.sized) in
      let bytes : slice_range right (m.start - length left) (m.end - length left) ≡ slice_range (left ++ right) m.start m.end =
      sym (range_right (m.start - length left) (m.end - length left))
      ∙ ap (λ (x : ℕ). slice_range (left ++ right) x (length left + (m.end - length left))) starts
      ∙ ap (slice_range (left ++ right) m.start) ends in
      record {
        numbered = o.numbered;
        after_start = omega arith;
        before_end = omega (arith, o.before_end, o.sized, length-append left right);
        sized = omega (arith, o.sized);
        same = subst (IsSameWord p (pattern_at p m.pattern)) (sym bytes) o.same;
        admitted = λ e. cc;
      }

module _ (p : Patterns) (full : NoneIsEmpty p) where
  finds-left : (left right : List ℕ) (ms : List Occurrence) → AreFinds p (plain_search left) None ms → AreFinds p (span_search (left ++ right) 0 (length left)) None ms
  finds-left left right ms h =
      subst (AreFinds p (span_search (left ++ right) 0 (length left)) None) (map-moved_zero ms)
      (finds-span p (left ++ right) 0 (length left) full ms (omega arith) (omega (arith, length-append left right))
      (subst (λ (text : List ℕ). AreFinds p (plain_search text) None ms) (sym (left_part left right)) h))

  finds-right : (left right : List ℕ) (ns : List Occurrence) → AreFinds p (plain_search right) None ns → AreFinds p (span_search (left ++ right) (length left) (length (left ++ right))) None (map (moved (length left)) ns)
  finds-right left right ns h =
      finds-span p (left ++ right) (length left) (length (left ++ right)) full ns (omega (arith, length-append left right)) (omega arith)
      (subst (λ (text : List ℕ). AreFinds p (plain_search text) None ns) (sym (right_part left right)) h)

  -- the finds of texts that are joined where no occurrence lies
  pub finds-joined : (left right : List ℕ) (ms ns : List Occurrence) → IsClear p (left ++ right) 0 (length (left ++ right)) (length left)
      → AreFinds p (plain_search left) None ms → AreFinds p (plain_search right) None ns → AreFinds p (plain_search (left ++ right)) None (ms ++ map (moved (length left)) ns)
  finds-joined left right ms ns clear h k =
      finds-clear p full ms (map (moved (length left)) ns) (left ++ right) 0 (length left) (length (left ++ right)) None None (omega arith) (omega (arith, length-append left right)) clear
      (finds-left left right ms h) (finds-right left right ns k)
