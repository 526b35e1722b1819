-- What occurs in a span of a haystack, and what stands in the part of the haystack that is searched.
use Rattle.std.proofs.Common.{◌≡◌, ℕ, ◌+◌, ◌-◌, ◌<◌, ◌≤◌, Bool, true, false, List, [], ◌∷◌, length, get_or, refl, sym, ap, ◌∙◌, arith, get_or-take, get_or-drop, length-drop}
use Rattle.std.specs.Prelude.{slice_range, slice_index, slice_index_or}
use Rattle.std.specs.List.{Contains}
use Rattle.std.proofs.lemmas.List.{ext_get_or, get_or-map, length-map, length-take}
use Rattle.memchr.specs.Find.{OccursAt, Passes}
use Rattle.aho_core.specs.declared.search.Anchored.TheVariants.{No}
use Rattle.aho_core.specs.Bytes.{folded, folded_word, IsSameByte, IsSameWord}
use Rattle.aho_core.specs.Occurrence.{Occurrence, occurrence}
use Rattle.aho_core.specs.Occurs.{Occurs}
use Rattle.aho_core.specs.Patterns.{Patterns, pattern_at}
use Rattle.aho_prefilter.specs.Prefilter.{AllBeginWithin, IsOnlyPattern}

-- how long a part is, and what stands in it
pub length_part : (haystack : List ℕ) (start end : ℕ) → end ≤ length haystack → length (slice_range haystack start end) ≡ end - start
length_part haystack start end within = simp (length-take, length-drop) (omega arith)

pub part-reads : (haystack : List ℕ) (start end k : ℕ) → k < end - start → slice_index (slice_range haystack start end) k ≡ slice_index haystack (start + k)
part-reads haystack start end k below = rw (get_or-take, get_or-drop) refl

module _ (p : Patterns) where
  -- without the case rule words are compared as they are
  folded_word-exact : p.ignore_case ≡ false → (xs : List ℕ) → folded_word p xs ≡ xs
  folded_word-exact exact [] = refl
  folded_word-exact exact (x ∷ xs) =
      let byte : folded p x ≡ x = rw exact refl in
      ap (λ (y : ℕ). y ∷ folded_word p xs) byte ∙ ap (λ (ys : List ℕ). x ∷ ys) (folded_word-exact exact xs)

  -- words that are the same begin with bytes that are the same
  same_first : (xs ys : List ℕ) → 0 < length xs → IsSameWord p xs ys → IsSameByte p (slice_index xs 0) (slice_index ys 0)
  same_first xs ys some same =
      let long : length xs ≡ length ys = sym (length-map xs (folded p)) ∙ ap length same ∙ length-map ys (folded p) in
      sym (get_or-map (folded p) xs 0 0 0 some) ∙ ap (λ (w : List ℕ). get_or w 0 0) same ∙ get_or-map (folded p) ys 0 0 0 (omega arith)

  -- the only pattern has the number 0
  pub is_only : (needle : List ℕ) (k : ℕ) → p.words ≡ needle ∷ [] → k < length p.words → (k ≡ 0) × (pattern_at p k ≡ needle)
  is_only needle k only below =
      let zeroth : k ≡ 0 = omega (arith, ap length only) in
      (zeroth, ap (λ (words : List (List ℕ)). slice_index_or words k []) only ∙ ap (λ (j : ℕ). slice_index_or (needle ∷ []) j []) zeroth)

  module _ (haystack : List ℕ) (start end : ℕ) (ordered : start ≤ end) (within : end ≤ length haystack) where
    -- where an occurrence starts, in the part, a test stops that passes the bytes with which patterns begin
    pub starts_pass : (bytes : List ℕ) (test : ℕ → Bool) → ((byte : ℕ) → Contains bytes byte → test byte ≡ true)
        → AllBeginWithin p bytes → (m : Occurrence) → Occurs p No haystack start end m
        → (m.start - start < length (slice_range haystack start end)) × Passes test (slice_range haystack start end) (m.start - start)
    starts_pass bytes test passes begin m o =
        let begins = begin m.pattern o.numbered in
        let low : start ≤ m.start = o.after_start in
        let long : m.start + length (pattern_at p m.pattern) ≡ m.end = o.sized in
        let high : m.end ≤ end = o.before_end in
        let some : 0 < length (pattern_at p m.pattern) = begins.some in
        let read : slice_index (slice_range haystack start end) (m.start - start) ≡ slice_index (slice_range haystack m.start m.end) 0 =
        part-reads haystack start end (m.start - start) (omega arith)
        ∙ ap (slice_index haystack) (omega arith)
        ∙ sym (part-reads haystack m.start m.end 0 (omega arith)) in
        let same = same_first (pattern_at p m.pattern) (slice_range haystack m.start m.end) some o.same in (
          omega (arith, length_part haystack start end within),
          passes (slice_index (slice_range haystack start end) (m.start - start)) (begins.first (slice_index (slice_range haystack start end) (m.start - start)) (same ∙ ap (folded p) (sym read))),
        )

    -- an occurrence of the only pattern stands in the part
    pub OccursAt-only : (needle : List ℕ) → IsOnlyPattern p needle → (m : Occurrence) → Occurs p No haystack start end m
        → OccursAt (slice_range haystack start end) needle (m.start - start)
    OccursAt-only needle is m o =
        let same_pattern = is_only needle m.pattern is.only o.numbered in
        let word : needle ≡ slice_range haystack m.start m.end =
        sym same_pattern.1
        ∙ sym (folded_word-exact is.exact (pattern_at p m.pattern))
        ∙ o.same
        ∙ folded_word-exact is.exact (slice_range haystack m.start m.end) in
        let low : start ≤ m.start = o.after_start in
        let long : m.start + length needle ≡ m.end = ap (λ (w : List ℕ). m.start + length w) (sym same_pattern.1) ∙ o.sized in
        let high : m.end ≤ end = o.before_end in
        record {
          fits = omega (arith, length_part haystack start end within);
          reads = λ j below.
              part-reads haystack start end ((m.start - start) + j) (omega arith)
              ∙ ap (slice_index haystack) (omega arith)
              ∙ sym (part-reads haystack m.start m.end j (omega arith))
              ∙ ap (λ (w : List ℕ). slice_index w j) (sym word);
        }

    -- what stands in the part occurs in the haystack
    pub Occurs-from_part : (needle : List ℕ) (at : ℕ) → IsOnlyPattern p needle → OccursAt (slice_range haystack start end) needle at
        → Occurs p No haystack start end (occurrence (start + at) (start + at + length needle) 0)
    Occurs-from_part needle at is stands =
        let long : length (slice_range haystack start end) ≡ end - start = length_part haystack start end within in
        let fits : at + length needle ≤ length (slice_range haystack start end) = stands.fits in
        let numbered : 0 < length p.words = omega (arith, ap length is.only) in
        let same_pattern = is_only needle 0 is.only numbered in
        let s : ℕ = start + at in
        let e : ℕ = start + at + length needle in
        let word : needle ≡ slice_range haystack s e =
        ext_get_or 0 needle (slice_range haystack s e)
        (sym (length_part haystack s e (omega arith) ∙ omega arith))
        (λ j below.
        sym (stands.reads j below)
        ∙ part-reads haystack start end (at + j) (omega arith)
        ∙ ap (slice_index haystack) (omega arith)
        ∙ sym (part-reads haystack s e j (omega arith))) in
        record {
          numbered = numbered;
          after_start = omega arith;
          before_end = omega arith;
          sized = ap (λ (w : List ℕ). s + length w) same_pattern.1;
          same = ap (folded_word p) (same_pattern.1 ∙ word);
          admitted = λ x. cc;
        }
