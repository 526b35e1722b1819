-- The patterns that begin a word: the longest of those that lead is the best of all.
use Rattle.std.proofs.Common.{◌≡◌, ◌⊎◌, inl, inr, ℕ, ◌+◌, ◌-◌, ◌<◌, ◌≤◌, false, List, [], ◌++◌, length, take, drop, refl, sym, ◌∙◌, ap, subst, arith}
use Rattle.std.specs.Prelude.{None, slice_range}
use Rattle.std.proofs.lemmas.List.{append-nil, length-drop, length-map, map-append, take-append-drop, take-map, take_at}
use Rattle.aho_core.specs.declared.search.Anchored.TheVariants.{Yes}
use Rattle.aho_core.specs.Best.{IsBest, IsBestOrNone}
use Rattle.aho_core.specs.Bytes.{folded, folded_word}
use Rattle.aho_core.specs.Occurrence.{Occurrence, occurrence}
use Rattle.aho_core.specs.Occurs.{Occurs}
use Rattle.aho_core.specs.Order.{IsBefore}
use Rattle.aho_core.specs.Patterns.{Patterns, pattern_at}
use Rattle.aho_laws.specs.CutLaws.{moved}
use Rattle.aho_laws.proofs.Answers.{IsAnswer-some}
use Rattle.aho_laws.proofs.Begins.{Begins, begins_length, begins_shorter, begins_trans}
use Rattle.aho_laws.proofs.Orders.{IsBefore-trans, IsBest-unique, same_occurrence}
use Rattle.aho_laws.proofs.SpanTexts.{moved-before}
use Rattle.aho_backward.specs.Turned.{IsLeader, size_of}

-- the pattern of this number begins the word, as bytes are compared
abbrev pub BeginsWord : Patterns → List ℕ → ℕ → Type 0
BeginsWord p word k = (k < length p.words) × Begins (folded_word p (pattern_at p k)) (folded_word p word)

-- where both begin a word, the first is found there and not the second, unless they are equal
abbrev pub IsChosen : Patterns → ℕ → ℕ → Type 0
IsChosen p k j = (j ≡ k) ⊎ IsBefore p.kind (occurrence 0 (size_of p k) k) (occurrence 0 (size_of p j) j)

module _ (p : Patterns) where
  pub long-pattern : (k : ℕ) → length (folded_word p (pattern_at p k)) ≡ size_of p k
  long-pattern k = length-map (pattern_at p k) (folded p)

  -- a pattern is no longer than what it begins
  pub begins-size : (word : List ℕ) (k : ℕ) → BeginsWord p word k → size_of p k ≤ length word
  begins-size word k b = omega (arith, begins_length (folded_word p (pattern_at p k)) (folded_word p word) b.1, long-pattern k, length-map word (folded p))

  pub begins-itself : (k : ℕ) → k < length p.words → BeginsWord p (pattern_at p k) k
  begins-itself k lt = (lt, ([], append-nil (folded_word p (pattern_at p k))))

  pub begins-through : (word : List ℕ) (j k : ℕ) → BeginsWord p word j → BeginsWord p (pattern_at p j) k → BeginsWord p word k
  begins-through word j k b c = (c.0, begins_trans (folded_word p (pattern_at p k)) (folded_word p (pattern_at p j)) (folded_word p word) c.1 b.1)

  -- what begins the rest of a haystack occurs there
  pub begins-occurs : (haystack : List ℕ) (at end k : ℕ) → at ≤ length haystack → end ≡ at + size_of p k → BeginsWord p (drop at haystack) k → Occurs p Yes haystack at (length haystack) (occurrence at end k)
  begins-occurs haystack at end k within end_is b =
      let word = folded_word p (pattern_at p k) in
      let n = size_of p k in
      let count : end - at ≡ n = omega arith in
      let there : folded_word p (slice_range haystack at end) ≡ word =
      ap (λ (c : ℕ). folded_word p (take c (drop at haystack))) count
      ∙ sym (take-map (folded p) n (drop at haystack))
      ∙ ap (take n) (sym b.1.1)
      ∙ take_at word b.1.0 n (long-pattern k) in
      record {
        numbered = b.0;
        after_start = omega arith;
        before_end = omega (arith, begins-size (drop at haystack) k b, length-drop at haystack);
        sized = sym end_is;
        same = sym there;
        admitted = λ e. refl;
      }

  -- and the other way round
  pub occurs-start : (haystack : List ℕ) (at : ℕ) (m : Occurrence) → Occurs p Yes haystack at (length haystack) m → m ≡ occurrence at (at + size_of p m.pattern) m.pattern
  occurs-start haystack at m o =
      let start : m.start ≡ at = o.admitted refl in
      same_occurrence m (occurrence at (at + size_of p m.pattern) m.pattern) refl start (sym o.sized ∙ ap (λ (s : ℕ). s + size_of p m.pattern) start)

  pub occurs-begins : (haystack : List ℕ) (at : ℕ) (m : Occurrence) → Occurs p Yes haystack at (length haystack) m → BeginsWord p (drop at haystack) m.pattern
  occurs-begins haystack at m o =
      let n = size_of p m.pattern in
      let v = drop at haystack in
      let count : m.end - m.start ≡ n = omega (arith, o.sized) in
      let range : slice_range haystack m.start m.end ≡ take n v = ap (λ (c : ℕ). take c (drop m.start haystack)) count ∙ ap (λ (s : ℕ). take n (drop s haystack)) (o.admitted refl) in (
        o.numbered,
        (
          folded_word p (drop n v),
          ap (λ (w : List ℕ). w ++ folded_word p (drop n v)) (o.same ∙ ap (folded_word p) range) ∙ sym (map-append (folded p) (take n v) (drop n v)) ∙ ap (folded_word p) (take-append-drop n v),
        ),
      )

  occurs-in_pattern : (k j : ℕ) → BeginsWord p (pattern_at p k) j → Occurs p Yes (pattern_at p k) 0 (size_of p k) (occurrence 0 (size_of p j) j)
  occurs-in_pattern k j b = begins-occurs (pattern_at p k) 0 (size_of p j) j (omega arith) (omega arith) b

  pub chosen-through : (k j i : ℕ) → IsChosen p k j → IsChosen p j i → IsChosen p k i
  chosen-through k j i (inl same) second = subst (λ (x : ℕ). IsChosen p x i) same second
  chosen-through k j i (inr first) (inl same) = subst (λ (x : ℕ). IsChosen p k x) (sym same) (inr first)
  chosen-through k j i (inr first) (inr second) = inr (IsBefore-trans p.kind (occurrence 0 (size_of p k) k) (occurrence 0 (size_of p j) j) (occurrence 0 (size_of p i) i) first second)

  -- a pattern that leads is chosen over all that begin it
  leads-chosen : (k j : ℕ) → IsLeader p k → BeginsWord p (pattern_at p k) j → IsChosen p k j
  leads-chosen k j leads b = elim (leads.1 (occurrence 0 (size_of p j) j) (occurs-in_pattern k j b)) [
    | inl same ↦ inl (ap (λ (m : Occurrence). m.pattern) same)
    | inr before ↦ inr before
  ]

  chosen-leads : (k : ℕ) → k < length p.words → ((j : ℕ) → BeginsWord p (pattern_at p k) j → IsChosen p k j) → IsLeader p k
  chosen-leads k lt first = (
    occurs-in_pattern k k (begins-itself k lt),
    λ other o.
        let zero_first : 0 + size_of p other.pattern ≡ size_of p other.pattern = omega arith in
        let other_is : other ≡ occurrence 0 (size_of p other.pattern) other.pattern = occurs-start (pattern_at p k) 0 other o ∙ ap (λ (e : ℕ). occurrence 0 e other.pattern) zero_first in
        elim (first other.pattern (occurs-begins (pattern_at p k) 0 other o)) [
          | inl same ↦ inl (other_is ∙ ap (λ (x : ℕ). occurrence 0 (size_of p x) x) same)
          | inr before ↦ inr (subst (IsBefore p.kind (occurrence 0 (size_of p k) k)) (sym other_is) before)
        ],
  )

  -- wherever a pattern begins, one that leads does that is chosen over it
  pub leader : (word : List ℕ) (j : ℕ) → BeginsWord p word j → (k : ℕ) × BeginsWord p word k × IsLeader p k × IsChosen p k j
  leader word j b =
      let text = pattern_at p j in
      let itself = occurs-in_pattern j j (begins-itself j b.0) in
      let found = IsAnswer-some p (record { haystack = text; start = 0; end = length text; anchored = Yes; earliest = false }) (occurrence 0 (size_of p j) j) (omega arith) itself in
      let m = found.0 in
      let best : IsBest p.kind (Occurs p Yes text 0 (length text)) m = found.1 in
      let k = m.pattern in
      let zero_first : 0 + size_of p k ≡ size_of p k = omega arith in
      let m_is : m ≡ occurrence 0 (size_of p k) k = occurs-start text 0 m best.0 ∙ ap (λ (e : ℕ). occurrence 0 e k) zero_first in
      let inside : BeginsWord p text k = occurs-begins text 0 m best.0 in
      let first : (i : ℕ) → BeginsWord p text i → IsChosen p k i =
      λ i c. elim (best.1 (occurrence 0 (size_of p i) i) (occurs-in_pattern j i c)) [
        | inl same ↦ inl (ap (λ (o : Occurrence). o.pattern) same)
        | inr before ↦ inr (subst (λ (o : Occurrence). IsBefore p.kind o (occurrence 0 (size_of p i) i)) m_is before)
      ] in
      (k, begins-through word j k b inside, chosen-leads k inside.0 (λ i c. first i (begins-through text k i inside c)), first j (begins-itself j b.0))

  -- at a place of a haystack the longest of those that lead is the best of all that begin there
  pub best-at : (haystack : List ℕ) (at end k : ℕ) → at ≤ length haystack → end ≡ at + size_of p k → BeginsWord p (drop at haystack) k → IsLeader p k
      → ((j : ℕ) → IsLeader p j → BeginsWord p (drop at haystack) j → size_of p j ≤ size_of p k)
      → IsBest p.kind (Occurs p Yes haystack at (length haystack)) (occurrence at end k)
  best-at haystack at end k within end_is b leads longest = (
    begins-occurs haystack at end k within end_is b,
    λ other o.
        let v = drop at haystack in
        let i = other.pattern in
        let other_is = occurs-start haystack at other o in
        let first = leader v i (occurs-begins haystack at other o) in
        let j = first.0 in
        let shorter = longest j first.2 first.1 in
        let inside : BeginsWord p (pattern_at p k) j =
        (first.1.0, begins_shorter (folded_word p (pattern_at p j)) (folded_word p (pattern_at p k)) (folded_word p v) first.1.1 b.1 (omega (arith, shorter, long-pattern j, long-pattern k))) in
        elim (chosen-through k j i (leads-chosen k j leads inside) first.3) [
          | inl same ↦ inl (other_is ∙ ap (λ (x : ℕ). occurrence at (at + size_of p x) x) same ∙ ap (λ (e : ℕ). occurrence at e k) (sym end_is))
          | inr before ↦
              (let further = moved-before p.kind at (occurrence 0 (size_of p k) k) (occurrence 0 (size_of p i) i) before in
              let at_is : at + 0 ≡ at = omega arith in
              let mine : moved at (occurrence 0 (size_of p k) k) ≡ occurrence at end k = ap (λ (s : ℕ). occurrence s (at + size_of p k) k) at_is ∙ ap (λ (e : ℕ). occurrence at e k) (sym end_is) in
              let its : moved at (occurrence 0 (size_of p i) i) ≡ other = ap (λ (s : ℕ). occurrence s (at + size_of p i) i) at_is ∙ sym other_is in
              inr (subst (λ (o : Occurrence). IsBefore p.kind o other) mine (subst (IsBefore p.kind (moved at (occurrence 0 (size_of p k) k))) its further)))
        ],
  )

  -- what an anchored search of a pattern's own bytes finds tells whether the pattern leads
  pub leads-found : (k : ℕ) (m : Occurrence) → IsBest p.kind (Occurs p Yes (pattern_at p k) 0 (size_of p k)) m → IsLeader p k → m.pattern ≡ k
  leads-found k m best leads = ap (λ (o : Occurrence). o.pattern) (IsBest-unique p.kind (Occurs p Yes (pattern_at p k) 0 (size_of p k)) m (occurrence 0 (size_of p k) k) best leads)

  pub itself-occurs : (k : ℕ) → k < length p.words → Occurs p Yes (pattern_at p k) 0 (size_of p k) (occurrence 0 (size_of p k) k)
  itself-occurs k lt = occurs-in_pattern k k (begins-itself k lt)

  pub best-never_none : (k : ℕ) → k < length p.words → IsBestOrNone p.kind (Occurs p Yes (pattern_at p k) 0 (size_of p k)) None → ⊥
  best-never_none k lt none = none (occurrence 0 (size_of p k) k) (itself-occurs k lt)
