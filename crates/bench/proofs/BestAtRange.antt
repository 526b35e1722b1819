-- The best of the occurrences at one range.
use Rattle.std.proofs.Common.{◌≡◌, ℕ, ◌+◌, ◌<◌, ◌≤◌, length, arith, inl, inr, sym, ◌∙◌, ap, subst, true, false, refl}
use Rattle.std.specs.Prelude.{slice_range}
use Rattle.std.proofs.lemmas.Bool.{cases_lt, cases_eq}
use Rattle.std.proofs.lemmas.List.Edits.{length-between}
use Rattle.aho_core.specs.Best.{IsBest}
use Rattle.aho_core.specs.Bytes.{IsSameWord, is_same_word}
use Rattle.aho_core.specs.declared.search.Anchored.TheVariants.{Yes}
use Rattle.aho_core.specs.Occurrence.{Occurrence, occurrence}
use Rattle.aho_core.specs.Patterns.{Patterns, pattern_at}
use Rattle.aho_core.specs.Search.{Search}
use Rattle.bench.specs.Range.{OccursAt}
use Rattle.aho_laws.proofs.Orders.{same_occurrence}
use Rattle.aho_laws.proofs.SameWords.{IsSameWord-length, is_same_word-Decides}
use Rattle.aho_laws.proofs.Standard.{before_tie}

-- what occurs at a range passes the test
pub none-at_range : (p : Patterns) (search : Search) (start end : ℕ) (m : Occurrence) → OccursAt p search start end m
    → is_same_word p (pattern_at p m.pattern) (slice_range search.haystack start end) ≡ false → ⊥
none-at_range p search start end m member fails =
    let range : slice_range search.haystack m.start m.end ≡ slice_range search.haystack start end =
    ap (λ (s : ℕ). slice_range search.haystack s m.end) member.1 ∙ ap (λ (e : ℕ). slice_range search.haystack start e) member.2 in
    let passes : is_same_word p (pattern_at p m.pattern) (slice_range search.haystack start end) ≡ true =
    (is_same_word-Decides p _ _).1 (subst (IsSameWord p (pattern_at p m.pattern)) range member.0.same) in
    cc

module _ (p : Patterns) (search : Search) (start end number : ℕ) where
  -- the pattern of this number occurs at the range
  occurs_at : number < length p.words → search.start ≤ start → start ≤ end → end ≤ search.end → end ≤ length search.haystack
      → (search.anchored ≡ Yes → start ≡ search.start)
      → IsSameWord p (pattern_at p number) (slice_range search.haystack start end)
      → OccursAt p search start end (occurrence start end number)
  occurs_at numbered after_start ordered before_end within admitted same =
      let sized : start + length (pattern_at p number) ≡ end =
      omega (arith, IsSameWord-length p (pattern_at p number) (slice_range search.haystack start end) same, length-between search.haystack start end within) in (
        record { numbered = numbered; after_start = after_start; before_end = before_end; sized = sized; same = same; admitted = admitted },
        refl,
        refl,
      )

  -- where none of a lesser number does, it is the best
  pub IsBest-at_range : (best : Occurrence) → best ≡ occurrence start end number
      → number < length p.words → search.start ≤ start → start ≤ end → end ≤ search.end → end ≤ length search.haystack
      → (search.anchored ≡ Yes → start ≡ search.start)
      → is_same_word p (pattern_at p number) (slice_range search.haystack start end) ≡ true
      → ((k : ℕ) → k < number → is_same_word p (pattern_at p k) (slice_range search.haystack start end) ≡ false)
      → IsBest p.kind (OccursAt p search start end) best
  IsBest-at_range best is numbered after_start ordered before_end within admitted same least =
      subst (IsBest p.kind (OccursAt p search start end)) (sym is) (
        occurs_at numbered after_start ordered before_end within admitted ((is_same_word-Decides p _ _).0 same),
        λ other member.
            elim (cases_lt number other.pattern) [
              | inl later ↦ inr (before_tie p.kind (occurrence start end number) other (sym member.1) (sym member.2) later)
              | inr at_most ↦
                  elim (cases_eq other.pattern number) [
                    | inl same_number ↦ inl (same_occurrence other (occurrence start end number) same_number member.1 member.2)
                    | inr differs ↦ absurd (none-at_range p search start end other member (least other.pattern (omega arith)))
                  ]
            ],
      )
