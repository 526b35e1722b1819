-- A list that is closed: it has what it had, and so has every other.
use Rattle.std.proofs.Common.{◌≡◌, ℕ, ◌+◌, ◌-◌, ◌<◌, ◌≤◌, true, List, ◌++◌, sym, ap, subst, ◌∙◌, inl, inr, arith}
use Rattle.std.proofs.lemmas.Bool.{cases_eq}
use Rattle.aho_table.specs.Words.{room, length_mark, word_at, told_length, length_at, patterns_at, is_closed, HasPatterns, AreLaid, IsPut, IsClosed}
use Rattle.aho_table.proofs.Patterns.{told_length-above, told_length-mark, length_at-zero, length_at-some, length-patterns_at, patterns_at-zero, pattern_small, same_patterns, is_closed-below, closed-below}

-- ---- a word is put behind the last pattern, where room is

pub IsClosed-put : (old new : List ℕ) (list end : ℕ) → end ≡ list + length_at old list → room ≤ word_at old end → IsPut old end length_mark new → IsClosed old list new
IsClosed-put old new list end is free put = record {
  closed = omega (arith, put.here, ap (word_at new) is);
  kept = λ i below. put.others i (λ e. omega (arith, below, free, ap (word_at old) e));
  lengths = λ i.
      elim (cases_eq i end) [
        | inl e ↦ ap (λ (n : ℕ). told_length (word_at new n)) e ∙ ap told_length put.here ∙ told_length-mark 0 (omega arith) ∙ sym (ap (λ (n : ℕ). told_length (word_at old n)) e ∙ told_length-above (word_at old end) free)
        | inr ne ↦ ap told_length (put.others i ne)
      ];
}

module _ (old new : List ℕ) (count list : ℕ) (are : AreLaid old count) (closing : IsClosed old list new) where
  same_len : (other : ℕ) → length_at new other ≡ length_at old other
  same_len other =
      elim (cases_eq other 0) [
        | inl is ↦ ap (length_at new) is ∙ length_at-zero new ∙ sym (ap (length_at old) is ∙ length_at-zero old)
        | inr ne ↦ length_at-some new other ne ∙ closing.lengths (other - 1) ∙ sym (length_at-some old other ne)
      ]

  pub AreLaid-closed : (more : ℕ) → count ≤ more → AreLaid new more
  AreLaid-closed more within = record {
    patterns = λ place k past inside.
        let low = are.patterns place k past (omega (arith, inside, closing.lengths place)) in
        omega (arith, low, closing.kept k (omega (arith, low)));
    fewer = λ place. omega (arith, within, are.fewer place, closing.lengths place);
  }

  same : (other : ℕ) → patterns_at new other ≡ patterns_at old other
  same other =
      same_patterns old new count count other are (AreLaid-closed count (omega arith)) (same_len other)
      (λ i below. closing.kept (other + i) (omega (arith, pattern_small old count other i are below)))

  stays : (other : ℕ) → is_closed old other ≡ true → is_closed new other ≡ true
  stays other closed =
      let below = closed-below old other closed in
      is_closed-below new other (omega (arith, below, closing.kept (other + length_at old other) below, ap (λ (n : ℕ). word_at new (other + n)) (same_len other)))

  pub closed_now : is_closed new list ≡ true
  closed_now = is_closed-below new list (omega (arith, closing.closed, ap (λ (n : ℕ). word_at new (list + n)) (same_len list)))

  pub HasPatterns-closed : 0 < length_at old list → HasPatterns old new 0 list (patterns_at old list)
  HasPatterns-closed some = record {
    patterns = same list;
    some = omega (arith, some, length-patterns_at old count list are);
    others = λ other below why. same other;
    closed = stays;
  }

-- the empty list, and behind it the patterns of another
pub HasPatterns-joined : (old new : List ℕ) (list made : ℕ) (items : List ℕ) → list ≡ 0 → HasPatterns old new 0 made items → HasPatterns old new list made (patterns_at old list ++ items)
HasPatterns-joined old new list made items is has =
    subst (λ (n : ℕ). HasPatterns old new n made (patterns_at old n ++ items)) (sym is)
    (subst (λ (xs : List ℕ). HasPatterns old new 0 made (xs ++ items)) (sym (patterns_at-zero old)) has)
