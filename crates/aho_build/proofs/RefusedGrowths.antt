-- What a build asks for, one pattern after another, and the first of it that the limits refuse.
use Rattle.std.proofs.Common.{◌≡◌, ℕ, zero, suc, ◌+◌, ◌*◌, ◌-◌, ◌<◌, ◌≤◌, Bool, cond, nat_lt, List, [], ◌∷◌, ◌++◌, length, Option, Some, None, refl, sym, ap, subst, ◌∙◌, inl, inr, arith, append_assoc}
use Rattle.std.proofs.lemmas.Bool.{cases_eq, cases_lt, le-ltb, lt-ltb}
use Rattle.std.proofs.lemmas.Grind.{flat_map-append}
use Rattle.std.proofs.lemmas.List.{get_or_append_left, length-append}
use Rattle.std.proofs.lemmas.List.Folds.{find-append}
use Rattle.std.specs.Prelude.{find, map, sum_by}
use Rattle.std.specs.List.{flat_map, range_with_len}
use Rattle.std.specs.Option.{option_or}
use Rattle.aho_core.specs.Patterns.{Patterns, pattern_at}
use Rattle.aho_core.specs.Trie.{is_kept}
use Rattle.aho_laws.proofs.Ranges.{range_with_len-add}
use Rattle.aho_build.specs.declared.settings.Settings.{Settings}
use Rattle.aho_build.specs.Settings.{in_force}
use Rattle.aho_build.proofs.MorePatterns.{is_kept-more, kept_before-appended, new_nodes-appended, nodes_before-appended}
use Rattle.aho_build.specs.Dense.{AreWithinLimit, classes_size, row_start, rows_size}
use Rattle.aho_build.specs.Sizes.{kept_before, new_nodes, nodes_before, transitions_for, matches_size}
use Rattle.aho_build.specs.Refusals.{Growth, PatternNumber, PatternLength, TableIndex, is_refused, entries_from, growth_for_kept, growth_for, first_growth, trie_growth, row_growth, growth, own_size, start_size, cause, followed_by, IsCause, IsAccepted}
use Rattle.aho_build.specs.declared.settings.Limits.{Limits}

flat_map_range-same : (f g : ℕ → List Growth) (a n : ℕ) → ((k : ℕ) → k < a + n → f k ≡ g k) → flat_map f (range_with_len a n) ≡ flat_map g (range_with_len a n)
flat_map_range-same f g a zero same = refl
flat_map_range-same f g a (suc n) same =
    ap (λ (l : List Growth). l ++ flat_map f (range_with_len (a + 1) n)) (same a (omega arith))
    ∙ ap (λ (l : List Growth). g a ++ l) (flat_map_range-same f g (a + 1) n (λ k less. same k (omega (arith, less))))

-- what the first patterns ask for does not depend on those behind
module _ (p : Patterns) (more : List (List ℕ)) where
  growth_for_kept-appended : (number : ℕ) → number < length p.words → growth_for_kept (followed_by p more) number ≡ growth_for_kept p number
  growth_for_kept-appended number below =
      let states = nodes_before-appended p more number (omega arith) in
      let new = new_nodes-appended p more number below in
      let kept = kept_before-appended p more number (omega arith) in
      ap (λ (w : List (List ℕ)). entries_from (4 + length w) (length (new_nodes (followed_by p more) number))
      ++ (entries_from (769 + sum_by (transitions_for p) w) (sum_by (transitions_for p) (new_nodes (followed_by p more) number)) ++ entries_from (1 + length (kept_before (followed_by p more) number)) 1)) states
      ∙ ap (λ (w : List (List ℕ)). entries_from (4 + length (nodes_before p number)) (length w)
      ++ (entries_from (769 + sum_by (transitions_for p) (nodes_before p number)) (sum_by (transitions_for p) w) ++ entries_from (1 + length (kept_before (followed_by p more) number)) 1)) new
      ∙ ap (λ (ks : List ℕ). entries_from (4 + length (nodes_before p number)) (length (new_nodes p number))
      ++ (entries_from (769 + sum_by (transitions_for p) (nodes_before p number)) (sum_by (transitions_for p) (new_nodes p number)) ++ entries_from (1 + length ks) 1)) kept

  growth_for-appended : (number : ℕ) → number < length p.words → growth_for (followed_by p more) number ≡ growth_for p number
  growth_for-appended number below =
      ap (λ (w : List ℕ). PatternNumber number ∷ PatternLength number (length w) ∷ (cond (is_kept (followed_by p more) number) (growth_for_kept (followed_by p more) number) []))
      (get_or_append_left p.words more [] number below)
      ∙ ap (λ (b : Bool). PatternNumber number ∷ PatternLength number (length (pattern_at p number)) ∷ cond b (growth_for_kept (followed_by p more) number) []) (is_kept-more p more number below)
      ∙ ap (λ (l : List Growth). PatternNumber number ∷ PatternLength number (length (pattern_at p number)) ∷ cond (is_kept p number) l []) (growth_for_kept-appended number below)

  pub trie_growth-appended : trie_growth (followed_by p more) ≡ trie_growth p ++ flat_map (growth_for (followed_by p more)) (range_with_len (length p.words) (length more))
  trie_growth-appended =
      let new = growth_for (followed_by p more) in
      let all = length p.words in
      ap (λ (n : ℕ). first_growth ++ flat_map new (range_with_len 0 n)) (length-append p.words more)
      ∙ ap (λ (ks : List ℕ). first_growth ++ flat_map new ks) (range_with_len-add 0 all (length more))
      ∙ ap (λ (l : List Growth). first_growth ++ l) (flat_map-append new (range_with_len 0 all) (range_with_len (0 + all) (length more)))
      ∙ ap (λ (l : List Growth). first_growth ++ (l ++ flat_map new (range_with_len (0 + all) (length more)))) (flat_map_range-same new (growth_for p) 0 all (λ k less. growth_for-appended k (omega (arith, less))))
      ∙ sym (append_assoc first_growth (flat_map (growth_for p) (range_with_len 0 all)) (flat_map new (range_with_len (0 + all) (length more))))
      ∙ ap (λ (n : ℕ). trie_growth p ++ flat_map new (range_with_len n (length more))) (let same : 0 + all ≡ all = omega arith in same)

module _ (settings : Settings) where
  abbrev limits : Limits
  limits = in_force settings

  pub find-after : (xs ys : List Growth) → find (is_refused settings) xs ≡ None → find (is_refused settings) (xs ++ ys) ≡ find (is_refused settings) ys
  find-after xs ys none = find-append (is_refused settings) xs ys ∙ ap (λ (o : Option Growth). option_or o (find (is_refused settings) ys)) none

  pub find-first : (xs ys : List Growth) (g : Growth) → find (is_refused settings) xs ≡ Some g → find (is_refused settings) (xs ++ ys) ≡ Some g
  find-first xs ys g some = find-append (is_refused settings) xs ys ∙ ap (λ (o : Option Growth). option_or o (find (is_refused settings) ys)) some

  -- what is refused of the first patterns is refused of any that follow them
  pub trie_cause-longer : (p : Patterns) (more : List (List ℕ)) (g : Growth) → find (is_refused settings) (trie_growth p) ≡ Some g → find (is_refused settings) (trie_growth (followed_by p more)) ≡ Some g
  trie_cause-longer p more g some =
      ap (find (is_refused settings)) (trie_growth-appended p more)
      ∙ find-first (trie_growth p) (flat_map (growth_for (followed_by p more)) (range_with_len (length p.words) (length more))) g some

  cause-longer : (p : Patterns) (more : List (List ℕ)) (g : Growth) → find (is_refused settings) (trie_growth p) ≡ Some g → cause settings (followed_by p more) ≡ Some g
  unfolding growth
  cause-longer p more g some = find-first (trie_growth (followed_by p more)) _ g (trie_cause-longer p more g some)

  pub IsCause-found : (p : Patterns) (g : Growth) → find (is_refused settings) (trie_growth p) ≡ Some g → IsCause settings p g
  IsCause-found p g some = record { first = some; longer = λ more. cause-longer p more g some }

  -- a table that grows within the limit, and one that grows past it
  pub entries_from-within : (size added : ℕ) → size + added ≤ limits.id + 1 → find (is_refused settings) (entries_from size added) ≡ None
  entries_from-within size zero within = refl
  entries_from-within size (suc added) within =
      ap (λ (b : Bool). cond b (Some (TableIndex size)) (find (is_refused settings) (entries_from (size + 1) added))) (le-ltb limits.id size (omega arith))
      ∙ entries_from-within (size + 1) added (omega arith)

  pub entries_from-past : (size added : ℕ) → size ≤ limits.id + 1 → limits.id + 1 < size + added → find (is_refused settings) (entries_from size added) ≡ Some (TableIndex (limits.id + 1))
  entries_from-past size zero within past = absurd (omega arith)
  entries_from-past size (suc added) within past =
      elim (cases_lt limits.id size) [
        | inl above ↦
            (let same : size ≡ limits.id + 1 = omega arith in
            ap (λ (b : Bool). cond b (Some (TableIndex size)) (find (is_refused settings) (entries_from (size + 1) added))) (lt-ltb limits.id size above)
            ∙ ap (λ (n : ℕ). Some (TableIndex n)) same)
        | inr below ↦
            ap (λ (b : Bool). cond b (Some (TableIndex size)) (find (is_refused settings) (entries_from (size + 1) added))) (le-ltb limits.id size below)
            ∙ entries_from-past (size + 1) added (omega arith) (omega arith)
      ]

  -- rows that start within the limit, and the first one past it
  rows-within : (start : ℕ → ℕ) (a n : ℕ) → ((row : ℕ) → row < a + n → start row ≤ limits.id) → find (is_refused settings) (map (λ row. TableIndex (start row)) (range_with_len a n)) ≡ None
  rows-within start a zero within = refl
  rows-within start a (suc n) within =
      ap (λ (b : Bool). cond b (Some (TableIndex (start a))) (find (is_refused settings) (map (λ row. TableIndex (start row)) (range_with_len (a + 1) n)))) (le-ltb limits.id (start a) (within a (omega arith)))
      ∙ rows-within start (a + 1) n (λ row less. within row (omega (arith, less)))

  rows-past : (start : ℕ → ℕ) (a n row : ℕ) → a ≤ row → row < a + n → limits.id < start row → ((earlier : ℕ) → earlier < row → start earlier ≤ limits.id)
      → find (is_refused settings) (map (λ row. TableIndex (start row)) (range_with_len a n)) ≡ Some (TableIndex (start row))
  rows-past start a zero row least below past earlier = absurd (omega arith)
  rows-past start a (suc n) row least below past earlier =
      elim (cases_eq a row) [
        | inl here ↦
            ap (λ (b : Bool). cond b (Some (TableIndex (start a))) (find (is_refused settings) (map (λ k. TableIndex (start k)) (range_with_len (a + 1) n))))
            (ap (λ (k : ℕ). nat_lt limits.id (start k)) here ∙ lt-ltb limits.id (start row) past)
            ∙ ap (λ (k : ℕ). Some (TableIndex (start k))) here
        | inr later ↦
            (let before : a < row = omega arith in
            ap (λ (b : Bool). cond b (Some (TableIndex (start a))) (find (is_refused settings) (map (λ k. TableIndex (start k)) (range_with_len (a + 1) n)))) (le-ltb limits.id (start a) (earlier a before))
            ∙ rows-past start (a + 1) n row (omega arith) (omega arith) past earlier)
      ]

  rows-first : (start : ℕ → ℕ) (n row : ℕ) → row < n → limits.id < start row → ((earlier : ℕ) → earlier < row → start earlier ≤ limits.id)
      → find (is_refused settings) (map (λ row. TableIndex (start row)) (range_with_len 0 n)) ≡ Some (TableIndex (start row))
  rows-first start n row below past earlier = rows-past start 0 n row (omega arith) (omega arith) past earlier

  rows-none : (start : ℕ → ℕ) (n : ℕ) → ((row : ℕ) → row < n → start row ≤ limits.id) → find (is_refused settings) (map (λ row. TableIndex (start row)) (range_with_len 0 n)) ≡ None
  rows-none start n within = rows-within start 0 n (λ row less. within row (omega (arith, less)))

  -- once the trie is accepted: the anchored start's matches, then the rows, then the copied matches
  module _ (taken rows : List Growth) (own start total : ℕ) (accepted : find (is_refused settings) taken ≡ None) where
    abbrev later : List Growth
    later = rows ++ entries_from (own + start) (total - (own + start))

    abbrev asked : List Growth
    asked = taken ++ (entries_from own start ++ later)

    find-start : own + start ≤ limits.id + 1 → find (is_refused settings) asked ≡ find (is_refused settings) later
    find-start few = find-after taken (entries_from own start ++ later) accepted ∙ find-after (entries_from own start) later (entries_from-within own start few)

    pub first-start : own ≤ limits.id + 1 → limits.id + 1 < own + start → find (is_refused settings) asked ≡ Some (TableIndex (limits.id + 1))
    first-start room past =
        find-after taken (entries_from own start ++ later) accepted
        ∙ find-first (entries_from own start) later (TableIndex (limits.id + 1)) (entries_from-past own start room past)

    pub first-row : (g : Growth) → own + start ≤ limits.id + 1 → find (is_refused settings) rows ≡ Some g → find (is_refused settings) asked ≡ Some g
    first-row g few found = find-start few ∙ find-first rows (entries_from (own + start) (total - (own + start))) g found

    pub first-copied : own + start ≤ limits.id + 1 → find (is_refused settings) rows ≡ None → limits.id + 1 < total → find (is_refused settings) asked ≡ Some (TableIndex (limits.id + 1))
    first-copied few none past =
        find-start few ∙ find-after rows (entries_from (own + start) (total - (own + start))) none
        ∙ entries_from-past (own + start) (total - (own + start)) few (omega arith)

    pub none-asked : own + start ≤ limits.id + 1 → find (is_refused settings) rows ≡ None → total ≤ limits.id + 1 → find (is_refused settings) asked ≡ None
    none-asked few none within =
        find-start few ∙ find-after rows (entries_from (own + start) (total - (own + start))) none
        ∙ entries_from-within (own + start) (total - (own + start)) (omega arith)

  -- the rows of the patterns start within the limit
  abbrev pub AreRowsWithin : Patterns → Type 0
  AreRowsWithin p = (row : ℕ) → row < rows_size settings.dense_depth p → row * classes_size p + 1 ≤ limits.id

  pub AreRowsWithin-of : (p : Patterns) (limit : ℕ) (borders : List Bool) (count : ℕ) → limit ≡ limits.id → count ≡ rows_size settings.dense_depth p
      → ((row : ℕ) → row_start borders row ≡ row * classes_size p + 1) → AreWithinLimit limit borders count → AreRowsWithin p
  AreRowsWithin-of p limit borders count same counted start within row less =
      subst (λ (n : ℕ). n ≤ limits.id) (start row)
      (subst (λ (n : ℕ). row_start borders row ≤ n) same (within row (subst (λ (n : ℕ). row < n) (sym counted) less)))

  module _ (p : Patterns) (accepted : IsAccepted settings p) where
    rows_none : AreRowsWithin p → find (is_refused settings) (row_growth settings.dense_depth p) ≡ None
    rows_none rows = rows-none (λ row. row * classes_size p + 1) (rows_size settings.dense_depth p) rows

    pub cause-start : own_size p ≤ limits.id + 1 → limits.id + 1 < own_size p + start_size p → cause settings p ≡ Some (TableIndex (limits.id + 1))
    unfolding growth
    cause-start = first-start (trie_growth p) (row_growth settings.dense_depth p) (own_size p) (start_size p) (matches_size p) accepted.none

    pub cause-row : (row : ℕ) → own_size p + start_size p ≤ limits.id + 1 → row < rows_size settings.dense_depth p → limits.id < row * classes_size p + 1
        → ((earlier : ℕ) → earlier < row → earlier * classes_size p + 1 ≤ limits.id) → cause settings p ≡ Some (TableIndex (row * classes_size p + 1))
    unfolding growth
    cause-row row few below past earlier =
        first-row (trie_growth p) (row_growth settings.dense_depth p) (own_size p) (start_size p) (matches_size p) accepted.none (TableIndex (row * classes_size p + 1)) few
        (rows-first (λ row. row * classes_size p + 1) (rows_size settings.dense_depth p) row below past earlier)

    pub cause-past : own_size p + start_size p ≤ limits.id + 1 → AreRowsWithin p → limits.id + 1 < matches_size p → cause settings p ≡ Some (TableIndex (limits.id + 1))
    unfolding growth
    cause-past few rows =
        first-copied (trie_growth p) (row_growth settings.dense_depth p) (own_size p) (start_size p) (matches_size p) accepted.none few (rows_none rows)

    pub cause-within : own_size p + start_size p ≤ limits.id + 1 → AreRowsWithin p → matches_size p ≤ limits.id + 1 → cause settings p ≡ None
    unfolding growth
    cause-within few rows =
        none-asked (trie_growth p) (row_growth settings.dense_depth p) (own_size p) (start_size p) (matches_size p) accepted.none few (rows_none rows)
