-- Where the sizes of the patterns are small enough, the limits refuse nothing.
use Rattle.std.proofs.Common.{add-mul, mul-le-mul_right, mul_comm, ◌≡◌, ◌⊎◌, ℕ, zero, suc, min, ◌+◌, ◌*◌, ◌-◌, ◌<◌, ◌≤◌, Bool, true, false, not, ◌&&◌, cond, nat_eq, nat_lt, nat_le, List, [], ◌∷◌, ◌++◌, map, length, take, get_or, find, filter, count_by, sum_by, Some, None, refl, sym, ap, subst, ◌∙◌, inl, inr, arith}
use Rattle.std.specs.List.{flat_map, list_any, range_with_len}
use Rattle.std.proofs.lemmas.Bool.{and_parts, cases_Bool, eqb-true, le-ltb, ltb-false, not-true}
use Rattle.std.proofs.lemmas.List.{length-append, length-map, length-take-le}
use Rattle.std.proofs.lemmas.List.Filters.{sum_by-filter_both}
use Rattle.std.proofs.lemmas.List.Folds.{fold-map}
use Rattle.std.proofs.lemmas.List.FromFn.{length-range_with_len}
use Rattle.std.proofs.lemmas.List.Sums.{count_by-le-length, length-filter, sum_by-append, sum_by-cons, sum_by-le, sum_by-take-le, sum_by_more}
use Rattle.std.proofs.lemmas.Nat.{mul-le}
use Rattle.aho_core.specs.Bytes.{folded}
use Rattle.aho_core.specs.Listing.{IsMember}
use Rattle.aho_core.specs.MatchList.{matches_of}
use Rattle.aho_core.specs.Patterns.{Patterns, numbers, pattern_at}
use Rattle.aho_core.specs.Trie.{begins, is_kept, pattern_word}
use Rattle.aho_laws.proofs.Kept.{is_node-root}
use Rattle.aho_build.specs.Dense.{classes_size, is_near, is_parted_among, rows_size}
use Rattle.aho_build.specs.Refusals.{IsAccepted, PatternLength, PatternNumber, cause, entries_from, first_growth, growth_for, growth_for_kept, is_refused}
use Rattle.aho_build.specs.Settings.{in_force}
use Rattle.aho_build.specs.Sizes.{bytes_leading_to, kept_before, matches_size, new_nodes, nodes, nodes_before, transitions_for}
use Rattle.aho_build.specs.declared.settings.Limits.{Limits}
use Rattle.aho_build.specs.declared.settings.Settings.{Settings}
use Rattle.aho_build.proofs.EachNode.{nodes-members}
use Rattle.aho_build.proofs.NodesInOrder.{nodes_before-kept, nodes_before-left_out}
use Rattle.aho_build.proofs.RefusedGrowths.{AreRowsWithin, cause-within, entries_from-within, find-after}
use Rattle.chromesquid.specs.Fitting.{FitLimits, total_bytes}

-- ---- sums and counts

sum_by-filter-le : {X : Type 0} (weight : X → ℕ) (test : X → Bool) (xs : List X) → sum_by weight (filter test xs) ≤ sum_by weight xs
sum_by-filter-le weight test xs = omega (arith, sum_by-filter_both test (λ x. not (test x)) (λ x. refl) weight xs)

-- a sum over members that each weigh no more than so much
sum_by-members-le : (weight : List ℕ → ℕ) (most : ℕ) (words : List (List ℕ)) → ((word : List ℕ) → IsMember words word → weight word ≤ most) → sum_by weight words ≤ length words * most
sum_by-members-le weight most [] each = omega arith
sum_by-members-le weight most (word ∷ words) each =
    let first : weight word ≤ most = each word (inl refl) in
    let rest = sum_by-members-le weight most words (λ other member. each other (inr member)) in
    omega (arith, sum_by-cons weight word words, first, rest)

abbrev one_where : Bool → ℕ
one_where passes = cond passes 1 0

one_where-le : (b : Bool) → one_where b ≤ 1
one_where-le true = omega arith
one_where-le false = omega arith

-- what passes is no greater than this
count_by-low : (test : ℕ → Bool) (most a n : ℕ) → ((k : ℕ) → a ≤ k → k < a + n → test k ≡ true → k ≤ most) → count_by test (range_with_len a n) ≤ most + 1 - a
count_by-low test most a zero low = omega arith
count_by-low test most a (suc n) low =
    let count = sum_by-cons (λ (k : ℕ). cond (test k) 1 0) a (range_with_len (a + 1) n) in
    let rest = count_by-low test most (a + 1) n (λ k least less passes. low k (omega (arith, least)) (omega (arith, less)) passes) in
    elim (cases_Bool (test a)) [
      | inl passes ↦ omega (arith, count, rest, ap one_where passes, low a (omega arith) (omega arith) passes)
      | inr fails ↦ omega (arith, count, rest, ap one_where fails)
    ]

-- what passes is this number, or is so by 32
count_by-two : (test : ℕ → Bool) (c a n : ℕ) → ((k : ℕ) → test k ≡ true → (k ≡ c) ⊎ (k + 32 ≡ c)) → count_by test (range_with_len a n) ≤ min 1 (c + 1 - a) + min 1 (c + 1 - (a + 32))
count_by-two test c a zero two = omega arith
count_by-two test c a (suc n) two =
    let count = sum_by-cons (λ (k : ℕ). cond (test k) 1 0) a (range_with_len (a + 1) n) in
    let rest = count_by-two test c (a + 1) n two in
    elim (cases_Bool (test a)) [
      | inl passes ↦
          elim (two a passes) [
            | inl here ↦ omega (arith, count, rest, ap one_where passes, here)
            | inr above ↦ omega (arith, count, rest, ap one_where passes, above)
          ]
      | inr fails ↦ omega (arith, count, rest, ap one_where fails)
    ]

count_by-two_le : (test : ℕ → Bool) (c n : ℕ) → ((k : ℕ) → test k ≡ true → (k ≡ c) ⊎ (k + 32 ≡ c)) → count_by test (range_with_len 0 n) ≤ 2
count_by-two_le test c n two = omega (arith, count_by-two test c 0 n two)

count_by-range-le : (test : ℕ → Bool) (n : ℕ) → count_by test (range_with_len 0 n) + 1 ≤ n + 1
count_by-range-le test n = omega (arith, count_by-le-length test (range_with_len 0 n), length-range_with_len 0 n)

-- a row that is not the last starts within what the rows take
row_within : (row rows few classes limit : ℕ) → row < rows → rows ≤ 2 + few → classes ≤ 256 → (few + 2) * 256 ≤ limit → row * classes + 1 ≤ limit
row_within row rows few classes limit below counted narrow room =
    let product : row * classes ≤ (few + 1) * 256 = mul-le row classes (few + 1) 256 (omega arith) narrow in
    omega arith

module _ (p : Patterns) where
  -- ---- nodes and kept patterns

  kept-le : (number : ℕ) → length (kept_before p number) ≤ number
  kept-le number =
      omega (arith, length-filter (is_kept p) (range_with_len 0 number), count_by-le-length (is_kept p) (range_with_len 0 number), length-range_with_len 0 number)

  -- the new nodes of a pattern are among its fronts
  new_nodes-le : (weight : List ℕ → ℕ) (number : ℕ) → sum_by weight (new_nodes p number) ≤ sum_by (λ size. weight (take size (pattern_word p number))) (range_with_len 1 (length (pattern_word p number)))
  new_nodes-le weight number =
      let word = pattern_word p number in
      let sizes = range_with_len 1 (length word) in
      omega (
        arith,
        sum_by-filter-le weight (λ front. not (list_any (λ earlier. begins front (pattern_word p earlier)) (kept_before p number))) (map (λ size. take size word) sizes),
        fold-map (λ (sum : ℕ) (front : List ℕ). sum + weight front) (λ (size : ℕ). take size word) 0 sizes,
      )

  pattern_word-length : (number : ℕ) → length (pattern_word p number) ≡ length (pattern_at p number)
  unfolding pattern_word
  pattern_word-length number = length-map (pattern_at p number) (folded p)

  -- so whatever they weigh, all nodes weigh no more than their patterns are allowed
  module _ (weight allowed : List ℕ → ℕ) (each : (number : ℕ) → sum_by weight (new_nodes p number) ≤ allowed (pattern_at p number)) where
    nodes_before-le : (number : ℕ) → number ≤ length p.words → sum_by weight (nodes_before p number) ≤ sum_by allowed (take number p.words)
    nodes_before-le zero within = omega arith
    nodes_before-le (suc number) within =
        let next : suc number ≡ number + 1 = omega arith in
        subst (λ (n : ℕ). sum_by weight (nodes_before p n) ≤ sum_by allowed (take n p.words)) (sym next) (omega (arith, here, nodes_before-le number (omega arith), more))
      where
        more : sum_by allowed (take (number + 1) p.words) ≡ sum_by allowed (take number p.words) + allowed (pattern_at p number)
        more = sum_by_more allowed p.words number [] (omega arith)

        here : sum_by weight (nodes_before p (number + 1)) ≤ sum_by weight (nodes_before p number) + allowed (pattern_at p number)
        here =
            elim (cases_Bool (is_kept p number)) [
              | inl kept ↦ omega (arith, ap (sum_by weight) (nodes_before-kept p number kept), sum_by-append weight (nodes_before p number) (new_nodes p number), each number)
              | inr left ↦ omega (arith, ap (sum_by weight) (nodes_before-left_out p number left))
            ]

  -- a pattern has no more new nodes than bytes, and no more near ones than the depth
  new_nodes-few : (number : ℕ) → length (new_nodes p number) ≤ length (pattern_at p number)
  new_nodes-few number =
      let word = pattern_word p number in
      let sizes = range_with_len 1 (length word) in
      let fronts = map (λ (size : ℕ). take size word) sizes in
      let is_new = λ (front : List ℕ). not (list_any (λ earlier. begins front (pattern_word p earlier)) (kept_before p number)) in
      omega (
        arith,
        length-filter is_new fronts,
        count_by-le-length is_new fronts,
        length-map sizes (λ (size : ℕ). take size word),
        length-range_with_len 1 (length word),
        pattern_word-length number,
      )

  abbrev near : ℕ → List ℕ → ℕ
  near depth word = cond (is_near depth (length word)) 1 0

  is_near-le : (depth distance : ℕ) → is_near depth distance ≡ true → distance ≤ depth
  is_near-le depth distance h =
      let both = and_parts (nat_lt 0 depth) (not (nat_lt depth distance)) h in
      ltb-false depth distance (not-true (nat_lt depth distance) both.1)

  new_nodes-near : (depth number : ℕ) → sum_by (near depth) (new_nodes p number) ≤ depth
  new_nodes-near depth number =
      let word = pattern_word p number in
      omega (
        arith,
        new_nodes-le (near depth) number,
        count_by-low (λ size. is_near depth (length (take size word))) depth 1 (length word)
            (λ k least less passes. omega (arith, is_near-le depth (length (take k word)) passes, length-take-le k word (omega (arith, less)))),
      )

  -- ---- how large the tables are

  sum_ones : (words : List (List ℕ)) → sum_by (λ (word : List ℕ). 1) words ≡ length words
  sum_ones [] = refl
  sum_ones (word ∷ words) = omega (arith, sum_by-cons (λ (other : List ℕ). 1) word words, sum_ones words)

  nodes_count-le : (number : ℕ) → number ≤ length p.words → length (nodes_before p number) ≤ total_bytes p
  nodes_count-le number within =
      omega (
        arith,
        sum_ones (nodes_before p number),
        nodes_before-le (λ word. 1) length (λ k. omega (arith, sum_ones (new_nodes p k), new_nodes-few k)) number within,
        sum_by-take-le length p.words number,
      )

  near_count-le : (depth : ℕ) → sum_by (near depth) (nodes p) ≤ min (depth * length p.words) (total_bytes p)
  near_count-le depth =
      let all = nodes_before-le (near depth) (λ word. depth) (new_nodes-near depth) (length p.words) (omega arith) in
      let each = sum_by-le (λ (word : List ℕ). depth) depth (take (length p.words) p.words) (λ k d less. omega arith) in
      let product : length (take (length p.words) p.words) * depth ≡ depth * length p.words =
      ap (λ (n : ℕ). n * depth) (length-take-le (length p.words) p.words (omega arith)) ∙ mul_comm (length p.words) depth in
      omega (arith, all, each, product, count_by-le-length (λ (word : List ℕ). is_near depth (length word)) (nodes p), nodes_count-le (length p.words) (omega arith))

  rows_size-le : (depth : ℕ) → rows_size depth p ≤ 2 + min (depth * length p.words) (total_bytes p)
  rows_size-le depth =
      omega (
        arith,
        sum_by-cons (near depth) [] ([] ∷ nodes p),
        sum_by-cons (near depth) [] (nodes p),
        one_where-le (is_near depth 0),
        near_count-le depth,
      )

  classes_size-le : classes_size p ≤ 256
  classes_size-le = count_by-range-le (is_parted_among p (length p.words)) 255

  -- two bytes at most lead to a node
  folded-two : (byte c : ℕ) → nat_eq (folded p byte) c ≡ true → (byte ≡ c) ⊎ (byte + 32 ≡ c)
  folded-two byte c h = by (p.ignore_case && (nat_le 65 byte && nat_le byte 90)) h
    where
      by : (b : Bool) → nat_eq (cond b (byte + 32) byte) c ≡ true → (byte ≡ c) ⊎ (byte + 32 ≡ c)
      by true e = inr (eqb-true (byte + 32) c e)
      by false e = inl (eqb-true byte c e)

  transitions_for-le : (word : List ℕ) → transitions_for p word ≤ 2
  transitions_for-le word = by (nat_lt 1 (length word))
    where
      last : ℕ
      last = get_or word (length word - 1) 0

      by : (b : Bool) → cond b (bytes_leading_to p word) 0 ≤ 2
      by true = count_by-two_le (λ byte. nat_eq (folded p byte) last) last 256 (λ byte h. folded-two byte last h)
      by false = omega arith

  transitions-le : (number : ℕ) → number ≤ length p.words → sum_by (transitions_for p) (nodes_before p number) ≤ 2 * total_bytes p
  transitions-le number within =
      omega (arith, sum_by-le (transitions_for p) 2 (nodes_before p number) (λ k d less. transitions_for-le (get_or (nodes_before p number) k d)), nodes_count-le number within)

  -- ---- what is asked for

  module _ (settings : Settings) (most : ℕ) (fit : FitLimits settings p most) where
    abbrev limits : Limits
    limits = in_force settings

    matches_size-le : matches_size p ≤ 1 + (total_bytes p + 2) * most
    matches_size-le =
        let root : length (matches_of p (Some [])) ≤ most = fit.lists [] (is_node-root p) in
        let listed = sum_by-members-le (λ word. length (matches_of p (Some word))) most (nodes p) (λ word member. fit.lists word ((nodes-members p word).0 member).1) in
        let product : length (nodes p) * most ≤ total_bytes p * most = mul-le-mul_right most (nodes_count-le (length p.words) (omega arith)) in
        let sum : (total_bytes p + 2) * most ≡ total_bytes p * most + 2 * most = add-mul (total_bytes p) 2 most in
        omega (arith, root, listed, product, sum)

    found_kept : (number : ℕ) → number < length p.words → is_kept p number ≡ true → find (is_refused settings) (growth_for_kept p number) ≡ None
    found_kept number below kept =
        let words = nodes_before-kept p number kept in
        let states : (4 + length (nodes_before p number)) + length (new_nodes p number) ≡ 4 + length (nodes_before p (number + 1)) =
        omega (arith, ap length words, length-append (nodes_before p number) (new_nodes p number)) in
        let transitions : (769 + sum_by (transitions_for p) (nodes_before p number)) + sum_by (transitions_for p) (new_nodes p number) ≡ 769 + sum_by (transitions_for p) (nodes_before p (number + 1)) =
        omega (arith, ap (sum_by (transitions_for p)) words, sum_by-append (transitions_for p) (nodes_before p number) (new_nodes p number)) in
        find-after settings
        (entries_from (4 + length (nodes_before p number)) (length (new_nodes p number)))
        (entries_from (769 + sum_by (transitions_for p) (nodes_before p number)) (sum_by (transitions_for p) (new_nodes p number)) ++ entries_from (1 + length (kept_before p number)) 1)
        (entries_from-within settings (4 + length (nodes_before p number)) (length (new_nodes p number))
        (omega (arith, states, nodes_count-le (number + 1) (omega (arith, below)), fit.counts.transitions)))
        ∙ find-after settings (entries_from (769 + sum_by (transitions_for p) (nodes_before p number)) (sum_by (transitions_for p) (new_nodes p number))) (entries_from (1 + length (kept_before p number)) 1)
        (entries_from-within settings (769 + sum_by (transitions_for p) (nodes_before p number)) (sum_by (transitions_for p) (new_nodes p number))
        (omega (arith, transitions, transitions-le (number + 1) (omega (arith, below)), fit.counts.transitions)))
        ∙ entries_from-within settings (1 + length (kept_before p number)) 1 (omega (arith, kept-le number, below, fit.counts.listed))

    found_for : (number : ℕ) → number < length p.words → find (is_refused settings) (growth_for p number) ≡ None
    found_for number below =
        let low : nat_lt limits.pattern number ≡ false = le-ltb limits.pattern number (omega (arith, below, fit.counts.numbers)) in
        let short : nat_lt limits.length (length (pattern_at p number)) ≡ false = le-ltb limits.length (length (pattern_at p number)) (fit.lengths number [] below) in
        let rest = cond (is_kept p number) (growth_for_kept p number) [] in
        ap (λ (b : Bool). cond b (Some (PatternNumber number)) (find (is_refused settings) (PatternLength number (length (pattern_at p number)) ∷ rest))) low
        ∙ ap (λ (b : Bool). cond b (Some (PatternLength number (length (pattern_at p number)))) (find (is_refused settings) rest)) short
        ∙ elim (cases_Bool (is_kept p number)) [
          | inl kept ↦ ap (λ (b : Bool). find (is_refused settings) (cond b (growth_for_kept p number) [])) kept ∙ found_kept number below kept
          | inr left ↦ ap (λ (b : Bool). find (is_refused settings) (cond b (growth_for_kept p number) [])) left
        ]

    found_from : (a n : ℕ) → a + n ≤ length p.words → find (is_refused settings) (flat_map (growth_for p) (range_with_len a n)) ≡ None
    found_from a zero within = refl
    found_from a (suc n) within =
        find-after settings (growth_for p a) (flat_map (growth_for p) (range_with_len (a + 1) n)) (found_for a (omega (arith, within))) ∙ found_from (a + 1) n (omega (arith, within))

    accepted : IsAccepted settings p
    accepted = record {
      none = find-after settings first_growth (flat_map (growth_for p) (numbers p)) (entries_from-within settings 0 769 (omega (arith, fit.counts.transitions)))
          ∙ found_from 0 (length p.words) (omega arith);
    }

    rows_within : AreRowsWithin settings p
    rows_within row less =
        row_within row (rows_size settings.dense_depth p) (min (settings.dense_depth * length p.words) (total_bytes p)) (classes_size p) limits.id
        less (rows_size-le settings.dense_depth) classes_size-le fit.counts.rows

    none_refused : cause settings p ≡ None
    none_refused =
        cause-within settings p accepted
        (omega (arith, kept-le (length p.words), fit.lists [] (is_node-root p), room, fit.counts.listed))
        rows_within
        (omega (arith, matches_size-le, fit.counts.listed))
      where
        room : most ≤ (total_bytes p + 2) * most
        room = omega (arith, add-mul (total_bytes p) 2 most)

pub fit_accepted : (settings : Settings) (p : Patterns) (most : ℕ) → FitLimits settings p most → cause settings p ≡ None
fit_accepted settings p most fit = none_refused p settings most fit
