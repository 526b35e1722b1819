-- What a state lists, as what ends where it is held.
use Rattle.std.proofs.Common.{◌≡◌, ℕ, zero, suc, ◌+◌, ◌-◌, ◌<◌, ◌≤◌, inl, inr, Bool, true, false, ◌||◌, List, [], ◌∷◌, ◌++◌, map, length, drop, get_or, refl, sym, ◌∙◌, ap, subst, arith, append_assoc}
use Rattle.std.specs.Prelude.{not, slice_index, slice_range}
use Rattle.std.specs.List.{filter, flat_map, list_any, range_with_len}
use Rattle.std.proofs.Math.ListN.{get_or-map}
use Rattle.std.proofs.lemmas.Bool.{cases_Bool, cases_lt, cond-true, cond-false}
use Rattle.std.proofs.lemmas.Bool.Decides.{Decides-eqb}
use Rattle.std.proofs.lemmas.Grind.{flat_map-append}
use Rattle.std.proofs.lemmas.List.{append-nil, length-map, map-append}
use Rattle.std.proofs.lemmas.List.Elements.{All-weaker}
use Rattle.std.proofs.lemmas.List.FromFn.{get_or-range_with_len, length-range_with_len}
use Rattle.std.proofs.lemmas.List.Folds.{list_any_at}
use Rattle.std.proofs.lemmas.Slice.Eq.{bytes_eq-Decides, starts_is}
use Rattle.aho_core.specs.declared.search.Anchored.{Anchored}
use Rattle.aho_core.specs.declared.search.Anchored.TheVariants.{No, Yes}
use Rattle.aho_core.specs.declared.search.MatchKind.{MatchKind}
use Rattle.aho_core.specs.declared.search.MatchKind.TheVariants.{Standard}
use Rattle.aho_core.specs.Bytes.{IsSameWord, folded_word, is_same_word}
use Rattle.aho_core.specs.Laws.{BestAfter, Reads, patterns_ending, told}
use Rattle.aho_core.specs.Occurrence.{Occurrence, occurrence}
use Rattle.aho_core.specs.Occurs.{Occurs}
use Rattle.aho_core.specs.Overlapping.{begins_some, occurrences_at, occurrences_ending}
use Rattle.aho_core.specs.Patterns.{Patterns, numbers, pattern_at}
use Rattle.aho_core.specs.Progress.{StandsAt}
use Rattle.aho_core.specs.Search.{Search}
use Rattle.aho_core.specs.Trie.{begins, pattern_word}
use Rattle.aho_automaton.specs.Overlaps.{ended}
use Rattle.aho_laws.proofs.Ranges.{range_with_len-add}
use Rattle.aho_automaton.proofs.Listing.{ending, ending-ends, filter-all, filter-none, flat_map-nothing}
use Rattle.aho_automaton.proofs.Places.{length_part, no_part, part_join, part_of_part, widened}

-- the number of an occurrence
abbrev number_of : Occurrence → ℕ
number_of m = m.pattern

-- where no number passes none is left
pub none_pass : (test : ℕ → Bool) (a n : ℕ) → ((k : ℕ) → a ≤ k → k < a + n → test k ≡ true → ⊥) → filter test (range_with_len a n) ≡ []
none_pass test a zero none = refl
none_pass test a (suc n) none =
    let rest = filter test (range_with_len (a + 1) n) in
    elim (cases_Bool (test a)) [
      | inl passes ↦ absurd (none a (omega arith) (omega arith) passes)
      | inr fails ↦ cond-false (test a) (a ∷ rest) rest fails ∙ none_pass test (a + 1) n (λ k low high t. none k (omega arith) (omega arith) t)
    ]

-- a number that passes, and none that does
any-of_number : (test : ℕ → Bool) (n k : ℕ) → k < n → test k ≡ true → list_any test (range_with_len 0 n) ≡ true
any-of_number test n k below passes =
    let place : 0 + k ≡ k = omega arith in
    list_any_at test (range_with_len 0 n) k 0 (omega (arith, length-range_with_len 0 n)) (ap test (get_or-range_with_len 0 n k 0 below ∙ place) ∙ passes)

none-of_number : (test : ℕ → Bool) (n k : ℕ) → list_any test (range_with_len 0 n) ≡ false → k < n → test k ≡ true → ⊥
none-of_number test n k none below passes = let clash : true ≡ false = sym (any-of_number test n k below passes) ∙ none in cc

-- what fails a test fails a stronger one
any-fewer : (f g : ℕ → Bool) → ((k : ℕ) → g k ≡ true → f k ≡ true) → (ks : List ℕ) → list_any f ks ≡ false → list_any g ks ≡ false
any-fewer f g weaker [] none = refl
any-fewer f g weaker (k ∷ ks) none =
    elim (cases_Bool (f k)) [
      | inl passes ↦ (let clash : true ≡ false = sym (ap (λ (b : Bool). b || list_any f ks) passes) ∙ none in cc)
      | inr fails ↦
          (let rest : list_any f ks ≡ false = sym (ap (λ (b : Bool). b || list_any f ks) fails) ∙ none in
          elim (cases_Bool (g k)) [
            | inl t ↦ (let clash : true ≡ false = sym (weaker k t) ∙ fails in cc)
            | inr t ↦ ap (λ (b : Bool). b || list_any g ks) t ∙ any-fewer f g weaker ks rest
          ])
    ]

-- what a longer word begins a shorter one begins
begins-front : (xs ys zs : List ℕ) → begins (xs ++ ys) zs ≡ true → begins xs zs ≡ true
begins-front xs ys zs h =
    (starts_is Decides-eqb zs xs (begins xs zs) refl).1 (ys ++ drop (length (xs ++ ys)) zs)
    ((starts_is Decides-eqb zs (xs ++ ys) (begins (xs ++ ys) zs) refl).0 h ∙ append_assoc xs ys (drop (length (xs ++ ys)) zs))

module _ (p : Patterns) where
  -- the words that pass the test are as long
  same_length : (xs ys : List ℕ) → is_same_word p xs ys ≡ true → length xs ≡ length ys
  same_length xs ys h =
      let same : folded_word p xs ≡ folded_word p ys = (bytes_eq-Decides (folded_word p xs) (folded_word p ys)).0 h in
      sym (length-map xs _) ∙ ap length same ∙ length-map ys _

  -- a word that begins no pattern goes on as one that begins none
  begins_some-longer : (word rest : List ℕ) → begins_some p word ≡ false → begins_some p (word ++ rest) ≡ false
  begins_some-longer word rest none =
      any-fewer (λ number. begins (folded_word p word) (pattern_word p number)) (λ number. begins (folded_word p (word ++ rest)) (pattern_word p number))
      (λ k h. begins-front (folded_word p word) (folded_word p rest) (pattern_word p k)
      (subst (λ (w : List ℕ). begins w (pattern_word p k) ≡ true) (map-append _ word rest) h))
      (numbers p) none

  module _ (haystack : List ℕ) where
    -- the test of a pattern at a range
    abbrev pub Test : ℕ → ℕ → ℕ → Bool
    Test from end number = is_same_word p (pattern_at p number) (slice_range haystack from end)

    -- a pattern that passes is as long as its range
    pub as_long : (from end k : ℕ) → end ≤ length haystack → Test from end k ≡ true → length (pattern_at p k) ≡ end - from
    as_long from end k within h = same_length (pattern_at p k) (slice_range haystack from end) h ∙ length_part haystack from end within

    -- it occurs there
    occurs_at : (start from end upto k : ℕ) → start ≤ from → from ≤ end → end ≤ upto → end ≤ length haystack → k < length p.words → Test from end k ≡ true → Occurs p No haystack start upto (occurrence from end k)
    occurs_at start from end upto k low ordered high within below h = record {
      numbered = below;
      after_start = low;
      before_end = high;
      sized = omega (arith, as_long from end k within h);
      same = (bytes_eq-Decides (folded_word p (pattern_at p k)) (folded_word p (slice_range haystack from end))).0 h;
      admitted = λ e. cc;
    }

    -- nothing occurs at a range where no pattern passes
    nothing_at : (from end : ℕ) → ((k : ℕ) → k < length p.words → Test from end k ≡ true → ⊥) → occurrences_at p haystack from end ≡ []
    nothing_at from end none = ap (map (occurrence from end)) (none_pass (Test from end) 0 (length p.words) (λ k low high h. none k (omega arith) h))

    -- the occurrences at a range, from their numbers
    remade : (lengths : List ℕ) (from end a n : ℕ) → lengths ≡ map length p.words → from ≤ end → end ≤ length haystack
        → map (ended lengths end) (map number_of (map (occurrence from end) (filter (Test from end) (range_with_len a n)))) ≡ map (occurrence from end) (filter (Test from end) (range_with_len a n))
    remade lengths from end a zero are ordered within = refl
    remade lengths from end a (suc n) are ordered within =
        let rest = filter (Test from end) (range_with_len (a + 1) n) in
        let again = remade lengths from end (a + 1) n are ordered within in
        elim (cases_Bool (Test from end a)) [
          | inl passes ↦
              (let long : slice_index lengths a ≡ end - from = ap (λ (xs : List ℕ). get_or xs a 0) are ∙ get_or-map length p.words a [] ∙ as_long from end a within passes in
              let begin : end - slice_index lengths a ≡ from = omega arith in
              subst (λ (ks : List ℕ). map (ended lengths end) (map number_of (map (occurrence from end) ks)) ≡ map (occurrence from end) ks)
              (sym (cond-true (Test from end a) (a ∷ rest) rest passes))
              (ap (λ (x : ℕ). occurrence x end a ∷ map (ended lengths end) (map number_of (map (occurrence from end) rest))) begin ∙ ap (λ ms. occurrence from end a ∷ ms) again))
          | inr fails ↦
              subst (λ (ks : List ℕ). map (ended lengths end) (map number_of (map (occurrence from end) ks)) ≡ map (occurrence from end) ks)
              (sym (cond-false (Test from end a) (a ∷ rest) rest fails)) again
        ]

    -- and those of a range of places
    remade_ending : (lengths : List ℕ) (end a n : ℕ) → lengths ≡ map length p.words → a + n ≤ end + 1 → end ≤ length haystack
        → map (ended lengths end) (map number_of (flat_map (λ at. occurrences_at p haystack at end) (range_with_len a n))) ≡ flat_map (λ at. occurrences_at p haystack at end) (range_with_len a n)
    remade_ending lengths end a zero are below within = refl
    remade_ending lengths end a (suc n) are below within =
        let here = occurrences_at p haystack a end in
        let rest = flat_map (λ at. occurrences_at p haystack at end) (range_with_len (a + 1) n) in
        ap (map (ended lengths end)) (map-append number_of here rest)
        ∙ map-append (ended lengths end) (map number_of here) (map number_of rest)
        ∙ ap (λ ms. ms ++ map (ended lengths end) (map number_of rest)) (remade lengths a end 0 (length p.words) are (omega arith) within)
        ∙ ap (λ ms. here ++ ms) (remade_ending lengths end (a + 1) n are (omega arith) within)

    -- the numbers of what ends a part are those of what ends there in the whole
    part_numbers : (start at from : ℕ) → start ≤ at → at ≤ length haystack → from ≤ at - start
        → map number_of (occurrences_at p (slice_range haystack start at) from (at - start)) ≡ map number_of (occurrences_at p haystack (start + from) at)
    part_numbers start at from low within inside =
        map-occurrence from (at - start) (filter (λ number. is_same_word p (pattern_at p number) (slice_range (slice_range haystack start at) from (at - start))) (numbers p))
        ∙ ap (λ (bytes : List ℕ). filter (λ number. is_same_word p (pattern_at p number) bytes) (numbers p)) (part_of_part haystack start at from (at - start) (start + from) at refl (omega arith) inside (omega arith))
        ∙ sym (map-occurrence (start + from) at (filter (Test (start + from) at) (numbers p)))
      where
        map-occurrence : (x y : ℕ) (ks : List ℕ) → map number_of (map (occurrence x y) ks) ≡ ks
        map-occurrence x y [] = refl
        map-occurrence x y (k ∷ ks) = ap (λ (xs : List ℕ). k ∷ xs) (map-occurrence x y ks)

    part_ending : (start at a b n : ℕ) → start ≤ at → at ≤ length haystack → b ≡ start + a → a + n ≤ at - start + 1
        → map number_of (flat_map (λ from. occurrences_at p (slice_range haystack start at) from (at - start)) (range_with_len a n)) ≡ map number_of (flat_map (λ from. occurrences_at p haystack from at) (range_with_len b n))
    part_ending start at a b zero low within place inside = refl
    part_ending start at a b (suc n) low within place inside =
        let part = slice_range haystack start at in
        map-append number_of (occurrences_at p part a (at - start)) (flat_map (λ from. occurrences_at p part from (at - start)) (range_with_len (a + 1) n))
        ∙ ap (λ ks. ks ++ map number_of (flat_map (λ from. occurrences_at p part from (at - start)) (range_with_len (a + 1) n)))
        (part_numbers start at a low within (omega arith) ∙ ap (λ (x : ℕ). map number_of (occurrences_at p haystack x at)) (sym place))
        ∙ ap (λ ks. map number_of (occurrences_at p haystack b at) ++ ks) (part_ending start at (a + 1) (b + 1) n low within (omega arith) (omega arith))
        ∙ sym (map-append number_of (occurrences_at p haystack b at) (flat_map (λ from. occurrences_at p haystack from at) (range_with_len (b + 1) n)))

    -- the patterns that end a part
    patterns_of_part : (start at : ℕ) → start ≤ at → at ≤ length haystack → patterns_ending p (slice_range haystack start at) ≡ map number_of (occurrences_ending p haystack start at)
    patterns_of_part start at low within =
        let count : at - start + 1 - 0 ≡ at + 1 - start = omega arith in
        let size : length (slice_range haystack start at) ≡ at - start = length_part haystack start at within in
        ap (λ (n : ℕ). map number_of (occurrences_ending p (slice_range haystack start at) 0 n)) size
        ∙ ap (λ (n : ℕ). map number_of (flat_map (λ from. occurrences_at p (slice_range haystack start at) from (at - start)) (range_with_len 0 n))) count
        ∙ part_ending start at 0 start (at + 1 - start) low within (omega arith) (omega arith)

    -- nothing that ends here starts before the origin
    from_origin : (start origin at : ℕ) → start ≤ origin → origin ≤ at → at ≤ length haystack
        → ((m : Occurrence) → Occurs p No haystack start at m → m.start < origin → m.end < origin)
        → occurrences_ending p haystack start at ≡ occurrences_ending p haystack origin at
    from_origin start origin at low high within apart =
        let count : at + 1 - start ≡ (origin - start) + (at + 1 - origin) = omega arith in
        let place : start + (origin - start) ≡ origin = omega arith in
        let at_each : ℕ → List Occurrence = λ from. occurrences_at p haystack from at in
        ap (λ (n : ℕ). flat_map at_each (range_with_len start n)) count
        ∙ ap (flat_map at_each) (range_with_len-add start (origin - start) (at + 1 - origin))
        ∙ flat_map-append at_each (range_with_len start (origin - start)) (range_with_len (start + (origin - start)) (at + 1 - origin))
        ∙ ap (λ (x : ℕ). flat_map at_each (range_with_len start (origin - start)) ++ flat_map at_each (range_with_len x (at + 1 - origin))) place
        ∙ ap (λ ms. ms ++ flat_map at_each (range_with_len origin (at + 1 - origin)))
        (flat_map-nothing at_each start (origin - start) (λ from least most.
        nothing_at from at (λ k below h.
        let ends_sooner = apart (occurrence from at k) (occurs_at start from at at k least (omega arith) (omega arith) within below h) (omega arith) in
        omega (arith, ends_sooner))))

    -- where nothing that occurs ends, none is listed
    pub nothing_ends : (start at upto : ℕ) → at ≤ upto → at ≤ length haystack → ((m : Occurrence) → Occurs p No haystack start upto m → m.end ≡ at → ⊥) → occurrences_ending p haystack start at ≡ []
    nothing_ends start at upto high within none =
        flat_map-nothing (λ from. occurrences_at p haystack from at) start (at + 1 - start) (λ from least most.
        nothing_at from at (λ k below h. none (occurrence from at k) (occurs_at start from at upto k least (omega arith) high within below h) refl))

module _ {p : Patterns} {kind : MatchKind} {lengths : List ℕ} {held : Anchored → List ℕ → ℕ → Type 0} {list : ℕ → List ℕ} {dead starts : ℕ → Bool} (laws : Reads p kind lengths held list dead starts) (standard : kind ≡ Standard) where
  -- where the bytes from the start to here begin a pattern, all that ends here is listed
  begins_here : (haystack : List ℕ) (start at : ℕ) → begins_some p (slice_range haystack start at) ≡ true → ending p haystack start Yes at ≡ occurrences_ending p haystack start at
  begins_here haystack start at begins =
      filter-all (λ (m : Occurrence). begins_some p (slice_range haystack start m.end)) (occurrences_ending p haystack start at)
      (All-weaker (λ (m : Occurrence). m.end ≡ at) (λ m. begins_some p (slice_range haystack start m.end) ≡ true) (λ m e. ap (λ (x : ℕ). begins_some p (slice_range haystack start x)) e ∙ begins) (occurrences_ending p haystack start at) (ending-ends p haystack start No at))

  -- and where they begin none, nothing is
  begins_none : (haystack : List ℕ) (start at : ℕ) → begins_some p (slice_range haystack start at) ≡ false → ending p haystack start Yes at ≡ []
  begins_none haystack start at none =
      filter-none (λ (m : Occurrence). begins_some p (slice_range haystack start m.end)) (occurrences_ending p haystack start at)
      (All-weaker (λ (m : Occurrence). m.end ≡ at) (λ m. begins_some p (slice_range haystack start m.end) ≡ false) (λ m e. ap (λ (x : ℕ). begins_some p (slice_range haystack start x)) e ∙ none) (occurrences_ending p haystack start at) (ending-ends p haystack start No at))

  -- what ends at the start is at the range of no bytes there
  at_start_alone : (haystack : List ℕ) (start : ℕ) → occurrences_ending p haystack start start ≡ occurrences_at p haystack start start
  at_start_alone haystack start =
      let one : start + 1 - start ≡ 1 = omega arith in
      ap (λ (n : ℕ). flat_map (λ at. occurrences_at p haystack at start) (range_with_len start n)) one ∙ append-nil (occurrences_at p haystack start start)

  -- before the first byte all that ends here is listed
  begins_at_start : (haystack : List ℕ) (start : ℕ) → start ≤ length haystack → ending p haystack start Yes start ≡ occurrences_ending p haystack start start
  begins_at_start haystack start within =
      elim (cases_Bool (begins_some p (slice_range haystack start start))) [
        | inl some ↦ begins_here haystack start start some
        | inr none ↦
            begins_none haystack start start none
            ∙ sym (at_start_alone haystack start ∙ nothing_at p haystack start start (λ k below h. none-of_number (λ number. begins (folded_word p (slice_range haystack start start)) (pattern_word p number)) (length p.words) k none below (begins_empty k)))
      ]
    where
      begins_empty : (k : ℕ) → begins (folded_word p (slice_range haystack start start)) (pattern_word p k) ≡ true
      begins_empty k = subst (λ (w : List ℕ). begins (folded_word p w) (pattern_word p k) ≡ true) (sym (no_part haystack start)) ((starts_is Decides-eqb (pattern_word p k) [] (begins [] (pattern_word p k)) refl).1 (pattern_word p k) refl)

  -- a search whose start is dead has no pattern there
  dead_at_start : (haystack : List ℕ) (start sid : ℕ) → start ≤ length haystack → dead sid ≡ true → held Yes [] sid → occurrences_ending p haystack start start ≡ []
  dead_at_start haystack start sid within is_dead is_held =
      at_start_alone haystack start
      ∙ nothing_at p haystack start start
      (λ k below h.
      let empty : length (pattern_at p k) ≡ 0 = omega (arith, as_long p haystack start start k within h) in
      let nothing : slice_range haystack start start ≡ [] = no_part haystack start in
      subst (λ (ks : List ℕ). BestAfter p Yes [] (told lengths Yes 0 0 ks)) (laws.dead_lists_none sid is_dead) (laws.at_start Yes sid is_held) (occurrence 0 0 k)
      (record {
        numbered = below;
        after_start = omega arith;
        before_end = omega arith;
        sized = omega arith;
        same = subst (λ (w : List ℕ). IsSameWord p (pattern_at p k) w) nothing ((bytes_eq-Decides (folded_word p (pattern_at p k)) (folded_word p (slice_range haystack start start))).0 h);
        admitted = λ e. refl;
      }))

  -- the matches of the patterns that end a part are what ends there
  listed_part : (haystack : List ℕ) (origin at : ℕ) (ks : List ℕ) → origin ≤ at → at ≤ length haystack → ks ≡ patterns_ending p (slice_range haystack origin at) → map (ended lengths at) ks ≡ occurrences_ending p haystack origin at
  listed_part haystack origin at ks low within are =
      ap (map (ended lengths at)) (are ∙ patterns_of_part p haystack origin at low within)
      ∙ remade_ending p haystack lengths at origin (at + 1 - origin) laws.lengths_are (omega arith) within

  -- the word after at least one byte
  dead_is_none : (haystack : List ℕ) (start at sid : ℕ) → start < at → at ≤ length haystack → held Yes (slice_range haystack start at) sid → dead sid ≡ not (begins_some p (slice_range haystack start at))
  dead_is_none haystack start at sid less within is_held = by_word (slice_range haystack start at) (omega (arith, length_part haystack start at within)) is_held
    where
      by_word : (w : List ℕ) → 0 < length w → held Yes w sid → dead sid ≡ not (begins_some p w)
      by_word [] some is_held = absurd (omega arith)
      by_word (byte ∷ w) some is_held = laws.anchored_dead byte w sid standard is_held

  from_not : (b : Bool) → false ≡ not b → b ≡ true
  from_not true h = refl
  from_not false h = cc

  from_not_true : (b : Bool) → true ≡ not b → b ≡ false
  from_not_true true h = cc
  from_not_true false h = refl

  -- the states of an anchored search
  listed_anchored : (haystack : List ℕ) (start at sid : ℕ) → start ≤ at → at ≤ length haystack → held Yes (slice_range haystack start at) sid → map (ended lengths at) (list sid) ≡ ending p haystack start Yes at
  listed_anchored haystack start at sid low within is_held =
      elim (cases_Bool (dead sid)) [
        | inl is_dead ↦
            ap (map (ended lengths at)) (laws.dead_lists_none sid is_dead)
            ∙ sym (elim (cases_lt start at) [
              | inl less ↦ begins_none haystack start at (from_not_true _ (sym is_dead ∙ dead_is_none haystack start at sid less within is_held))
              | inr ge ↦
                  (let same : at ≡ start = omega arith in
                  let first : held Yes [] sid = subst (λ (w : List ℕ). held Yes w sid) (ap (slice_range haystack start) same ∙ no_part haystack start) is_held in
                  ap (ending p haystack start Yes) same ∙ begins_at_start haystack start (omega arith) ∙ dead_at_start haystack start sid (omega arith) is_dead first)
            ])
        | inr alive ↦
            listed_part haystack start at (list sid) low within (laws.anchored_lists (slice_range haystack start at) sid standard is_held alive)
            ∙ sym (elim (cases_lt start at) [
              | inl less ↦ begins_here haystack start at (from_not _ (sym alive ∙ dead_is_none haystack start at sid less within is_held))
              | inr ge ↦ (let same : start ≡ at = omega arith in subst (λ (x : ℕ). ending p haystack start Yes x ≡ occurrences_ending p haystack start x) same (begins_at_start haystack start (omega arith)))
            ])
      ]

  -- what the state lists is what ends where it stands
  pub lists_here : (valid : ℕ → Type 0) (search : Search) (sid at : ℕ) → search.end ≤ length search.haystack → StandsAt valid held p search sid at
      → map (ended lengths at) (list sid) ≡ ending p search.haystack search.start search.anchored at
  lists_here valid search sid at within s = by_anchored search.anchored refl
    where
      by_anchored : (anchored : Anchored) → search.anchored ≡ anchored → map (ended lengths at) (list sid) ≡ ending p search.haystack search.start anchored at
      by_anchored No is =
          listed_part search.haystack s.origin at (list sid) s.before_place (omega (arith, s.in_span)) (laws.lists (slice_range search.haystack s.origin at) sid standard (subst (λ (a : Anchored). held a (slice_range search.haystack s.origin at) sid) is s.is_held))
          ∙ sym (from_origin p search.haystack search.start s.origin at s.after_start s.before_place (omega (arith, s.in_span)) (λ m o sooner. s.apart m (widened p No search.haystack search.start at search.end m s.in_span o) sooner))
      by_anchored Yes is =
          listed_anchored search.haystack search.start at sid (omega (arith, s.after_start, s.before_place)) (omega (arith, s.in_span))
          (subst (λ (x : ℕ). held Yes (slice_range search.haystack x at) sid) (s.from_start is) (subst (λ (a : Anchored). held a (slice_range search.haystack s.origin at) sid) is s.is_held))

  -- where it lists nothing, none is listed there
  pub nothing_here : (valid : ℕ → Type 0) (search : Search) (sid at : ℕ) → search.end ≤ length search.haystack → StandsAt valid held p search sid at → list sid ≡ []
      → ending p search.haystack search.start search.anchored at ≡ []
  nothing_here valid search sid at within s nothing = sym (lists_here valid search sid at within s) ∙ ap (map (ended lengths at)) nothing

  -- where an anchored search is dead, nothing that is listed ends there or later
  pub dead_ends : (valid : ℕ → Type 0) (search : Search) (sid at end : ℕ) → search.end ≤ length search.haystack → search.anchored ≡ Yes → search.start < at → StandsAt valid held p search sid at → dead sid ≡ true
      → at ≤ end → end ≤ search.end → ending p search.haystack search.start search.anchored end ≡ []
  dead_ends valid search sid at end within is_anchored less s is_dead low high =
      let is_held : held Yes (slice_range search.haystack search.start at) sid =
      subst (λ (x : ℕ). held Yes (slice_range search.haystack x at) sid) (s.from_start is_anchored) (subst (λ (a : Anchored). held a (slice_range search.haystack s.origin at) sid) is_anchored s.is_held) in
      let none_here : begins_some p (slice_range search.haystack search.start at) ≡ false =
      from_not_true _ (sym is_dead ∙ dead_is_none search.haystack search.start at sid less (omega (arith, s.in_span)) is_held) in
      ap (λ (a : Anchored). ending p search.haystack search.start a end) is_anchored
      ∙ begins_none search.haystack search.start end
      (ap (begins_some p) (part_join search.haystack search.start at end (omega arith) low)
      ∙ begins_some-longer p (slice_range search.haystack search.start at) (slice_range search.haystack at end) none_here)
