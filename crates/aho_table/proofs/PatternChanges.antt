-- A list of patterns that grows where it stands, and one that is laid down at the end.
use Rattle.std.proofs.Common.{◌≡◌, ◌≢◌, ℕ, suc, ◌+◌, ◌-◌, ◌<◌, ◌≤◌, ◌⊎◌, true, List, [], ◌∷◌, ◌++◌, length, get_or, replicate, sym, ap, ◌∙◌, inl, inr, arith}
use Rattle.std.proofs.lemmas.Bool.{cases_eq, cases_lt}
use Rattle.std.proofs.lemmas.List.{get_or_past, get_or_append_left, get_or-append-add, get_or-replicate, length-replicate, length-append}
use Rattle.std.proofs.lemmas.Grind.{get_or_default_zero}
use Rattle.std.proofs.Math.Seq.{get_or-append_seam}
use Rattle.aho_core.specs.Numbers.{greatest_index}
use Rattle.aho_table.specs.Words.{room, length_mark, word_at, told_length, length_at, patterns_at, is_closed, laid, HasPatterns, AreLaid, IsLengthened}
use Rattle.aho_table.proofs.Patterns.{told_length-small, told_length-room, told_length-mark, told_length-some, length_at-zero, length_at-some, some_at, place_within, list_within, length-patterns_at, get_or-patterns_at, pattern_small, patterns_are, same_patterns, is_closed-below, closed-below}

-- ---- the list has one pattern more, where there was room behind it

module _ (old new : List ℕ) (count list pattern : ℕ) (are : AreLaid old count) (few : count ≤ greatest_index) (some : 0 < length_at old list)
    (free : word_at old (list + length_at old list) ≡ room) (small : pattern ≤ greatest_index) (longer : IsLengthened old list pattern new) where
  ne : list ≢ 0
  ne = some_at old list some

  own_told : length_at old list ≡ told_length (word_at old (list - 1))
  own_told = length_at-some old list ne

  own_few : length_at old list < count
  own_few = omega (arith, own_told, are.fewer (list - 1))

  own_mark : word_at old (list - 1) ≡ length_mark + length_at old list
  own_mark = omega (arith, own_told, (told_length-some (word_at old (list - 1)) (omega (arith, some, own_told))).1)

  -- what is told then
  told_length-here : told_length (word_at new (list - 1)) ≡ length_at old list + 1
  told_length-here =
      let is : word_at new (list - 1) ≡ length_mark + (length_at old list + 1) = omega (arith, own_mark, longer.mark) in
      ap told_length is ∙ told_length-mark (length_at old list + 1) (omega (arith, own_few, few))

  told_length-end : told_length (word_at new (list + length_at old list)) ≡ told_length (word_at old (list + length_at old list))
  told_length-end = ap told_length longer.added ∙ told_length-small pattern small ∙ sym (ap told_length free ∙ told_length-room)

  told_length-other : (place : ℕ) → place ≢ list - 1 → told_length (word_at new place) ≡ told_length (word_at old place)
  told_length-other place apart =
      elim (cases_eq place (list + length_at old list)) [
        | inl is ↦ ap (λ (i : ℕ). told_length (word_at new i)) is ∙ told_length-end ∙ sym (ap (λ (i : ℕ). told_length (word_at old i)) is)
        | inr off ↦ ap told_length (longer.others place apart off)
      ]

  -- a pattern stays
  stays : (k : ℕ) → word_at old k ≤ greatest_index → word_at new k ≡ word_at old k
  stays k low =
      longer.others k
      (λ is. omega (arith, low, ap (word_at old) is, own_mark))
      (λ is. omega (arith, low, ap (word_at old) is, free))

  behind : (place k : ℕ) → place < k → k ≤ place + told_length (word_at new place) → word_at new k ≤ greatest_index
  behind place k past within =
      elim (cases_eq place (list - 1)) [
        | inl is ↦ elim (cases_eq k (list + length_at old list)) [
          | inl end ↦ omega (arith, small, longer.added, ap (word_at new) end)
          | inr inner ↦
              let told_so = ap (λ (i : ℕ). told_length (word_at new i)) is ∙ told_length-here in
              let low = are.patterns (list - 1) k (omega arith) (omega (arith, ne, own_told, inner)) in
              omega (arith, low, stays k low)
        ]
        | inr apart ↦
            let low = are.patterns place k past (omega (arith, told_length-other place apart)) in
            omega (arith, low, stays k low)
      ]

  pub AreLaid-lengthened : AreLaid new (count + 1)
  AreLaid-lengthened = record {
    patterns = behind;
    fewer = λ place.
        elim (cases_eq place (list - 1)) [
          | inl is ↦ omega (arith, own_few, ap (λ (i : ℕ). told_length (word_at new i)) is, told_length-here)
          | inr apart ↦ omega (arith, told_length-other place apart, are.fewer place)
        ];
  }

  others-len : (other : ℕ) → other ≢ list → length_at new other ≡ length_at old other
  others-len other apart =
      elim (cases_eq other 0) [
        | inl is ↦ ap (length_at new) is ∙ length_at-zero new ∙ sym (ap (length_at old) is ∙ length_at-zero old)
        | inr first ↦ length_at-some new other first ∙ told_length-other (other - 1) (λ is. omega (arith, apart, first, ne)) ∙ sym (length_at-some old other first)
      ]

  others-same : (other : ℕ) → other ≢ list → patterns_at new other ≡ patterns_at old other
  others-same other apart =
      same_patterns old new count (count + 1) other are AreLaid-lengthened (others-len other apart)
      (λ i below. stays (other + i) (pattern_small old count other i are below))

  listed-each : (i : ℕ) → i < length (patterns_at old list ++ pattern ∷ []) → word_at new (list + i) ≡ get_or (patterns_at old list ++ pattern ∷ []) i 0
  listed-each i below =
      let len = length-patterns_at old count list are in
      elim (cases_lt i (length_at old list)) [
        | inl within ↦
            stays (list + i) (pattern_small old count list i are within)
            ∙ sym (get_or-patterns_at old count list i are within)
            ∙ sym (get_or_append_left (patterns_at old list) (pattern ∷ []) 0 i (omega arith))
        | inr above ↦
            let is : i ≡ length_at old list = omega (arith, below, len, length-append (patterns_at old list) (pattern ∷ [])) in
            ap (λ (n : ℕ). word_at new (list + n)) is
            ∙ longer.added
            ∙ sym (get_or-append_seam (patterns_at old list) pattern [] 0)
            ∙ ap (λ (n : ℕ). get_or (patterns_at old list ++ pattern ∷ []) n 0) (len ∙ sym is)
      ]

  listed-len : length_at new list ≡ length (patterns_at old list ++ pattern ∷ [])
  listed-len =
      omega (arith, length_at-some new list ne, told_length-here, length-patterns_at old count list are, length-append (patterns_at old list) (pattern ∷ []))

  stays_below : (k : ℕ) → word_at old k < room → word_at new k < room
  stays_below k below =
      elim (cases_eq k (list - 1)) [
        | inl is ↦ omega (arith, ap (word_at new) is, longer.mark, own_mark, own_few, few)
        | inr apart ↦ elim (cases_eq k (list + length_at old list)) [
          | inl end ↦ absurd (omega (arith, below, ap (word_at old) end, free))
          | inr off ↦ omega (arith, longer.others k apart off, below)
        ]
      ]

  -- the list is not closed
  apart_from : (other : ℕ) → is_closed old other ≡ true → other ≢ list
  apart_from other closed is = omega (arith, closed-below old other closed, ap (λ (n : ℕ). word_at old (n + length_at old n)) is, free)

  others-kept : (other : ℕ) → (other ≢ list) ⊎ (is_closed old other ≡ true) → patterns_at new other ≡ patterns_at old other
  others-kept other (inl apart) = others-same other apart
  others-kept other (inr closed) = others-same other (apart_from other closed)

  others-closed : (other : ℕ) → is_closed old other ≡ true → is_closed new other ≡ true
  others-closed other closed =
      let len = others-len other (apart_from other closed) in
      let below = stays_below (other + length_at old other) (closed-below old other closed) in
      is_closed-below new other (omega (arith, below, ap (λ (n : ℕ). word_at new (other + n)) len))

  pub HasPatterns-lengthened : HasPatterns old new list list (patterns_at old list ++ pattern ∷ [])
  HasPatterns-lengthened = record {
    patterns = patterns_are new (count + 1) list (patterns_at old list ++ pattern ∷ []) AreLaid-lengthened listed-len listed-each;
    some = omega (arith, length-append (patterns_at old list) (pattern ∷ []));
    others = λ other below why. others-kept other why;
    closed = others-closed;
  }

before-next : (n : ℕ) → n + 1 - 1 ≡ n
before-next n = omega arith

next-place : (n i : ℕ) → n + 1 + i ≡ n + suc i
next-place n i = omega arith

-- ---- a list is laid down at the end, and room may follow

module _ (old : List ℕ) (count now : ℕ) (items : List ℕ) (more : ℕ) (are : AreLaid old count) (within : count ≤ now) (fewer : length items < now)
    (few : length items ≤ greatest_index) (small : (i : ℕ) → i < length items → get_or items i 0 ≤ greatest_index) where
  abbrev new : List ℕ
  new = old ++ (laid items ++ replicate more room)

  word-left : (k : ℕ) → k < length old → word_at new k ≡ word_at old k
  word-left k below = get_or_append_left old (laid items ++ replicate more room) room k below

  word-mark : word_at new (length old) ≡ length_mark + length items
  word-mark = get_or-append_seam old (length_mark + length items) (items ++ replicate more room) room

  word-in : (i : ℕ) → i < length items → word_at new (length old + suc i) ≡ get_or items i 0
  word-in i below =
      get_or-append-add old (laid items ++ replicate more room) (suc i) room
      ∙ get_or_append_left items (replicate more room) room i below
      ∙ get_or_default_zero items i room below

  word-room : (j : ℕ) → get_or (replicate more room) j room ≡ room
  word-room j =
      elim (cases_lt j more) [
        | inl below ↦ get_or-replicate more j room room below
        | inr above ↦ get_or_past (replicate more room) j room (omega (arith, length-replicate more room))
      ]

  word-past : (j : ℕ) → word_at new (length old + suc (length items + j)) ≡ room
  word-past j =
      get_or-append-add old (laid items ++ replicate more room) (suc (length items + j)) room
      ∙ get_or-append-add items (replicate more room) j room
      ∙ word-room j

  -- a place is in the old store, tells the new list's length, has one of its patterns, or room
  in_items : (k : ℕ) → length old < k → k ≤ length old + length items → word_at new k ≤ greatest_index
  in_items k past inside =
      let is : k ≡ length old + suc (k - suc (length old)) = omega arith in
      let below : k - suc (length old) < length items = omega arith in
      omega (arith, ap (word_at new) is, word-in (k - suc (length old)) below, small (k - suc (length old)) below)

  told_length-past : (place : ℕ) → length old < place → told_length (word_at new place) ≡ 0
  told_length-past place past =
      elim (cases_lt (length old + length items) place) [
        | inl beyond ↦
            let is : place ≡ length old + suc (length items + (place - suc (length old + length items))) = omega arith in
            ap (λ (i : ℕ). told_length (word_at new i)) is ∙ ap told_length (word-past (place - suc (length old + length items))) ∙ told_length-room
        | inr inside ↦ told_length-small (word_at new place) (in_items place past inside)
      ]

  told_length-mark-here : told_length (word_at new (length old)) ≡ length items
  told_length-mark-here = ap told_length word-mark ∙ told_length-mark (length items) few

  behind-laid : (place k : ℕ) → place < k → k ≤ place + told_length (word_at new place) → word_at new k ≤ greatest_index
  behind-laid place k past inside =
      elim (cases_lt place (length old)) [
        | inl left ↦
            let same = ap told_length (word-left place left) in
            let ends = place_within old count place are (omega arith) in
            omega (arith, word-left k (omega arith), are.patterns place k past (omega arith))
        | inr right ↦ elim (cases_eq place (length old)) [
          | inl is ↦ in_items k (omega arith) (omega (arith, ap (λ (i : ℕ). told_length (word_at new i)) is, told_length-mark-here))
          | inr apart ↦ absurd (omega (arith, apart, told_length-past place (omega (arith, apart))))
        ]
      ]

  pub AreLaid-laid : AreLaid (old ++ (laid items ++ replicate more room)) now
  AreLaid-laid = record {
    patterns = behind-laid;
    fewer = λ place.
        elim (cases_lt place (length old)) [
          | inl left ↦ omega (arith, ap told_length (word-left place left), are.fewer place)
          | inr right ↦ elim (cases_eq place (length old)) [
            | inl is ↦ omega (arith, ap (λ (i : ℕ). told_length (word_at new i)) is, told_length-mark-here)
            | inr apart ↦ omega (arith, told_length-past place (omega (arith, apart)))
          ]
        ];
  }

  same_len : (other : ℕ) → other ≤ length old → length_at new other ≡ length_at old other
  same_len other inside =
      elim (cases_eq other 0) [
        | inl is ↦ ap (length_at new) is ∙ length_at-zero new ∙ sym (ap (length_at old) is ∙ length_at-zero old)
        | inr first ↦ length_at-some new other first ∙ ap told_length (word-left (other - 1) (omega (arith, first))) ∙ sym (length_at-some old other first)
      ]

  laid-others : (other : ℕ) → other ≤ length old → patterns_at new other ≡ patterns_at old other
  laid-others other inside =
      same_patterns old new count now other are AreLaid-laid (same_len other inside)
      (λ i below. word-left (other + i) (omega (arith, below, list_within old count other are (omega arith))))

  laid-closed : (other : ℕ) → is_closed old other ≡ true → is_closed new other ≡ true
  laid-closed other closed =
      let below = closed-below old other closed in
      elim (cases_lt (other + length_at old other) (length old)) [
        | inl inside ↦
            let len = same_len other (omega arith) in
            is_closed-below new other (omega (arith, below, word-left (other + length_at old other) inside, ap (λ (n : ℕ). word_at new (other + n)) len))
        | inr past ↦ absurd (omega (arith, below, get_or_past old (other + length_at old other) room past))
      ]

  laid-patterns : patterns_at new (length old + 1) ≡ items
  laid-patterns =
      patterns_are new now (length old + 1) items AreLaid-laid
      (
      length_at-some new (length old + 1) (λ is. omega arith)
      ∙ ap (λ (i : ℕ). told_length (word_at new i)) (before-next (length old))
      ∙ told_length-mark-here
      )
      (λ i below. ap (word_at new) (next-place (length old) i) ∙ word-in i below)

  pub HasPatterns-laid : (list : ℕ) → 0 < length items → HasPatterns old (old ++ (laid items ++ replicate more room)) list (length old + 1) items
  HasPatterns-laid list some = record {
    patterns = laid-patterns;
    some = some;
    others = λ other inside why. laid-others other inside;
    closed = laid-closed;
  }
