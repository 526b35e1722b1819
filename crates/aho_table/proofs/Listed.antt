-- Lists by their numbers: a number leads to the place of a list.
use Rattle.std.proofs.Common.{◌≡◌, ◌≢◌, ℕ, zero, suc, ◌+◌, ◌<◌, ◌≤◌, ◌⊎◌, Some, Bool, true, false, List, [], ◌∷◌, ◌++◌, length, refl, sym, ap, subst, ◌∙◌, inl, inr, arith}
use Rattle.std.specs.List.{slice_get}
use Rattle.std.proofs.lemmas.Option.{slice_get-get_or}
use Rattle.std.proofs.lemmas.Bool.{cases_eq, cases_lt, cases_order}
use Rattle.std.proofs.lemmas.List.{get_or_past, get_or_append_left, get_or-map, length-map, length_push}
use Rattle.std.proofs.Math.Seq.{get_or-append_seam}
use Rattle.aho_core.specs.Numbers.{greatest_index}
use Rattle.aho_table.specs.Lists.{PatternLists, list_at, closed_at, IsList, IsListed}
use Rattle.aho_table.specs.Words.{word_at, length_at, patterns_at, is_closed, place_at, pattern_lists, closed_lists, pattern_store, IsPlaceOfList, HasPatterns, AreLaid, ArePlaces, AreStored}
use Rattle.aho_table.proofs.Patterns.{patterns_at-zero, patterns_at-none, length-patterns_at, get_or-patterns_at, list_within, is_closed-none}

-- ---- the lists by their numbers

pub length-pattern_lists : (words places : List ℕ) → length (pattern_lists words places) ≡ length places + 1
unfolding pattern_lists
length-pattern_lists words places = length-map (0 ∷ places) (patterns_at words) ∙ omega arith

list_at-within : (words places : List ℕ) (list : ℕ) → list < length places + 1 → list_at (pattern_lists words places) list ≡ patterns_at words (place_at places list)
unfolding pattern_lists
list_at-within words places list below = get_or-map (patterns_at words) (0 ∷ places) list 0 [] (omega arith)

pub list_at-pattern_lists : (words places : List ℕ) (list : ℕ) → list_at (pattern_lists words places) list ≡ patterns_at words (place_at places list)
list_at-pattern_lists words places list =
    elim (cases_lt list (length places + 1)) [
      | inl below ↦ list_at-within words places list below
      | inr above ↦ get_or_past (pattern_lists words places) list [] (omega (arith, length-pattern_lists words places))
          ∙ sym (ap (patterns_at words) (get_or_past (0 ∷ places) list 0 (omega arith)) ∙ patterns_at-zero words)
    ]

-- a number that is a list's has a place, which is held
pub known_within : (words places : List ℕ) (list : ℕ) → IsList (pattern_lists words places) list → list ≤ length places
known_within words places list known =
    elim (cases_lt list (length places + 1)) [
      | inl below ↦ omega arith
      | inr above ↦ absurd (omega (arith, above, known (get_or_past (pattern_lists words places) list [] (omega (arith, length-pattern_lists words places)))))
    ]

pub held_of : (words places : List ℕ) (list : ℕ) → IsList (pattern_lists words places) list → IsPlaceOfList words (place_at places list)
held_of words places list known some =
    elim (cases_eq (length_at words (place_at places list)) 0) [
      | inl is ↦ absurd (
          let none = known (list_at-pattern_lists words places list ∙ patterns_at-none words (place_at places list) is) in
          some (ap (place_at places) none)
          )
      | inr ne ↦ omega (arith, ne)
    ]

-- ---- the closed ones

length-closed_lists : (words places : List ℕ) → length (closed_lists words places) ≡ length places + 1
unfolding closed_lists
length-closed_lists words places = length-map (0 ∷ places) (is_closed words) ∙ omega arith

pub closed_at-within : (words places : List ℕ) (list : ℕ) → list ≤ length places → closed_at (closed_lists words places) list ≡ is_closed words (place_at places list)
unfolding closed_lists
closed_at-within words places list below = get_or-map (is_closed words) (0 ∷ places) list 0 false (omega arith)

closed_inside : (words places : List ℕ) (list : ℕ) → closed_at (closed_lists words places) list ≡ true → list ≤ length places
closed_inside words places list closed =
    elim (cases_lt list (length places + 1)) [
      | inl below ↦ omega arith
      | inr above ↦ absurd (let e = sym (get_or_past (closed_lists words places) list false (omega (arith, length-closed_lists words places))) ∙ closed in cc)
    ]

-- ---- two numbers have two places

pub places_apart : (words places : List ℕ) (a b : ℕ) → ArePlaces words places → a ≤ length places → b ≤ length places → a ≢ b → place_at places a ≢ place_at places b
places_apart words places a b are within inside apart same =
    elim (cases_order a b) [
      | inl is ↦ apart is
      | inr other ↦ elim other [
        | inl less ↦ omega (arith, same, are.rising a b less inside)
        | inr more ↦ omega (arith, same, are.rising b a more within)
      ]
    ]

-- what is so of the words is so of the lists by their numbers
module _ (old new places after : List ℕ) (list made : ℕ) (items : List ℕ) (are : ArePlaces old places) (known : list ≤ length places)
    (more : length places ≤ length after) (same : (n : ℕ) → n ≤ length places → place_at after n ≡ place_at places n)
    (has : HasPatterns old new (place_at places list) (place_at after made) items) where
  is : list_at (pattern_lists new after) made ≡ items
  is = list_at-pattern_lists new after made ∙ has.patterns

  why_so : (other : ℕ) → other ≤ length places → (other ≢ list) ⊎ (closed_at (closed_lists old places) other ≡ true)
      → (place_at places other ≢ place_at places list) ⊎ (is_closed old (place_at places other) ≡ true)
  why_so other below (inl apart) = inl (places_apart old places other list are below known apart)
  why_so other below (inr closed) = inr (sym (closed_at-within old places other below) ∙ closed)

  pub is_listed : (count now limit : ℕ) → IsListed (pattern_store old places count limit) (pattern_store new after now limit) list made items
  is_listed count now limit = record {
    listed = is;
    known = λ none. absurd (omega (arith, has.some, ap length (sym is ∙ none)));
    others = λ other below why.
        let within : other ≤ length places = omega (arith, below, length-pattern_lists old places) in
        list_at-pattern_lists new after other
        ∙ ap (patterns_at new) (same other within)
        ∙ has.others (place_at places other) (are.inside other) (why_so other within why)
        ∙ sym (list_at-pattern_lists old places other);
    closed = λ other closed.
        let within = closed_inside old places other closed in
        closed_at-within new after other (omega (arith, within, more))
        ∙ ap (is_closed new) (same other within)
        ∙ has.closed (place_at places other) (sym (closed_at-within old places other within) ∙ closed);
  }

-- ---- the places, with more words behind, and with a place more

pub ArePlaces-none : ArePlaces [] []
ArePlaces-none = record {
  rising = λ a b less within. absurd (omega arith);
  inside = λ list. inside_none list;
}
  where
    inside_none : (list : ℕ) → place_at [] list ≤ 0
    inside_none zero = omega arith
    inside_none (suc n) = omega arith

pub ArePlaces-longer : (old new places : List ℕ) → length old ≤ length new → ArePlaces old places → ArePlaces new places
ArePlaces-longer old new places longer are = record {
  rising = are.rising;
  inside = λ list. omega (arith, longer, are.inside list);
}

pub place_at-before : (places : List ℕ) (place list : ℕ) → list ≤ length places → place_at (places ++ place ∷ []) list ≡ place_at places list
place_at-before places place list within = get_or_append_left (0 ∷ places) (place ∷ []) 0 list (omega arith)

pub place_at-made : (places : List ℕ) (place : ℕ) → place_at (places ++ place ∷ []) (length places + 1) ≡ place
place_at-made places place =
    let count : length places + 1 ≡ length (0 ∷ places) = omega arith in
    ap (place_at (places ++ place ∷ [])) count ∙ get_or-append_seam (0 ∷ places) place [] 0

pub ArePlaces-more : (old new places : List ℕ) (place : ℕ) → length old < place → place ≤ length new → ArePlaces old places → ArePlaces new (places ++ place ∷ [])
ArePlaces-more old new places place past within are = record {
  rising = λ a b less last.
      elim (cases_lt b (length places + 1)) [
        | inl below ↦ omega (
          arith,
          place_at-before places place a (omega arith),
          place_at-before places place b (omega arith),
          are.rising a b less (omega arith),
        )
        | inr above ↦
            let is : b ≡ length places + 1 = omega (arith, last, above, length_push places place) in
            omega (
              arith,
              place_at-before places place a (omega (arith, less, is)),
              ap (place_at (places ++ place ∷ [])) is,
              place_at-made places place,
              are.inside a,
              past,
            )
      ];
  inside = λ list.
      elim (cases_lt list (length places + 1)) [
        | inl below ↦ omega (arith, place_at-before places place list (omega arith), are.inside list, past, within)
        | inr above ↦ elim (cases_eq list (length places + 1)) [
          | inl is ↦ omega (arith, ap (place_at (places ++ place ∷ [])) is, place_at-made places place, within)
          | inr ne ↦ omega (arith, get_or_past (0 ∷ (places ++ place ∷ [])) list 0 (omega (arith, above, ne, length_push places place)))
        ]
      ];
}

-- ---- a list that was changed, by its number: under one that there was, or under a new one

module _ (old new places : List ℕ) (list from place : ℕ) (behind : List ℕ) (are : ArePlaces old places) (known : list ≤ length places)
    (begins : from ≡ place_at places list) (has : HasPatterns old new from place (patterns_at old from ++ behind)) where
  at_number : (after : List ℕ) (made : ℕ) → length places ≤ length after → ((n : ℕ) → n ≤ length places → place_at after n ≡ place_at places n)
      → place ≡ place_at after made → (count now limit : ℕ)
      → IsListed (pattern_store old places count limit) (pattern_store new after now limit) list made (list_at (pattern_lists old places) list ++ behind)
  at_number after made more same ends count now limit =
      subst (λ (xs : List ℕ). IsListed (pattern_store old places count limit) (pattern_store new after now limit) list made (xs ++ behind))
      (sym (list_at-pattern_lists old places list))
      (is_listed old new places after list made (patterns_at old (place_at places list) ++ behind) are known more same
      (subst (λ (p : ℕ). HasPatterns old new (place_at places list) p (patterns_at old (place_at places list) ++ behind)) ends
      (subst (λ (p : ℕ). HasPatterns old new p place (patterns_at old p ++ behind)) begins has))
      count now limit)

  pub listed_still : (made : ℕ) → place ≡ place_at places made → (count now limit : ℕ)
      → IsListed (pattern_store old places count limit) (pattern_store new places now limit) list made (list_at (pattern_lists old places) list ++ behind)
  listed_still made ends = at_number places made (omega arith) (λ n within. refl) ends

  pub listed_anew : (now_words after : List ℕ) (made : ℕ) → made ≡ length places + 1 → after ≡ places ++ place ∷ [] → now_words ≡ new → (count now limit : ℕ)
      → IsListed (pattern_store old places count limit) (pattern_store now_words after now limit) list made (list_at (pattern_lists old places) list ++ behind)
  listed_anew now_words after made number added kept count now limit =
      subst (λ (ws : List ℕ). IsListed (pattern_store old places count limit) (pattern_store ws after now limit) list made (list_at (pattern_lists old places) list ++ behind))
      (sym kept)
      (at_number after made
      (omega (arith, ap (λ (ps : List ℕ). length ps) added, length_push places place))
      (λ n within. ap (λ (ps : List ℕ). place_at ps n) added ∙ place_at-before places place n within)
      (sym (ap (λ (ps : List ℕ). place_at ps made) added ∙ ap (place_at (places ++ place ∷ [])) number ∙ place_at-made places place))
      count now limit)

-- a list that was moved stands behind all words
pub past_moved : (place from len : ℕ) → (place ≡ from) ⊎ (len < place) → place ≢ from → len < place
past_moved place from len (inl is) moved = absurd (moved is)
past_moved place from len (inr past) moved = past

pub past_joined : {C : Type 0} (place shared len : ℕ) → (len < place) ⊎ ((place ≡ shared) × C) → place ≢ shared → len < place
past_joined place shared len (inl past) moved = past
past_joined place shared len (inr is) moved = absurd (moved is.0)

-- and one that was not is that of the other owner
pub shared_so : {C : Type 0} (place shared len : ℕ) → (len < place) ⊎ ((place ≡ shared) × C) → place ≤ len → C
shared_so place shared len (inl past) within = absurd (omega arith)
shared_so place shared len (inr is) within = is.1

-- a list that has an item stands inside
pub made_inside : (old new : List ℕ) (count list made : ℕ) (items : List ℕ) → AreLaid new count → HasPatterns old new list made items → made ≤ length new
made_inside old new count list made items are has =
    omega (arith, list_within new count made are (omega (arith, has.some, ap length has.patterns, length-patterns_at new count made are)))

-- ---- a store with more patterns

pub stored_still : (old new places : List ℕ) (count now limit : ℕ) → AreStored old places count limit → AreLaid new now → count ≤ now → now ≤ limit + 1
    → length old ≤ length new → AreStored new places now limit
stored_still old new places count now limit stored laid more within longer = record {
  small = stored.small;
  within = within;
  laid_down = laid;
  placed = ArePlaces-longer old new places longer stored.placed;
  fewer = omega (arith, stored.fewer, more);
}

pub stored_anew : (old new places : List ℕ) (count now limit place : ℕ) (now_words after : List ℕ) → AreStored old places count limit → AreLaid new now → count < now
    → now ≤ limit + 1 → length old < place → place ≤ length new → after ≡ places ++ place ∷ [] → now_words ≡ new → AreStored now_words after now limit
stored_anew old new places count now limit place now_words after stored laid more within past inside added kept =
    subst (λ (ws : List ℕ). AreStored ws after now limit) (sym kept)
    (subst (λ (ps : List ℕ). AreStored new ps now limit) (sym added) (record {
      small = stored.small;
      within = within;
      laid_down = laid;
      placed = ArePlaces-more old new places place past inside stored.placed;
      fewer = omega (arith, stored.fewer, more, length_push places place);
    }))

-- ---- a store with no words

pub AreStored-none : (limit : ℕ) (laid : AreLaid [] 1) → limit ≤ greatest_index → AreStored [] [] 1 limit
AreStored-none limit laid small = record {
  small = small;
  within = omega arith;
  laid_down = laid;
  placed = ArePlaces-none;
  fewer = omega arith;
}

pub pattern_store-none : (limit : ℕ) → let s : PatternLists = record { lists = [] ∷ []; closed = false ∷ []; count = 1; limit = limit } in pattern_store [] [] 1 limit ≡ s
unfolding pattern_lists closed_lists
pattern_store-none limit =
    ap (λ (xs : List ℕ). let s : PatternLists = record { lists = xs ∷ []; closed = is_closed [] 0 ∷ []; count = 1; limit = limit } in s) (patterns_at-zero [])
    ∙ ap (λ (b : Bool). let s : PatternLists = record { lists = [] ∷ []; closed = b ∷ []; count = 1; limit = limit } in s) is_closed-none

-- ---- a list by its number

module _ (words places : List ℕ) (count list : ℕ) (are : AreLaid words count) where
  pub length-list_at : length (list_at (pattern_lists words places) list) ≡ length_at words (place_at places list)
  length-list_at = ap length (list_at-pattern_lists words places list) ∙ length-patterns_at words count (place_at places list) are

  pub get-list_at : (index : ℕ) → index < length_at words (place_at places list)
      → slice_get (list_at (pattern_lists words places) list) index ≡ Some (word_at words (place_at places list + index))
  get-list_at index below =
      ap (λ (xs : List ℕ). slice_get xs index) (list_at-pattern_lists words places list)
      ∙ slice_get-get_or (patterns_at words (place_at places list)) index 0 (omega (arith, below, length-patterns_at words count (place_at places list) are))
      ∙ ap Some (get_or-patterns_at words count (place_at places list) index are below)
