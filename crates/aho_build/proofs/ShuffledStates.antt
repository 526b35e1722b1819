-- States that move by swaps to the numbers that they keep.
use Rattle.std.proofs.Common.{◌≡◌, ℕ, ◌+◌, ◌-◌, ◌<◌, ◌≤◌, Bool, List, [], length, map, get_or, slice_index, slice_set, nat_lt, cond, refl, sym, ap, subst, ◌∙◌, inl, inr, arith}
use Rattle.std.specs.List.{AllZip, range_with_len, swap}
use Rattle.std.proofs.lemmas.Bool.{cases_eq, cases_lt}
use Rattle.std.proofs.lemmas.List.{get_or-map, get_or_past, length-map, nil_from_length}
use Rattle.std.proofs.lemmas.List.Edits.{length-swap}
use Rattle.std.proofs.lemmas.List.Elements.{length_all_zip}
use Rattle.std.proofs.lemmas.List.FromFn.{get_or-range_with_len, length-range_with_len}
use Rattle.aho_table.specs.Table.{State, Tables, new_state, state_at, matches_in}
use Rattle.aho_table.specs.Remapping.{transposed, place_of_state, AreInverse}
use Rattle.aho_table.specs.Renaming.{IsRenamed}
use Rattle.aho_table.proofs.Renumbered.{transposed-first, transposed-second, transposed-other, transposed-twice, swap-at, places-swapped, AreInverse-swapped, AreInverse-range}
use Rattle.aho_table.proofs.RenamedStates.{renamed_at, transitions_count-renamed, matches_count-renamed}
use Rattle.aho_table.proofs.SwappedStates.{transitions_count-swapped, matches_count-swapped}
use Rattle.aho_build.specs.declared.special.Special.{Special}
use Rattle.aho_build.specs.Shuffled.{AreMoved, AreGathered, RowsAreMoved, AreRenumbered, AreShuffled}

-- where nothing has moved
pub place_of_state-range : (len n : ℕ) → place_of_state (range_with_len 0 len) n ≡ n
place_of_state-range len n =
    elim (cases_lt n len) [
      | inl below ↦ get_or-range_with_len 0 len n n below ∙ omega arith
      | inr past ↦ get_or_past (range_with_len 0 len) n n (omega (arith, length-range_with_len 0 len))
    ]

-- past the end there is no pattern
matches_past : (states : List State) (sid : ℕ) → length states ≤ sid → matches_in states sid ≡ []
matches_past states sid past = ap (λ (state : State). state.matches) (get_or_past states sid (new_state 0) past)

module _ (old : List State) where
  AreMoved-first : AreMoved (range_with_len 0 (length old)) old old
  AreMoved-first = record {
    origins = range_with_len 0 (length old);
    inverse = AreInverse-range (length old);
    as_many = length-range_with_len 0 (length old);
    same_many = refl;
    moved = λ n below. ap (state_at old) (place_of_state-range (length old) n);
    transitions = refl;
    matches = refl;
  }

  pub AreGathered-first : AreGathered 4 4 (range_with_len 0 (length old)) old old
  AreGathered-first = record {
    moved = AreMoved-first;
    first = omega arith;
    within = omega arith;
    stay = λ n below. place_of_state-range (length old) n;
    listing = λ sid low high. absurd (omega arith);
    others = λ sid low high. absurd (omega arith);
  }

  -- ---- two states change places

  module _ (places : List ℕ) (before after : List State) (a b : ℕ) (of_a : a < length before) (of_b : b < length before) (is : after ≡ swap before a b)
      (places' : List ℕ) (places_are : places' ≡ map (transposed a b) places) where
    pub state-swapped : (n : ℕ) → state_at after n ≡ state_at before (transposed a b n)
    state-swapped = swap-at (new_state 0) before after a b of_a of_b is

    place-swapped : (n : ℕ) → n < length places → place_of_state places' n ≡ transposed a b (place_of_state places n)
    place-swapped n below = ap (λ (xs : List ℕ). get_or xs n n) places_are ∙ get_or-map (transposed a b) places n n n below

    pub AreMoved-swapped : AreMoved places old before → AreMoved places' old after
    AreMoved-swapped moved =
        let count = moved.as_many in
        let same = moved.same_many in
        let of_a' : a < length places = omega arith in
        let of_b' : b < length places = omega arith in
        record {
          origins = slice_set (slice_set moved.origins a (slice_index moved.origins b)) b (slice_index moved.origins a);
          inverse =
              subst (λ (ps : List ℕ). AreInverse ps (slice_set (slice_set moved.origins a (slice_index moved.origins b)) b (slice_index moved.origins a)))
              (places-swapped places moved.origins a b moved.inverse of_a' of_b' ∙ sym places_are)
              (AreInverse-swapped places moved.origins a b moved.inverse of_a' of_b');
          as_many = ap length places_are ∙ length-map places (transposed a b) ∙ moved.as_many;
          same_many = ap length is ∙ length-swap before a b ∙ moved.same_many;
          moved = λ n below.
              ap (state_at after) (place-swapped n (omega arith))
              ∙ state-swapped (transposed a b (place_of_state places n))
              ∙ ap (state_at before) (transposed-twice a b (place_of_state places n))
              ∙ moved.moved n below;
          transitions = transitions_count-swapped before after a b of_a of_b is ∙ moved.transitions;
          matches = matches_count-swapped before after a b of_a of_b is ∙ moved.matches;
        }

  -- ---- the states that list a pattern are gathered

  module _ (next index : ℕ) (places : List ℕ) (before : List State) (g : AreGathered next index places old before) where
    pub AreGathered-past : length (matches_in before index) ≡ 0 → AreGathered next (index + 1) places old before
    AreGathered-past none = record {
      moved = g.moved;
      first = g.first;
      within = let within = g.within in omega arith;
      stay = g.stay;
      listing = g.listing;
      others = λ sid low high.
          elim (cases_eq sid index) [
            | inl here ↦ ap (matches_in before) here ∙ nil_from_length (matches_in before index) none
            | inr there ↦ g.others sid low (omega (arith, there))
          ];
    }

    pub AreGathered-swapped : (after : List State) (places' : List ℕ) → index < length before → 0 < length (matches_in before index) → after ≡ swap before index next
        → places' ≡ map (transposed index next) places → AreGathered (next + 1) (index + 1) places' old after
    AreGathered-swapped after places' below some is places_are =
        let first = g.first in
        let within = g.within in
        let of_next : next < length before = omega arith in
        let at : (n : ℕ) → matches_in after n ≡ matches_in before (transposed index next n) =
        λ n. ap (λ (state : State). state.matches) (state-swapped places before after index next below of_next is places' places_are n) in
        let count = g.moved.as_many in
        let same = g.moved.same_many in
        record {
          moved = AreMoved-swapped places before after index next below of_next is places' places_are g.moved;
          first = omega arith;
          within = omega arith;
          stay = λ n small.
              place-swapped places before after index next below of_next is places' places_are n (omega arith)
              ∙ ap (transposed index next) (g.stay n small)
              ∙ transposed-other index next n (λ e. omega arith) (λ e. omega arith);
          listing = λ sid low high.
              elim (cases_eq sid next) [
                | inl here ↦ subst (λ (ks : List ℕ). 0 < length ks) (sym (at sid ∙ ap (matches_in before) (transposed-second index next sid here))) some
                | inr there ↦
                    subst (λ (ks : List ℕ). 0 < length ks) (sym (at sid ∙ ap (matches_in before) (transposed-other index next sid (λ e. omega (arith, there, e)) there)))
                    (g.listing sid low (omega (arith, there)))
              ];
          others = λ sid low high.
              elim (cases_eq sid index) [
                | inl here ↦ at sid ∙ ap (matches_in before) (transposed-first index next sid here) ∙ g.others next (omega arith) (omega arith)
                | inr there ↦ at sid ∙ ap (matches_in before) (transposed-other index next sid there (λ e. omega arith)) ∙ g.others sid (omega arith) (omega (arith, there))
              ];
        }

  -- ---- the starts follow them, and each number is exchanged for a place

  module _ (next : ℕ) (places : List ℕ) (gathered : List State) (g : AreGathered next (length old) places old gathered)
      (unanchored anchored : ℕ) (unanchored_is : unanchored + 2 ≡ next) (anchored_is : anchored + 1 ≡ next)
      (first second : List State) (places' places'' : List ℕ)
      (first_is : first ≡ swap gathered 3 anchored) (places'_are : places' ≡ map (transposed 3 anchored) places)
      (second_is : second ≡ swap first 2 unanchored) (places''_are : places'' ≡ map (transposed 2 unanchored) places')
      (new : List State) (all : AllZip (IsRenamed (λ named now. now ≡ place_of_state places'' named)) second new) where
    bounds : (4 ≤ next) × (next ≤ length gathered)
    bounds = let first = g.first in let within = g.within in let same = g.moved.same_many in (omega arith, omega arith)

    of_three : 3 < length gathered
    of_three = let b = bounds in omega (arith, b.0, b.1)

    of_anchored : anchored < length gathered
    of_anchored = let b = bounds in omega (arith, b.0, b.1)

    first_length : length first ≡ length gathered
    first_length = ap length first_is ∙ length-swap gathered 3 anchored

    of_two : 2 < length first
    of_two = let b = bounds in omega (arith, first_length, b.0, b.1)

    of_unanchored : unanchored < length first
    of_unanchored = let b = bounds in omega (arith, first_length, b.0, b.1)

    moved_once : AreMoved places' old first
    moved_once = AreMoved-swapped places gathered first 3 anchored of_three of_anchored first_is places' places'_are g.moved

    moved : AreMoved places'' old second
    moved = AreMoved-swapped places' first second 2 unanchored of_two of_unanchored second_is places'' places''_are moved_once

    -- where the first states are
    place : (n : ℕ) → n < 4 → place_of_state places'' n ≡ transposed 2 unanchored (transposed 3 anchored n)
    place n small =
        let b = bounds in
        let count = g.moved.as_many in
        let once = moved_once.as_many in
        let same = g.moved.same_many in
        place-swapped places' first second 2 unanchored of_two of_unanchored second_is places'' places''_are n (omega (arith, b.0, b.1))
        ∙ ap (transposed 2 unanchored)
        (place-swapped places gathered first 3 anchored of_three of_anchored first_is places' places'_are n (omega (arith, b.0, b.1)) ∙ ap (transposed 3 anchored) (g.stay n small))

    stays : (n : ℕ) → n < 2 → place_of_state places'' n ≡ n
    stays n small =
        let b = bounds in
        place n (omega arith)
        ∙ ap (transposed 2 unanchored) (transposed-other 3 anchored n (λ e. omega arith) (λ e. omega (arith, b.0)))
        ∙ transposed-other 2 unanchored n (λ e. omega arith) (λ e. omega (arith, b.0))

    pub place-unanchored : place_of_state places'' 2 ≡ unanchored
    place-unanchored =
        let b = bounds in
        place 2 (omega arith)
        ∙ ap (transposed 2 unanchored) (transposed-other 3 anchored 2 (λ e. omega arith) (λ e. omega (arith, b.0)))
        ∙ transposed-first 2 unanchored 2 refl

    pub place-anchored : place_of_state places'' 3 ≡ anchored
    place-anchored =
        let b = bounds in
        place 3 (omega arith)
        ∙ ap (transposed 2 unanchored) (transposed-first 3 anchored 3 refl)
        ∙ transposed-other 2 unanchored anchored (λ e. omega (arith, b.0)) (λ e. omega arith)

    pub AreRenumbered-end : AreRenumbered places'' old new
    AreRenumbered-end = record {
      origins = moved.origins;
      inverse = moved.inverse;
      as_many = moved.as_many;
      same_many = sym (length_all_zip (IsRenamed (λ named now. now ≡ place_of_state places'' named)) second new all) ∙ moved.same_many;
      dead = stays 0 (omega arith);
      fail = stays 1 (omega arith);
      renamed = λ n below.
          subst (λ (state : State). IsRenamed (λ named now. now ≡ place_of_state places'' named) state (state_at new (place_of_state places'' n))) (moved.moved n below)
          (renamed_at (λ named now. now ≡ place_of_state places'' named) second new all (place_of_state places'' n));
      transitions = transitions_count-renamed (λ named now. now ≡ place_of_state places'' named) second new all ∙ moved.transitions;
      matches = matches_count-renamed (λ named now. now ≡ place_of_state places'' named) second new all ∙ moved.matches;
    }

    -- what a state lists, by its number before the starts moved
    listed : (n m : ℕ) → transposed 3 anchored (transposed 2 unanchored n) ≡ m → matches_in new n ≡ matches_in gathered m
    listed n m from =
        (renamed_at (λ named now. now ≡ place_of_state places'' named) second new all n).matches
        ∙ ap (λ (state : State). state.matches)
        (state-swapped places' first second 2 unanchored of_two of_unanchored second_is places'' places''_are n
        ∙ state-swapped places gathered first 3 anchored of_three of_anchored first_is places' places'_are (transposed 2 unanchored n))
        ∙ ap (matches_in gathered) from

    some_at : (n m : ℕ) → transposed 3 anchored (transposed 2 unanchored n) ≡ m → 4 ≤ m → m < next → 0 < length (matches_in new n)
    some_at n m from low high = subst (λ (ks : List ℕ). 0 < length ks) (sym (listed n m from)) (g.listing m low high)

    listing : (sid : ℕ) → 2 ≤ sid → sid < unanchored → 0 < length (matches_in new sid)
    listing sid low high =
        elim (cases_eq sid 2) [
          | inl two ↦
              let once = transposed-first 2 unanchored sid two in
              elim (cases_eq unanchored 3) [
                | inl three ↦ some_at sid anchored (ap (transposed 3 anchored) once ∙ transposed-first 3 anchored unanchored three) (omega (arith, three)) (omega arith)
                | inr more ↦
                    some_at sid unanchored (ap (transposed 3 anchored) once ∙ transposed-other 3 anchored unanchored more (λ e. omega arith)) (omega (arith, two, more)) (omega arith)
              ]
          | inr other ↦
              let once = transposed-other 2 unanchored sid other (λ e. omega arith) in
              elim (cases_eq sid 3) [
                | inl three ↦ some_at sid anchored (ap (transposed 3 anchored) once ∙ transposed-first 3 anchored sid three) (omega (arith, three)) (omega arith)
                | inr more ↦
                    some_at sid sid (ap (transposed 3 anchored) once ∙ transposed-other 3 anchored sid more (λ e. omega arith)) (omega (arith, other, more)) (omega arith)
              ]
        ]

    others : (sid : ℕ) → anchored < sid → matches_in new sid ≡ []
    others sid past =
        let b = bounds in
        let from = ap (transposed 3 anchored) (transposed-other 2 unanchored sid (λ e. omega (arith, b.0)) (λ e. omega (arith, b.0))) ∙ transposed-other 3 anchored sid (λ e. omega (arith, b.0)) (λ e. omega (arith, b.0)) in
        listed sid sid from
        ∙ elim (cases_lt sid (length old)) [
          | inl below ↦ g.others sid (omega (arith, b.0)) below
          | inr beyond ↦ matches_past gathered sid (let same = g.moved.same_many in omega arith)
        ]

    pub AreShuffled-end : (before after : Tables) → RowsAreMoved places'' before.rows after.rows
        → (skips : Bool) (special : Special) → special.start_unanchored_id ≡ unanchored → special.start_anchored_id ≡ anchored
        → special.max_match_id ≡ cond (nat_lt 0 (length (matches_in new anchored))) anchored (unanchored - 1)
        → special.max_special_id ≡ cond skips anchored special.max_match_id
        → AreShuffled skips (record before { states = old }) (record after { states = new }) special
    AreShuffled-end before after rows skips special of_unanchored_id of_anchored_id of_match of_special =
        let b = bounds in
        record {
          places = places'';
          renumbered = AreRenumbered-end;
          rows = rows;
          unanchored = of_unanchored_id ∙ sym place-unanchored;
          anchored = of_anchored_id ∙ sym place-anchored;
          order = record {
            first = omega (arith, b.0);
            next = omega arith;
            listing = λ sid low high. listing sid low (omega arith);
            others = λ sid past. others sid (omega arith);
            max_match = subst
                (λ (n : ℕ). special.max_match_id ≡ cond (nat_lt 0 (length (matches_in new n))) n (special.start_unanchored_id - 1)) (sym of_anchored_id)
                (subst (λ (n : ℕ). special.max_match_id ≡ cond (nat_lt 0 (length (matches_in new anchored))) anchored (n - 1)) (sym of_unanchored_id) of_match);
            max_special = subst (λ (n : ℕ). special.max_special_id ≡ cond skips n special.max_match_id) (sym of_anchored_id) of_special;
          };
        }
