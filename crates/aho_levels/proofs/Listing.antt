-- The list of one state more.
use Rattle.std.proofs.Common.{◌≡◌, ◌∙◌, ℕ, ◌+◌, ◌-◌, ◌<◌, ◌≤◌, inl, inr, List, [], ◌∷◌, ◌++◌, ap, arith, drop, get_or, length, subst, sym, take}
use Rattle.std.specs.Prelude.{Option, Some, None}
use Rattle.std.proofs.lemmas.Bool.{cases_lt}
use Rattle.std.proofs.lemmas.List.{append-nil, get_or_append_left, get_or_past, get_or_push, length-append, length_push}
use Rattle.aho_core.specs.Failure.{failure_of}
use Rattle.aho_core.specs.MatchList.{matches_of, own_matches}
use Rattle.aho_core.specs.Numbers.{greatest_index}
use Rattle.aho_core.specs.Patterns.{Patterns}
use Rattle.aho_laws.proofs.ByLinks.{matches-root}
use Rattle.aho_levels.specs.Building.{AreOwns, HasSameLinks}
use Rattle.aho_levels.specs.Layout.{CanStepThrough, IsSoundStates, StateTables, link_at, list_at_place, list_of_state, place_of_list}
use Rattle.aho_levels.specs.Listing.{AreAllAt, AreListedTo, list_with, numbers_of}
use Rattle.aho_levels.specs.Meaning.{IsStateNamed, NamesAll, LeadsAsWords, named_word}
use Rattle.aho_levels.specs.Reading.{unique}
use Rattle.aho_levels.specs.declared.trie.Own.{Own}
use Rattle.aho_levels.proofs.Linking.{list-next}
use Rattle.aho_levels.proofs.Listed.{list-added, list-kept}
use Rattle.aho_levels.proofs.Owning.{owns-run, passed-more}
use Rattle.aho_levels.proofs.Same.{can-same, leads-same, links-back}

module _ (owns : List Own) (own next index : ℕ) (old : StateTables) (can : CanStepThrough old) (all : length old.fails ≡ length old.bytes) (some : 0 < index) (inside : index < length old.bytes)
    (listed : AreListedTo owns own index old) (at : AreAllAt owns own next index) where
  -- the link's list is there
  link-lower : link_at old index < index
  link-lower = can.walkable.lower index some (omega (arith, inside, all))

  none-listed : list_of_state old 0 ≡ []
  none-listed = ap (list_at_place old.lists) listed.placed.dead ∙ ap (λ (n : ℕ). take n (drop 1 old.lists)) listed.placed.empty

  named-list : (p : Patterns) (names : List (Option (List ℕ))) → AreOwns p names owns → LeadsAsWords p old names → (state : Option (List ℕ)) → IsStateNamed names state (link_at old index)
      → list_of_state old (link_at old index) ≡ matches_of p state
  named-list p names is leads None dead = ap (list_of_state old) dead ∙ none-listed
  named-list p names is leads (Some v) named = listed.lists p names is leads (link_at old index) v link-lower named

  -- so its own patterns and those are what the state is to list
  means : (p : Patterns) (names : List (Option (List ℕ))) → AreOwns p names owns → LeadsAsWords p old names → (word : List ℕ) → named_word names index ≡ Some word
      → numbers_of (take (next - own) (drop own owns)) ++ list_of_state old (link_at old index) ≡ matches_of p (Some word)
  means p names is leads word named = by_word word named (sym (owns-run owns own next index at (listed.passed p names is) is.rising) ∙ is.own index word named)
    where
      by_word : (word : List ℕ) → named_word names index ≡ Some word → numbers_of (take (next - own) (drop own owns)) ≡ own_matches p word
          → numbers_of (take (next - own) (drop own owns)) ++ list_of_state old (link_at old index) ≡ matches_of p (Some word)
      by_word [] root own_is =
          let first : index ≡ 1 = unique p names old leads.levels index 1 [] root leads.levels.root in
          let dead : link_at old index ≡ 0 = omega (arith, first, link-lower) in
          ap (λ (l : List ℕ). numbers_of (take (next - own) (drop own owns)) ++ l) (ap (list_of_state old) dead ∙ none-listed)
          ∙ append-nil (numbers_of (take (next - own) (drop own owns)))
          ∙ own_is
          ∙ sym (matches-root p)
      by_word (y ∷ u) deep own_is =
          list-next p y u (numbers_of (take (next - own) (drop own owns))) (list_of_state old (link_at old index)) own_is
          (named-list p names is leads (failure_of p (y ∷ u)) (leads.linked.links index (y ∷ u) (omega (arith, inside, all)) deep (λ e. cc)))

  -- the link's list stands within the lists
  pub link-within : place_of_list old (link_at old index) + get_or old.lists (place_of_list old (link_at old index)) 0 < length old.lists
  link-within = listed.placed.within (link_at old index) link-lower

  front : 0 < length old.lists
  front = omega (arith, listed.placed.within 0 some)

  -- a place more, and words of lists
  module _ (new : StateTables) (same : HasSameLinks old new) (place : ℕ) (more : List ℕ) (places : new.places ≡ old.places ++ place ∷ []) (lists : new.lists ≡ old.lists ++ more) where
    before-place : (sid : ℕ) → sid < index → place_of_list new sid ≡ place_of_list old sid
    before-place sid less = ap (λ (l : List ℕ). get_or l sid 0) places ∙ get_or_append_left old.places (place ∷ []) 0 sid (omega (arith, less, listed.placed.sized))

    this-place : place_of_list new index ≡ place
    this-place = ap (λ (l : List ℕ). get_or l index 0) places ∙ get_or_push old.places place 0 index listed.placed.sized

    before-word : (at : ℕ) → at < length old.lists → get_or new.lists at 0 ≡ get_or old.lists at 0
    before-word at less = ap (λ (l : List ℕ). get_or l at 0) lists ∙ get_or_append_left old.lists more 0 at less

    before-list : (sid : ℕ) → sid < index → list_of_state new sid ≡ list_of_state old sid
    before-list sid less =
        ap (λ (n : ℕ). list_at_place new.lists n) (before-place sid less)
        ∙ ap (λ (l : List ℕ). list_at_place l (place_of_list old sid)) lists
        ∙ list-kept old.lists more (place_of_list old sid) (listed.placed.within sid less)

    pub listed-more : length new.lists ≤ greatest_index + 1 → place + get_or new.lists place 0 < length new.lists
        → list_at_place new.lists place ≡ numbers_of (take (next - own) (drop own owns)) ++ list_of_state old (link_at old index) → AreListedTo owns next (index + 1) new
    listed-more small within list = record {
      within = at.within;
      placed = record {
        sized = ap (λ (l : List ℕ). length l) places ∙ length_push old.places place ∙ ap (λ (n : ℕ). n + 1) listed.placed.sized;
        within = λ sid less.
            elim (cases_lt sid index) [
              | inl before ↦
                  (let old_within = listed.placed.within sid before in
                  omega (arith, before-place sid before, ap (λ (n : ℕ). get_or new.lists n 0) (before-place sid before), before-word (place_of_list old sid) (omega (arith, old_within)), old_within, ap (λ (l : List ℕ). length l) lists, length-append old.lists more))
              | inr past ↦
                  (let here : sid ≡ index = omega (arith, less, past) in
                  subst (λ (n : ℕ). place_of_list new n + get_or new.lists (place_of_list new n) 0 < length new.lists) (sym here)
                  (subst (λ (n : ℕ). n + get_or new.lists n 0 < length new.lists) (sym this-place) within))
            ];
        empty = before-word 0 front ∙ listed.placed.empty;
        small = small;
        dead = before-place 0 some ∙ listed.placed.dead;
      };
      passed = λ p names is. passed-more owns own next index at (listed.passed p names is) is.rising;
      lists = λ p names is leads i word less named.
          let before = leads-same new old (links-back old new same) p names leads in
          elim (cases_lt i index) [
            | inl lower ↦ before-list i lower ∙ listed.lists p names is before i word lower named
            | inr past ↦
                (let here : i ≡ index = omega (arith, less, past) in
                ap (list_of_state new) here
                ∙ ap (list_at_place new.lists) this-place
                ∙ list
                ∙ means p names is before word (sym (ap (named_word names) here) ∙ named))
          ];
    }

  -- the link's list is the state's, where no pattern ends there
  pub listed-shared : (new : StateTables) → HasSameLinks old new → next ≡ own → new.places ≡ old.places ++ place_of_list old (link_at old index) ∷ [] → new.lists ≡ old.lists → AreListedTo owns next (index + 1) new
  listed-shared new same none places lists =
      let place = place_of_list old (link_at old index) in
      listed-more new same place [] places (lists ∙ sym (append-nil old.lists))
      (omega (arith, ap (λ (l : List ℕ). length l) lists, listed.placed.small))
      (omega (arith, ap (λ (l : List ℕ). get_or l place 0) lists, ap (λ (l : List ℕ). length l) lists, link-within))
      (ap (λ (l : List ℕ). list_at_place l place) lists
      ∙ sym (ap (λ (n : ℕ). numbers_of (take n (drop own owns)) ++ list_of_state old (link_at old index)) (let zero : next - own ≡ 0 = omega (arith, none) in zero)))

  -- or a list of its own, at the end of all
  pub listed-own : (new : StateTables) → HasSameLinks old new → (place : ℕ) → place ≡ length old.lists → new.places ≡ old.places ++ place ∷ []
      → new.lists ≡ old.lists ++ length (list_with (take (next - own) (drop own owns)) old.lists (place_of_list old (link_at old index))) ∷ list_with (take (next - own) (drop own owns)) old.lists (place_of_list old (link_at old index))
      → length new.lists ≤ greatest_index + 1 → AreListedTo owns next (index + 1) new
  listed-own new same place place_is places lists small =
      let list = list_with (take (next - own) (drop own owns)) old.lists (place_of_list old (link_at old index)) in
      let added = list-added old.lists list new.lists place place_is lists in
      listed-more new same place (length list ∷ list) places lists small added.1 added.0

-- once all states have lists
module _ (owns : List Own) (own : ℕ) (old new : StateTables) (can : CanStepThrough old) (all : length old.fails ≡ length old.bytes) (same : HasSameLinks old new) (listed : AreListedTo owns own (length old.bytes) new) where
  pub listed-all : (p : Patterns) (names : List (Option (List ℕ))) → AreOwns p names owns → LeadsAsWords p old names → NamesAll p new names
  listed-all p names is leads =
      let after = leads-same old new same p names leads in
      record {
        leads = after;
        lists = λ i word named. listed.lists p names is after i word (omega (arith, below i word named, leads.levels.sized)) named;
        dead_list = ap (list_at_place new.lists) listed.placed.dead ∙ ap (λ (n : ℕ). take n (drop 1 new.lists)) listed.placed.empty;
      }
    where
      below : (i : ℕ) (word : List ℕ) → named_word names i ≡ Some word → i < length names
      below i word named =
          elim (cases_lt i (length names)) [
            | inl less ↦ less
            | inr past ↦ (let clash : None ≡ Some word = sym (get_or_past names i None past) ∙ named in cc)
          ]

  pub listed-sound : IsSoundStates new
  listed-sound = record {
    steps = can-same old new same can;
    listed = record {
      within = λ sid is. listed.placed.within sid (omega (arith, is, ap (λ (l : List ℕ). length l) same.trie.bytes));
      empty = listed.placed.empty;
      small = listed.placed.small;
      dead = listed.placed.dead;
    };
    fails = ap (λ (l : List ℕ). length l) same.fails ∙ all ∙ ap (λ (l : List ℕ). length l) (sym same.trie.bytes);
    places = listed.placed.sized ∙ ap (λ (l : List ℕ). length l) (sym same.trie.bytes);
  }
