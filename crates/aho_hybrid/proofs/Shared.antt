-- The places of lists, which are set one after another.
use Rattle.std.proofs.Common.{◌≡◌, ◌≢◌, ◌||◌, ℕ, ◌+◌, ◌<◌, cond, nat_eq, true, List, [], ◌∷◌, ◌++◌, length, length-set, get_or, get_or-set_same, get_or-set_other, set, refl, sym, ap, subst, ◌∙◌, inl, inr, arith}
use Rattle.std.proofs.lemmas.Bool.{cases_Bool, cases_eq, cond-false, cond-true, ltb-false}
use Rattle.std.proofs.lemmas.List.{get_or_append_left, get_or_push, length_push, nil_from_length}
use Rattle.aho_build.specs.ListLinks.{ListByLinks}
use Rattle.aho_build.specs.Walking.{AreStarts, IsState, links_left}
use Rattle.aho_build.specs.declared.special.Special.{Special}
use Rattle.aho_table.specs.Table.{State, fail_in, matches_in}
use Rattle.aho_hybrid.proofs.Filling.{below-or-last}
use Rattle.aho_hybrid.proofs.Listed.{list-grows}
use Rattle.aho_hybrid.specs.Filled.{AreOwnPlaces, AreListPlaces, AreShared, IsListAt, IsSharedDown, has_own_list, source_in}
use Rattle.aho_hybrid.specs.declared.lists.Lists.{Lists}

-- the state whose row or record stands at the place of a state is there
pub source-below : (special : Special) (states : List State) → AreStarts special states → (index : ℕ) → index < length states → source_in special index < length states
source-below special states starts index below =
    elim (cases_Bool (nat_eq index 0)) [
      | inl dead ↦ omega (arith, below, cond-true {A = ℕ} (nat_eq index 0) 0 other dead)
      | inr alive ↦
          let is : source_in special index ≡ other = cond-false {A = ℕ} (nat_eq index 0) 0 other alive in
          elim (cases_Bool (nat_eq index 1 || nat_eq index special.start_anchored_id)) [
            | inl start ↦ omega (arith, is, starts.unanchored.state.0, cond-true {A = ℕ} (nat_eq index 1 || nat_eq index special.start_anchored_id) special.start_unanchored_id index start)
            | inr own ↦ omega (arith, is, below, cond-false {A = ℕ} (nat_eq index 1 || nat_eq index special.start_anchored_id) special.start_unanchored_id index own)
          ]
    ]
  where
    other : ℕ
    other = cond (nat_eq index 1 || nat_eq index special.start_anchored_id) special.start_unanchored_id index

module _ (states : List State) where
  -- ---- lists that are their states' own

  pub own-none : (lists places : List ℕ) → lists ≡ 0 ∷ [] → places ≡ [] → AreOwnPlaces states 0 lists places
  own-none lists places first none = record {
    sized = ap (λ (l : List ℕ). length l) none;
    empty = subst (λ (l : List ℕ). IsListAt l 0 []) (sym first) (record { before = []; after = []; whole = refl; place_is = refl });
    listed = λ sid below. absurd (omega (arith, below));
    own = λ sid below. absurd (omega (arith, below));
  }

  -- one state more
  pub own-more : (count place : ℕ) (lists more lists' places places' : List ℕ) → lists' ≡ lists ++ more → places' ≡ places ++ place ∷ []
      → (0 < place → IsListAt lists' place (matches_in states count)) → (has_own_list states count ≡ true → 0 < place)
      → AreOwnPlaces states count lists places → AreOwnPlaces states (count + 1) lists' places'
  own-more count place lists more lists' places places' grown is listed own before = record {
    sized = ap (λ (l : List ℕ). length l) is ∙ length_push places place ∙ omega (arith, before.sized);
    empty = kept 0 [] before.empty;
    listed = below-or-last (λ (n : ℕ). 0 < get_or places' n 0 → IsListAt lists' (get_or places' n 0) (matches_in states n)) count
        (λ n below some.
        subst (λ (m : ℕ). IsListAt lists' m (matches_in states n)) (sym (old n below))
        (kept (get_or places n 0) (matches_in states n) (before.listed n below (omega (arith, some, old n below)))))
        (λ some. subst (λ (m : ℕ). IsListAt lists' m (matches_in states count)) (sym last) (listed (omega (arith, some, last))));
    own = below-or-last (λ (n : ℕ). has_own_list states n ≡ true → 0 < get_or places' n 0) count
        (λ n below is_own. omega (arith, old n below, before.own n below is_own)) (λ is_own. omega (arith, last, own is_own));
  }
    where
      old : (n : ℕ) → n < count → get_or places' n 0 ≡ get_or places n 0
      old n below = ap (λ (l : List ℕ). get_or l n 0) is ∙ get_or_append_left places (place ∷ []) 0 n (omega (arith, below, before.sized))

      last : get_or places' count 0 ≡ place
      last = ap (λ (l : List ℕ). get_or l count 0) is ∙ get_or_push places place 0 count before.sized

      kept : (at : ℕ) (list : List ℕ) → IsListAt lists at list → IsListAt lists' at list
      kept at list listed = subst (λ (l : List ℕ). IsListAt l at list) (sym grown) (list-grows lists more at list listed)

  -- ---- lists that are their links'

  module _ (places : List ℕ) (sid place : ℕ) (within : sid < length places) where
    place-there : get_or (set places sid place) sid 0 ≡ place
    place-there = get_or-set_same places sid place 0 within

    place-other : (other : ℕ) → other ≢ sid → get_or (set places sid place) other 0 ≡ get_or places other 0
    place-other other apart = get_or-set_other places sid other place 0 apart

    -- what has a place keeps one
    pub place-kept : 0 < place → (other : ℕ) → 0 < get_or places other 0 → 0 < get_or (set places sid place) other 0
    place-kept some other had =
        elim (cases_eq other sid) [
          | inl same ↦ omega (arith, some, ap (λ (n : ℕ). get_or (set places sid place) n 0) same, place-there)
          | inr apart ↦ omega (arith, had, place-other other apart)
        ]

    -- and the state has it
    pub place-set : 0 < place → 0 < get_or (set places sid place) sid 0
    place-set some = omega (arith, some, place-there)

    pub own-set : (lists : List ℕ) → 0 < place → IsListAt lists place (matches_in states sid) → AreOwnPlaces states (length states) lists places → AreOwnPlaces states (length states) lists (set places sid place)
    own-set lists some listed before = record {
      sized = omega (arith, length-set {A = ℕ}, before.sized);
      empty = before.empty;
      listed = λ other below had.
          elim (cases_eq other sid) [
            | inl same ↦
                subst (λ (n : ℕ). IsListAt lists (get_or (set places sid place) n 0) (matches_in states n)) (sym same)
                (subst (λ (n : ℕ). IsListAt lists n (matches_in states sid)) (sym place-there) listed)
            | inr apart ↦
                subst (λ (n : ℕ). IsListAt lists n (matches_in states other)) (sym (place-other other apart)) (before.listed other below (omega (arith, had, place-other other apart)))
          ];
      own = λ other below own. place-kept some other (before.own other below own);
    }

  -- a state without a place that lists a pattern lists what its link does, and that is a state nearer to the start
  pub linked-list : ListByLinks states → (lists places : List ℕ) → AreOwnPlaces states (length states) lists places → (sid : ℕ) → IsState states sid → get_or places sid 0 ≡ 0 → 0 < length (matches_in states sid)
      → (matches_in states sid ≡ matches_in states (fail_in states sid)) × IsState states (fail_in states sid) × (links_left states (fail_in states sid) < links_left states sid)
  linked-list by lists places are sid ok none some =
      elim (cases_Bool (has_own_list states sid)) [
        | inl own ↦ absurd (omega (arith, none, are.own sid ok.0 own))
        | inr shared ↦ (
          by.same sid ok (ltb-false (length (matches_in states (fail_in states sid))) (length (matches_in states sid)) shared),
          by.link sid ok,
          by.nearer sid ok (λ dead. omega (arith, some, ap (λ (n : ℕ). length (matches_in states n)) dead, ap (λ (l : List ℕ). length l) by.dead)),
        )
      ]

  -- one state more
  pub shared-more : (index : ℕ) (old new : Lists) → AreShared states index old → IsSharedDown states index old new → AreShared states (index + 1) new
  shared-more index old new before shared = record {
    places = shared.places;
    set = below-or-last (λ (n : ℕ). 0 < length (matches_in states n) → 0 < get_or new.places.items n 0) index
        (λ n below some. shared.kept n (before.set n below some)) shared.set;
  }

  -- then each list stands at its place
  pub places-all : (lists : Lists) → AreShared states (length states) lists → AreListPlaces states lists.words.items lists.places.items
  places-all lists shared = record { sized = shared.places.sized; listed = λ sid below. each sid below }
    where
      each : (sid : ℕ) → sid < length states → IsListAt lists.words.items (get_or lists.places.items sid 0) (matches_in states sid)
      each sid below =
          elim (cases_eq (get_or lists.places.items sid 0) 0) [
            | inr some ↦ shared.places.listed sid below (omega (arith, some))
            | inl none ↦
                elim (cases_eq (length (matches_in states sid)) 0) [
                  | inl empty ↦
                      subst (λ (n : ℕ). IsListAt lists.words.items n (matches_in states sid)) (sym none)
                      (subst (λ (l : List ℕ). IsListAt lists.words.items 0 l) (sym (nil_from_length (matches_in states sid) empty)) shared.places.empty)
                  | inr lists_some ↦ absurd (omega (arith, none, shared.set sid below (omega (arith, lists_some))))
                ]
          ]
