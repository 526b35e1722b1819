-- The lists of a vector, by their numbers.
use Rattle.std.proofs.Common.{◌≡◌, ℕ, ◌<◌, ◌≤◌, ◌⊎◌, List, [], ◌∷◌, length, sym, ap, subst, ◌∙◌, inl, inr, arith}
use Rattle.std.proofs.lemmas.List.{get_or_past}
use Rattle.std.proofs.lemmas.List.FromFn.{length-map-range_with_len, get_or-map-range_with_len}
use Rattle.std.proofs.lemmas.Bool.{cases_eq, cases_order}
use Rattle.aho_table.specs.Rings.{Entries, list_ending, lists_of, IsRun, AreRings}
use Rattle.aho_table.specs.Lists.{Lists, list_at, IsList}
use Rattle.aho_table.proofs.Runs.{list_ending-none, list_ending-ring, list_ending-zero}

pub length-lists_of : {X : Type 0} (entries : Entries X) (count : ℕ) → length (lists_of entries count) ≡ count
unfolding lists_of
length-lists_of entries count = length-map-range_with_len (list_ending entries) 0 count

pub list_at-lists_of : {X : Type 0} (entries : Entries X) (count number : ℕ) → number < count → list_at (lists_of entries count) number ≡ list_ending entries number
unfolding lists_of
list_at-lists_of {X = X} entries count number below = get_or-map-range_with_len (list_ending entries) 0 count number number [] below (omega arith)

-- a number that is a list's, and not 0, is that of a last entry
pub is_last : {X : Type 0} (entries : Entries X) (count number : ℕ) → IsList (lists_of entries count) number → 0 < number
    → (number < count) × (entries.key (entries.link number) ≤ entries.key number)
is_last {X = X} entries count number known some =
    elim (cases_order number count) [
      | inl is ↦ absurd (past entries count number known some (omega arith))
      | inr apart ↦
          elim apart [
            | inl below ↦ (below, ends entries count number known some below)
            | inr above ↦ absurd (past entries count number known some (omega arith))
          ]
    ] where
      past : {X : Type 0} (entries : Entries X) (count number : ℕ) → IsList (lists_of entries count) number → 0 < number → count ≤ number → ⊥
      past entries count number known some above =
          let is = known (get_or_past (lists_of entries count) number [] (omega (arith, length-lists_of entries count))) in omega arith

      ends : {X : Type 0} (entries : Entries X) (count number : ℕ) → IsList (lists_of entries count) number → 0 < number → number < count → entries.key (entries.link number) ≤ entries.key number
      ends entries count number known some below =
          elim (cases_order (entries.key number) (entries.key (entries.link number))) [
            | inl is ↦ omega arith
            | inr apart ↦
                elim apart [
                  | inl less ↦ absurd (let is = known (list_at-lists_of entries count number below ∙ list_ending-none entries number less) in omega arith)
                  | inr more ↦ omega arith
                ]
          ]

-- and the list is what its run passes
pub ring_at : {X : Type 0} (entries : Entries X) (count number : ℕ) → AreRings entries count → IsList (lists_of entries count) number → 0 < number
    → IsRun entries number (entries.link number) (list_at (lists_of entries count) number)
ring_at {X = X} entries count number rings known some =
    let last = is_last entries count number known some in
    let joined = rings.joined number some last.0 last.1 in
    subst (λ (l : List X). IsRun entries number (entries.link number) l)
    (sym (list_at-lists_of entries count number last.0 ∙ list_ending-ring some last.1 joined.1))
    joined.1

-- where there is the entry at index 0 alone, there is no list
pub lists_of-one : {X : Type 0} (entries : Entries X) → lists_of entries 1 ≡ [] ∷ []
unfolding lists_of
lists_of-one {X = X} entries = ap (λ (l : List X). l ∷ []) (list_ending-zero entries)

-- the number 0 has the empty list
pub list_at-zero : {X : Type 0} (entries : Entries X) (count : ℕ) → 0 < count → list_at (lists_of entries count) 0 ≡ []
list_at-zero entries count some = list_at-lists_of entries count 0 some ∙ list_ending-zero entries

-- what a store is seen as
abbrev pub store : {X : Type 0} → List (List X) → ℕ → Lists X
store lists limit = record { lists = lists; limit = limit }

pub same_store : {X : Type 0} {lists others : List (List X)} {limit another : ℕ} → lists ≡ others → limit ≡ another → store lists limit ≡ store others another
same_store {X = X} {lists = lists} {others = others} {limit = limit} {another = another} same equal = ap (λ (ls : List (List X)). store ls limit) same ∙ ap (λ (n : ℕ). store others n) equal

-- a list is empty, or what a run passes
pub list_at-cases : {X : Type 0} (entries : Entries X) (count : ℕ) → AreRings entries count → (number : ℕ)
    → (list_at (lists_of entries count) number ≡ []) ⊎ IsRun entries number (entries.link number) (list_at (lists_of entries count) number)
list_at-cases {X = X} entries count rings number =
    elim (cases_order number count) as (λ _. Cases) [
      | inl is ↦ inl (get_or_past (lists_of entries count) number [] (omega (arith, length-lists_of entries count)))
      | inr apart ↦
          elim apart as (λ _. Cases) [
            | inl below ↦ elim (cases_eq number 0) as (λ _. Cases) [
              | inl is ↦ inl (list_at-lists_of entries count number below ∙ ap (list_ending entries) is ∙ list_ending-zero entries)
              | inr ne ↦ elim (cases_order (entries.key number) (entries.key (entries.link number))) as (λ _. Cases) [
                | inl is ↦ inr (at (omega arith) below (omega arith))
                | inr other ↦ elim other as (λ _. Cases) [
                  | inl less ↦ inl (list_at-lists_of entries count number below ∙ list_ending-none entries number less)
                  | inr more ↦ inr (at (omega arith) below (omega arith))
                ]
              ]
            ]
            | inr above ↦ inl (get_or_past (lists_of entries count) number [] (omega (arith, length-lists_of entries count)))
          ]
    ]
  where
    Cases : Type 0
    Cases = (list_at (lists_of entries count) number ≡ []) ⊎ IsRun entries number (entries.link number) (list_at (lists_of entries count) number)

    at : 0 < number → number < count → entries.key (entries.link number) ≤ entries.key number → IsRun entries number (entries.link number) (list_at (lists_of entries count) number)
    at some below ends =
        let joined = rings.joined number some below ends in
        subst (λ (l : List X). IsRun entries number (entries.link number) l) (sym (list_at-lists_of entries count number below ∙ list_ending-ring some ends joined.1)) joined.1

-- a list that has an item has a number
pub some_list : {X : Type 0} (lists : List (List X)) (list index : ℕ) → list_at lists 0 ≡ [] → index < length (list_at lists list) → 0 < list
some_list lists list index none below =
    elim (cases_eq list 0) [
      | inl is ↦ absurd (omega (arith, ap (λ (n : ℕ). length (list_at lists n)) is, ap length none))
      | inr ne ↦ omega (arith, ne)
    ]
