-- Rows that move with their states.
use Rattle.std.proofs.Common.{◌≡◌, ℕ, ◌<◌, ◌≤◌, Bool, false, nat_lt, ◌&&◌, List, [], length, map, get_or, refl, sym, ap, ◌∙◌, inl, inr, arith}
use Rattle.std.specs.Prelude.{Option}
use Rattle.std.specs.List.{range_with_len, swap}
use Rattle.std.proofs.lemmas.Bool.{cases_eq, cases_lt}
use Rattle.std.proofs.lemmas.List.{get_or-map}
use Rattle.std.proofs.lemmas.List.Edits.{length-swap}
use Rattle.aho_table.specs.Table.{State, Tables, dead_id, fail_id, depth_in, has_row, state_at}
use Rattle.aho_table.specs.Remapping.{transposed, place_of_state}
use Rattle.aho_table.proofs.Renumbered.{swap-at, transposed-twice}
use Rattle.aho_core.specs.Patterns.{Patterns}
use Rattle.aho_build.specs.declared.special.Special.{Special}
use Rattle.aho_build.specs.Built.{IsBuilt}
use Rattle.aho_build.specs.FirstStates.{root_id, anchored_id}
use Rattle.aho_build.specs.Starts.{IsReady}
use Rattle.aho_build.specs.Dense.{is_near, is_dense, is_dense_at, AreDense}
use Rattle.aho_build.specs.Shuffled.{RowsAreMoved, AreShuffled}
use Rattle.aho_build.proofs.RowCounts.{is_dense_at-unnamed, is_dense_at-named}
use Rattle.aho_build.proofs.RenumberedAutomata.{origin_within, place-origin, at-place, origin_dead, origin_fail}
use Rattle.aho_build.proofs.ShuffledStates.{place_of_state-range}

pub RowsAreMoved-first : (len : ℕ) (places : List ℕ) (rows : List Bool) → places ≡ range_with_len 0 len → RowsAreMoved places rows rows
RowsAreMoved-first len places rows is = record {
  same_many = refl;
  moved = λ n below. ap (has_row rows) (ap (λ (xs : List ℕ). place_of_state xs n) is ∙ place_of_state-range len n);
}

-- two states change places, and their rows with them
pub RowsAreMoved-swapped : (places places' : List ℕ) (old before after : List Bool) (a b : ℕ) → length places ≡ length old → a < length old → b < length old
    → after ≡ swap before a b → places' ≡ map (transposed a b) places → RowsAreMoved places old before → RowsAreMoved places' old after
RowsAreMoved-swapped places places' old before after a b count of_a of_b is places_are moved =
    let same = moved.same_many in
    record {
      same_many = ap length is ∙ length-swap before a b ∙ moved.same_many;
      moved = λ n below.
          let place : place_of_state places' n ≡ transposed a b (place_of_state places n) =
          ap (λ (xs : List ℕ). get_or xs n n) places_are ∙ get_or-map (transposed a b) places n n n (omega arith) in
          ap (has_row after) place
          ∙ swap-at false before after a b (omega arith) (omega arith) is (transposed a b (place_of_state places n))
          ∙ ap (has_row before) (transposed-twice a b (place_of_state places n))
          ∙ moved.moved n below;
    }

-- the rule goes by the depths, which the states keep, and DEAD and FAIL stay where they are
module _ (depth : ℕ) (skips : Bool) (old new : Tables) (special : Special) (s : AreShuffled skips old new special) (dense : AreDense depth old.states old.rows) where
  abbrev origin : ℕ → ℕ
  origin = place_of_state s.renumbered.origins

  there : (sid : ℕ) → place_of_state s.places (origin sid) ≡ sid
  there = place-origin s.places old.states new.states s.renumbered

  origin_below : (sid : ℕ) → sid < length new.states → origin sid < length old.states
  origin_below sid below =
      let same = s.renumbered.same_many in (origin_within s.places old.states new.states s.renumbered sid (omega arith)).1

  origin_first : (sid : ℕ) → origin sid < 2 → sid ≡ origin sid
  origin_first sid small =
      elim (cases_eq (origin sid) 0) [
        | inl dead ↦ at-place s.places old.states new.states s.renumbered sid dead_id dead ∙ s.renumbered.dead ∙ sym dead
        | inr other ↦
            let fail : origin sid ≡ fail_id = omega (arith, other) in
            at-place s.places old.states new.states s.renumbered sid fail_id fail ∙ s.renumbered.fail ∙ sym fail
      ]

  same_rule : (sid : ℕ) → is_dense depth (state_at old.states (origin sid)) ≡ is_dense depth (state_at new.states sid) → is_dense_at depth old.states (origin sid) ≡ is_dense_at depth new.states sid
  same_rule sid same =
      elim (cases_lt (origin sid) 2) [
        | inl first ↦
            let stays = origin_first sid first in
            is_dense_at-unnamed depth old.states (origin sid) first ∙ sym (is_dense_at-unnamed depth new.states sid (omega arith))
        | inr named ↦
            elim (cases_lt sid 2) [
              | inl small ↦ absurd (omega (arith, of_first sid small))
              | inr past ↦ is_dense_at-named depth old.states (origin sid) named ∙ same ∙ sym (is_dense_at-named depth new.states sid past)
            ]
      ]
    where
      of_first : (n : ℕ) → n < 2 → origin n ≡ n
      of_first n small =
          elim (cases_eq n 0) [
            | inl dead ↦ ap origin dead ∙ origin_dead s.places old.states new.states s.renumbered ∙ sym dead
            | inr other ↦
                let fail : n ≡ fail_id = omega (arith, other) in
                ap origin fail ∙ origin_fail s.places old.states new.states s.renumbered ∙ sym fail
          ]

  pub AreDense-shuffled : AreDense depth new.states new.rows
  AreDense-shuffled = record {
    as_many = s.rows.same_many ∙ dense.as_many ∙ sym s.renumbered.same_many;
    exact = λ sid below.
        let inside = origin_below sid below in
        let count = dense.as_many in
        let far : is_dense depth (state_at old.states (origin sid)) ≡ is_dense depth (state_at new.states sid) =
        ap (is_near depth) (sym (s.renumbered.renamed (origin sid) inside).depth ∙ ap (depth_in new.states) (there sid)) in
        ap (has_row new.rows) (sym (there sid)) ∙ s.rows.moved (origin sid) (omega arith) ∙ dense.exact (origin sid) inside ∙ same_rule sid far;
  }

-- links change no depth
module _ (depth : ℕ) (p : Patterns) (names : List (Option (List ℕ))) (old new : List State) (ready : IsReady p names old) (built : IsBuilt p names new) where
  same_depth : (sid : ℕ) → 2 ≤ sid → sid < length new → depth_in old sid ≡ depth_in new sid
  same_depth sid least below =
      elim (cases_eq sid root_id) [
        | inl root ↦
            ap (depth_in old) root ∙ ready.trie.depths root_id [] ready.trie.root
            ∙ sym (ap (depth_in new) root ∙ built.trie.depths root_id [] built.trie.root)
        | inr other ↦
            elim (cases_eq sid anchored_id) [
              | inl anchored ↦ ap (depth_in old) anchored ∙ ready.anchored.depth ∙ sym (ap (depth_in new) anchored ∙ built.anchored.depth)
              | inr behind ↦
                  let named = built.trie.complete sid (omega (arith, other, behind)) below in
                  ready.trie.depths sid named.0 named.1 ∙ sym (built.trie.depths sid named.0 named.1)
            ]
      ]

  pub AreDense-linked : (rows : List Bool) → AreDense depth old rows → AreDense depth new rows
  AreDense-linked rows dense =
      let same : length old ≡ length new = sym ready.trie.sized ∙ built.trie.sized in
      record {
        as_many = dense.as_many ∙ same;
        exact = λ sid below.
            dense.exact sid (omega arith)
            ∙ elim (cases_lt sid 2) [
              | inl first ↦ is_dense_at-unnamed depth old sid first ∙ sym (is_dense_at-unnamed depth new sid first)
              | inr named ↦ ap (λ (distance : ℕ). nat_lt fail_id sid && is_near depth distance) (same_depth sid named below)
            ];
      }
