-- Which bytes a state lists once it has one entry more, and how many entries there are then.
use Rattle.std.proofs.Common.{◌≡◌, ℕ, ◌+◌, ◌<◌, ◌≢◌, Bool, true, false, ◌||◌, nat_eq, List, [], ◌∷◌, ◌++◌, length, refl, sym, ap, subst, ◌∙◌, inl, inr, arith}
use Rattle.std.proofs.lemmas.Bool.{cases_order, cases_eq}
use Rattle.std.proofs.lemmas.List.{get_or_default}
use Rattle.std.proofs.lemmas.List.Sums.{sum_by-append}
use Rattle.aho_build.specs.TrieGrowth.{missing_in}
use Rattle.aho_table.specs.Table.{State, new_state, state_at, with_transition, lists_transition, lists_byte, IsRising, AllRising, set_transition, transitions_count, matches_count}
use Rattle.aho_table.proofs.States.{state_at-set_same, state_at-set_other, transitions_count-set, matches_count-set}
use Rattle.aho_table.proofs.TransitionLists.{lists_transition-same, lists_transition-other, with_transition-more, with_transition-same, with_transition-less, IsRising-with_transition, length-with_transition}

-- a list of no byte is empty
pub nothing_listed : (transitions : List (ℕ × ℕ)) → ((byte : ℕ) → lists_transition transitions byte ≡ false) → transitions ≡ []
nothing_listed [] none = refl
nothing_listed (transition ∷ transitions) none =
    let clash : true ≡ false = sym (lists_transition-same transition transitions transition.0 refl) ∙ none transition.0 in cc

-- the entry lists its byte
pub lists_transition-with_transition : (transitions : List (ℕ × ℕ)) (byte next : ℕ) → lists_transition (with_transition transitions byte next) byte ≡ true
lists_transition-with_transition [] byte next = lists_transition-same (byte, next) [] byte refl
lists_transition-with_transition (transition ∷ transitions) byte next =
    elim (cases_order transition.0 byte) [
      | inl same ↦ rw (with_transition-same transition transitions byte next same) (lists_transition-same (byte, next) transitions byte refl)
      | inr apart ↦
          elim apart [
            | inl less ↦ rw (with_transition-more transition transitions byte next less) (lists_transition-other transition (with_transition transitions byte next) byte (λ e. omega arith) ∙ lists_transition-with_transition transitions byte next)
            | inr more ↦ rw (with_transition-less transition transitions byte next more) (lists_transition-same (byte, next) (transition ∷ transitions) byte refl)
          ]
    ]

-- and no other
pub lists_transition-with_transition_other : (transitions : List (ℕ × ℕ)) (byte next other : ℕ) → other ≢ byte → lists_transition (with_transition transitions byte next) other ≡ lists_transition transitions other
lists_transition-with_transition_other [] byte next other ne = lists_transition-other (byte, next) [] other (λ e. ne (sym e))
lists_transition-with_transition_other (transition ∷ transitions) byte next other ne =
    elim (cases_order transition.0 byte) [
      | inl same ↦ rw (with_transition-same transition transitions byte next same)
          (lists_transition-other (byte, next) transitions other (λ e. ne (sym e)) ∙ sym (lists_transition-other transition transitions other (λ e. ne (sym e ∙ same))))
      | inr apart ↦
          elim apart [
            | inl less ↦ rw (with_transition-more transition transitions byte next less) (ap (λ (b : Bool). nat_eq transition.0 other || b) (lists_transition-with_transition_other transitions byte next other ne))
            | inr more ↦ rw (with_transition-less transition transitions byte next more) (lists_transition-other (byte, next) (transition ∷ transitions) other (λ e. ne (sym e)))
          ]
    ]

module _ (states : List State) (sid byte next : ℕ) (below : sid < length states) where
  abbrev the_row : State
  the_row = record (state_at states sid) { transitions = with_transition (state_at states sid).transitions byte next }

  -- the counts of all entries
  pub transitions_count-set_transition : IsRising (state_at states sid).transitions → transitions_count (set_transition states sid byte next) ≡ transitions_count states + missing_in states sid byte
  transitions_count-set_transition rising =
      omega (
        arith,
        transitions_count-set states sid the_row (state_at states sid) below (get_or_default states sid (new_state 0) (state_at states sid) below),
        length-with_transition (state_at states sid).transitions byte next rising,
      )

  pub matches_count-set_transition : matches_count (set_transition states sid byte next) ≡ matches_count states
  matches_count-set_transition =
      omega (arith, matches_count-set states sid the_row (state_at states sid) below (get_or_default states sid (new_state 0) (state_at states sid) below))

  pub lists_byte-set_transition : lists_byte (set_transition states sid byte next) sid byte ≡ true
  lists_byte-set_transition = ap (λ (r : State). lists_transition r.transitions byte) (state_at-set_same states sid the_row below) ∙ lists_transition-with_transition (state_at states sid).transitions byte next

  pub lists_byte-set_transition_other : (other : ℕ) → other ≢ byte → lists_byte (set_transition states sid byte next) sid other ≡ lists_byte states sid other
  lists_byte-set_transition_other other ne =
      ap (λ (r : State). lists_transition r.transitions other) (state_at-set_same states sid the_row below) ∙ lists_transition-with_transition_other (state_at states sid).transitions byte next other ne

  pub IsRising-set_transition : IsRising (state_at states sid).transitions → IsRising (state_at (set_transition states sid byte next) sid).transitions
  IsRising-set_transition rising =
      subst (λ (r : State). IsRising r.transitions) (sym (state_at-set_same states sid the_row below)) (IsRising-with_transition (state_at states sid).transitions byte next rising)

  pub AllRising-set_transition : AllRising states → AllRising (set_transition states sid byte next)
  AllRising-set_transition rising i =
      elim (cases_eq i sid) [
        | inl here ↦ subst (λ (n : ℕ). IsRising (state_at (set_transition states sid byte next) n).transitions) (sym here) (IsRising-set_transition (rising sid))
        | inr there ↦ subst (λ (r : State). IsRising r.transitions) (sym (state_at-set_other states sid i the_row there)) (rising i)
      ]

-- one state more lists nothing
module _ (states : List State) (depth : ℕ) where
  pub transitions_count-push : transitions_count (states ++ new_state depth ∷ []) ≡ transitions_count states
  transitions_count-push = omega (arith, sum_by-append (λ (r : State). length r.transitions) states (new_state depth ∷ []))

  pub matches_count-push : matches_count (states ++ new_state depth ∷ []) ≡ matches_count states
  matches_count-push = omega (arith, sum_by-append (λ (r : State). length r.matches) states (new_state depth ∷ []))
