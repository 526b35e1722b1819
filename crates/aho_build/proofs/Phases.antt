-- What the phases that follow the trie make of it: the starts are led, then the links are made.
use Rattle.std.proofs.Common.{◌≡◌, ◌≢◌, inl, inr, ℕ, ◌+◌, ◌<◌, ◌∙◌, true, false, cond, List, [], length, refl, sym, ap, arith}
use Rattle.std.specs.Prelude.{nat_eq}
use Rattle.std.proofs.lemmas.Bool.{cases_Bool, cases_eq, cond-true, cond-false, eq-eqb, ne_eqb}
use Rattle.aho_core.specs.declared.search.MatchKind.{MatchKind}
use Rattle.aho_core.specs.Patterns.{Patterns}
use Rattle.aho_build.specs.FirstStates.{anchored_id, root_id, with_first_starts}
use Rattle.aho_build.specs.declared.special.Special.{Special}
use Rattle.aho_build.specs.Refusals.{own_size, start_size}
use Rattle.aho_build.specs.Sizes.{matches_size, IsSized}
use Rattle.aho_build.specs.Trie.{names_before, HoldsTrie}
use Rattle.aho_build.specs.Starts.{IsLedAsRoot, IsLedBelow, IsReady, ListsAllBytes, looped, stops_at}
use Rattle.aho_build.specs.Automaton.{ListsExactly}
use Rattle.aho_build.specs.FailureLinks.{OnlyCopies}
use Rattle.aho_build.specs.Built.{IsBuilt}
use Rattle.aho_build.proofs.KeptTransitions.{ListsAllBytes-state, transitions_count-same}
use Rattle.aho_build.proofs.ListedBytes.{nothing_listed}
use Rattle.aho_build.proofs.MatchTotals.{matches_count-after, matches_count-built, root_list-own}
use Rattle.aho_build.proofs.StartTransitions.{IsReady-of_kind}
use Rattle.aho_table.specs.Table.{dead_id, fail_id, State, Tables, new_state, state_at, next_in, lists_byte, lists_transition, transition_at, matches_in, matches_count, transitions_count}

-- a state of which nothing is said, but that DEAD is its link
pub blank : (s : State) → s.transitions ≡ [] → s.matches ≡ [] → s.fail ≡ dead_id → s.depth ≡ 0 → s ≡ record (new_state 0) { fail = dead_id }
blank s transitions matches fail depth =
    ap (λ (l : List (ℕ × ℕ)). record { transitions = l; matches = s.matches; fail = s.fail; depth = s.depth }) transitions
    ∙ ap (λ (l : List ℕ). record { transitions = []; matches = l; fail = s.fail; depth = s.depth }) matches
    ∙ ap (λ (n : ℕ). record { transitions = []; matches = []; fail = n; depth = s.depth }) fail
    ∙ ap (λ (n : ℕ). record { transitions = []; matches = []; fail = dead_id; depth = n }) depth

-- the root leads somewhere by every byte
looped-ne_fail : (kind : MatchKind) (states : List State) (byte : ℕ) → looped kind states byte ≢ fail_id
looped-ne_fail kind states byte one =
    elim (cases_eq (next_in states root_id byte) fail_id) [
      | inl none ↦
          (let back : ℕ = cond (stops_at kind (matches_in states root_id)) dead_id root_id in
          let is : looped kind states byte ≡ back = cond-true {A = ℕ} (nat_eq (next_in states root_id byte) fail_id) back (next_in states root_id byte) (eq-eqb (next_in states root_id byte) fail_id none) in
          elim (cases_Bool (stops_at kind (matches_in states root_id))) [
            | inl stops ↦ omega (arith, one, is, cond-true {A = ℕ} (stops_at kind (matches_in states root_id)) dead_id root_id stops)
            | inr on ↦ omega (arith, one, is, cond-false {A = ℕ} (stops_at kind (matches_in states root_id)) dead_id root_id on)
          ])
      | inr some ↦
          some
          (sym (cond-false {A = ℕ} (nat_eq (next_in states root_id byte) fail_id) (cond (stops_at kind (matches_in states root_id)) dead_id root_id) (next_in states root_id byte)
          (ne_eqb (next_in states root_id byte) fail_id some)) ∙ one)
    ]

module _ (p : Patterns) (old mid : List State) (holds : HoldsTrie p old) (led : IsLedAsRoot old mid) where
  -- the root still takes every byte
  pub root_full-led : ListsAllBytes mid root_id
  root_full-led = ListsAllBytes-state old mid root_id (led.others root_id (λ e. omega arith)) holds.listed.root_full

  -- the listed patterns are the own ones and those of the anchored start
  pub matches_count-led : matches_count mid ≡ own_size p + start_size p
  matches_count-led =
      matches_count-after old mid anchored_id root_id (omega (arith, holds.counted.state_count)) led.sized led.matches (λ i other. ap (λ (s : State). s.matches) (led.others i other))
      ∙ ap (λ (n : ℕ). n + length (matches_in old root_id)) holds.counted.matches ∙ ap (λ (n : ℕ). own_size p + n) (root_list-own p old holds)

  module _ (ready : Tables) (closed : IsLedBelow root_id 256 (looped p.kind mid) mid ready.states) where
    pub IsReady-led : IsReady p (names_before p (length p.words)) ready.states
    IsReady-led = IsReady-of_kind p (names_before p (length p.words)) p.kind old mid ready.states refl holds.trie led closed

    -- FAIL lists nothing
    pub fail_matches-led : matches_in ready.states fail_id ≡ []
    fail_matches-led = ap (λ (s : State). s.matches) (closed.others fail_id (λ e. omega arith) ∙ led.others fail_id (λ e. omega arith)) ∙ holds.trie.first.fail_matches

    module _ (new : Tables) (copies : OnlyCopies ready new) (built : IsBuilt p (names_before p (length p.words)) new.states) where
      pub matches_count-linked : matches_count new.states ≡ matches_size p
      matches_count-linked = matches_count-built p new.states built (ap (λ (s : State). s.matches) copies.fail_state ∙ fail_matches-led)

      pub IsSized-linked : transitions_count mid ≡ transitions_count old → transitions_count ready.states ≡ transitions_count mid → IsSized p new.states
      IsSized-linked as_root around = record {
        state_count = copies.state_count ∙ closed.sized ∙ led.sized ∙ holds.counted.state_count;
        transitions = transitions_count-same ready.states new.states copies.state_count copies.transitions ∙ around ∙ as_root ∙ holds.counted.transitions;
        matches = matches_count-linked;
      }

      -- the states list what they should, and no more
      listed_as-old : (i : ℕ) → i ≢ root_id → i ≢ anchored_id → (state_at new.states i).transitions ≡ (state_at old i).transitions
      listed_as-old i other apart = copies.transitions i ∙ ap (λ (s : State). s.transitions) (closed.others i other ∙ led.others i apart)

      leads_on : (i byte : ℕ) → i ≢ anchored_id → byte < 256 → lists_byte new.states i byte ≡ true → next_in new.states i byte ≢ fail_id
      leads_on i byte apart small is one =
          elim (cases_eq i root_id) [
            | inl root ↦
                looped-ne_fail p.kind mid byte
                (sym (closed.transitions byte small) ∙ ap (λ (l : List (ℕ × ℕ)). transition_at l byte) (sym (copies.transitions root_id)) ∙ ap (λ (n : ℕ). next_in new.states n byte) (sym root) ∙ one)
            | inr other ↦
                (let same = listed_as-old i other apart in
                let was : lists_byte old i byte ≡ true = ap (λ (l : List (ℕ × ℕ)). lists_transition l byte) (sym same) ∙ is in
                let led_to : next_in old i byte ≡ fail_id = ap (λ (l : List (ℕ × ℕ)). transition_at l byte) (sym same) ∙ one in
                elim (cases_eq i dead_id) [
                  | inl dead ↦ omega (arith, led_to, ap (λ (n : ℕ). next_in old n byte) dead, holds.trie.trie.dead_loop byte small)
                  | inr alive ↦
                      elim (cases_eq i fail_id) [
                        | inl fail ↦ (let clash : true ≡ false = sym was ∙ ap (λ (n : ℕ). lists_byte old n byte) fail ∙ holds.listed.fail_none byte in cc)
                        | inr kept ↦ holds.listed.leading i byte (omega (arith, other, apart, alive, kept)) small was led_to
                      ]
                ])
          ]

      pub ListsExactly-linked : (special : Special) → ListsAllBytes mid anchored_id → ListsExactly (with_first_starts special) new.states
      ListsExactly-linked special full = record {
        anchored = λ byte small.
            ap (λ (l : List (ℕ × ℕ)). lists_transition l byte) (copies.transitions anchored_id ∙ ap (λ (s : State). s.transitions) (closed.others anchored_id (λ e. omega arith)))
            ∙ full byte small;
        fail = copies.fail_state ∙ closed.others fail_id (λ e. omega arith) ∙ led.others fail_id (λ e. omega arith)
            ∙ blank (state_at old fail_id) (nothing_listed (state_at old fail_id).transitions holds.listed.fail_none) holds.trie.first.fail_matches holds.trie.first.fail_fail holds.trie.first.fail_depth;
        leading = leads_on;
      }
