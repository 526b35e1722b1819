-- A state that is added, with the byte that leads to it.
use Rattle.std.proofs.Common.{◌≡◌, ℕ, ◌+◌, ◌<◌, ◌≢◌, ◌⊎◌, Bool, true, false, not, ◌&&◌, cond, nat_eq, List, [], ◌∷◌, ◌++◌, length, MatchBool, eq-eqb, ne_eqb, add_assoc, refl, sym, ap, subst, ◌∙◌, inl, inr, arith}
use Rattle.std.proofs.lemmas.Bool.{cases_eq, eqb-true, not-false}
use Rattle.std.proofs.lemmas.Bool.Decides.{nat_tests}
use Rattle.std.proofs.lemmas.List.{length_push, length-set}
use Rattle.aho_table.specs.Table.{State, new_state, state_at, next_in, depth_in, fail_in, matches_in, transition_at, with_transition, set_transition, lists_transition, lists_byte, IsRising, IsLedTo, transitions_count}
use Rattle.aho_table.specs.declared.links.Child.TheVariants.{Added as AddedState}
use Rattle.aho_core.specs.Bytes.{folded_by, opposite}
use Rattle.aho_build.specs.TrieGrowth.{Grows, HasChild, ListsMore, missing_in}
use Rattle.aho_table.proofs.TransitionLists.{transition_at-with_transition, transition_at-with_transition_other}
use Rattle.aho_build.proofs.ListedBytes.{transitions_count-set_transition, matches_count-set_transition, lists_byte-set_transition, lists_byte-set_transition_other, AllRising-set_transition, transitions_count-push, matches_count-push}
use Rattle.aho_table.proofs.States.{state_at-set_same, state_at-set_other, state_at-push_old, state_at-push_new, AllRising-push}

-- what holds where the condition does
pub MatchBool-from_true : {b : Bool} (P Q : Type 0) → b ≡ true → P → MatchBool b P Q
MatchBool-from_true P Q e p = subst (λ (x : Bool). MatchBool x P Q) (sym e) p

-- one more state, and other transitions of one state that was there
record Added (parent depth : ℕ) (transitions : List (ℕ × ℕ)) (old new : List State) : Type 0 where
  sized : length new ≡ length old + 1
  row_new : state_at new (length old) ≡ new_state depth
  row_parent : state_at new parent ≡ record (state_at old parent) { transitions = transitions }
  row_old : (i : ℕ) → i < length old → i ≢ parent → state_at new i ≡ state_at old i

Added-set : (parent depth byte next : ℕ) (transitions : List (ℕ × ℕ)) (old new : List State) → parent < length old → Added parent depth transitions old new
    → Added parent depth (with_transition transitions byte next) old (set_transition new parent byte next)
Added-set parent depth byte next transitions old new below added =
    let inside : parent < length new = omega (arith, added.sized) in
    let state : State = record (state_at new parent) { transitions = with_transition (state_at new parent).transitions byte next } in
    record {
      sized = length-set new parent state ∙ added.sized;
      row_new = state_at-set_other new parent (length old) state (λ e. omega arith) ∙ added.row_new;
      row_parent = state_at-set_same new parent state inside ∙ ap (λ (r : State). record r { transitions = with_transition r.transitions byte next }) added.row_parent;
      row_old = λ i small ne. state_at-set_other new parent i state ne ∙ added.row_old i small ne;
    }

Added-push : (parent depth : ℕ) (old : List State) → parent < length old → Added parent depth (state_at old parent).transitions old (old ++ new_state depth ∷ [])
Added-push parent depth old below = record {
  sized = length_push old (new_state depth);
  row_new = state_at-push_new old (new_state depth);
  row_parent = state_at-push_old old (new_state depth) parent below;
  row_old = λ i small ne. state_at-push_old old (new_state depth) i small;
}

Grows-from : (ignore_case : Bool) (parent byte depth : ℕ) (transitions : List (ℕ × ℕ)) (old new : List State) → parent < length old → Added parent depth transitions old new
    → ((other : ℕ) → other < 256 → folded_by ignore_case other ≡ folded_by ignore_case byte → transition_at transitions other ≡ length old)
    → ((other : ℕ) → other < 256 → folded_by ignore_case other ≢ folded_by ignore_case byte → transition_at transitions other ≡ next_in old parent other)
    → Grows ignore_case parent byte depth old new
Grows-from ignore_case parent byte depth transitions old new below added leads others = record {
  sized = added.sized;
  depth_new = ap (λ (r : State). r.depth) added.row_new;
  depth_old = λ i small.
      elim (cases_eq i parent) [
        | inl here ↦ ap (depth_in new) here ∙ ap (λ (r : State). r.depth) added.row_parent ∙ ap (depth_in old) (sym here)
        | inr there ↦ ap (λ (r : State). r.depth) (added.row_old i small there)
      ];
  transition_new = λ other. ap (λ (r : State). transition_at r.transitions other) added.row_new;
  transition_byte = λ other small same. ap (λ (r : State). transition_at r.transitions other) added.row_parent ∙ leads other small same;
  transition_other = λ other small ne. ap (λ (r : State). transition_at r.transitions other) added.row_parent ∙ others other small ne;
  transition_old = λ i other small ne. ap (λ (r : State). transition_at r.transitions other) (added.row_old i small ne);
  matches_new = ap (λ (r : State). r.matches) added.row_new;
  fail_new = ap (λ (r : State). r.fail) added.row_new;
  fail_old = λ i small.
      elim (cases_eq i parent) [
        | inl here ↦ ap (fail_in new) here ∙ ap (λ (r : State). r.fail) added.row_parent ∙ ap (fail_in old) (sym here)
        | inr there ↦ ap (λ (r : State). r.fail) (added.row_old i small there)
      ];
  matches_old = λ i small.
      elim (cases_eq i parent) [
        | inl here ↦ ap (matches_in new) here ∙ ap (λ (r : State). r.matches) added.row_parent ∙ ap (matches_in old) (sym here)
        | inr there ↦ ap (λ (r : State). r.matches) (added.row_old i small there)
      ];
}

pub same_letter : (x y : ℕ) → folded_by true x ≡ folded_by true y → (x ≡ y) ⊎ (x ≡ opposite y)
same_letter x y e = grind (arith, nat_tests)

pub other_letter : (x y : ℕ) → folded_by true x ≢ folded_by true y → x ≢ opposite y
other_letter x y ne e = ne (grind (arith, nat_tests))

-- the byte is the only one that is compared as it is
abbrev pub IsAlone : Bool → ℕ → Type 0
IsAlone ignore_case byte = (ignore_case && not (nat_eq (opposite byte) byte)) ≡ false

same_alone : (ignore_case : Bool) (byte other : ℕ) → IsAlone ignore_case byte → folded_by ignore_case other ≡ folded_by ignore_case byte → other ≡ byte
same_alone false byte other alone same = same
same_alone true byte other alone same =
    elim (same_letter other byte same) [ inl here ↦ here | inr there ↦ there ∙ eqb-true (opposite byte) byte (not-false (nat_eq (opposite byte) byte) alone) ]

-- such a byte alone leads there
Grows-one : (ignore_case : Bool) (parent byte depth : ℕ) (old : List State) → IsAlone ignore_case byte → parent < length old
    → Grows ignore_case parent byte depth old (set_transition (old ++ new_state depth ∷ []) parent byte (length old))
Grows-one ignore_case parent byte depth old alone below =
    let transitions = (state_at old parent).transitions in
    Grows-from ignore_case parent byte depth (with_transition transitions byte (length old)) old (set_transition (old ++ new_state depth ∷ []) parent byte (length old)) below
    (Added-set parent depth byte (length old) transitions old (old ++ new_state depth ∷ []) below (Added-push parent depth old below))
    (λ other small same. ap (transition_at (with_transition transitions byte (length old))) (same_alone ignore_case byte other alone same) ∙ transition_at-with_transition transitions byte (length old))
    (λ other small ne. transition_at-with_transition_other transitions byte (length old) other (λ e. ne (ap (folded_by ignore_case) e)))

-- the case rule: the other case of a letter leads there too
Grows-two : (parent byte depth : ℕ) (old : List State) → parent < length old
    → Grows true parent byte depth old (set_transition (set_transition (old ++ new_state depth ∷ []) parent byte (length old)) parent (opposite byte) (length old))
Grows-two parent byte depth old below =
    let transitions = (state_at old parent).transitions in
    let n = length old in
    Grows-from true parent byte depth (with_transition (with_transition transitions byte n) (opposite byte) n) old (set_transition (set_transition (old ++ new_state depth ∷ []) parent byte n) parent (opposite byte) n) below
    (Added-set parent depth (opposite byte) n (with_transition transitions byte n) old (set_transition (old ++ new_state depth ∷ []) parent byte n) below
    (Added-set parent depth byte n transitions old (old ++ new_state depth ∷ []) below (Added-push parent depth old below)))
    (λ other small same.
    elim (cases_eq other (opposite byte)) [
      | inl there ↦ ap (transition_at (with_transition (with_transition transitions byte n) (opposite byte) n)) there ∙ transition_at-with_transition (with_transition transitions byte n) (opposite byte) n
      | inr apart ↦
          transition_at-with_transition_other (with_transition transitions byte n) (opposite byte) n other apart
          ∙ elim (same_letter other byte same) [
            | inl here ↦ ap (transition_at (with_transition transitions byte n)) here ∙ transition_at-with_transition transitions byte n
            | inr there ↦ absurd (apart there)
          ]
    ])
    (λ other small ne.
    transition_at-with_transition_other (with_transition transitions byte n) (opposite byte) n other (other_letter other byte ne)
    ∙ transition_at-with_transition_other transitions byte n other (λ e. ne (ap (folded_by true) e)))

-- what the states list then
module _ (parent byte depth : ℕ) (old : List State) (below : parent < length old) where
  abbrev with_new : List State
  with_new = old ++ new_state depth ∷ []

  abbrev one : List State
  one = set_transition with_new parent byte (length old)

  abbrev both : List State
  both = set_transition one parent (opposite byte) (length old)

  inside : parent < length with_new
  inside = omega (arith, below, length_push old (new_state depth))

  inside_one : parent < length one
  inside_one = omega (arith, inside, length-set with_new parent (record (state_at with_new parent) { transitions = with_transition (state_at with_new parent).transitions byte (length old) }))

  same_row : state_at with_new parent ≡ state_at old parent
  same_row = state_at-push_old old (new_state depth) parent below

  pushed_transitions : (other : ℕ) → lists_byte with_new parent other ≡ lists_byte old parent other
  pushed_transitions other = ap (λ (r : State). lists_transition r.transitions other) same_row

  added_one : Added parent depth (with_transition (state_at old parent).transitions byte (length old)) old one
  added_one = Added-set parent depth byte (length old) (state_at old parent).transitions old with_new below (Added-push parent depth old below)

  added_both : Added parent depth (with_transition (with_transition (state_at old parent).transitions byte (length old)) (opposite byte) (length old)) old both
  added_both = Added-set parent depth (opposite byte) (length old) (with_transition (state_at old parent).transitions byte (length old)) old one below added_one

  -- the entries after the first byte
  pub transitions_count-one : IsRising (state_at old parent).transitions → transitions_count one ≡ transitions_count old + missing_in old parent byte
  transitions_count-one rising =
      transitions_count-set_transition with_new parent byte (length old) inside (subst (λ (r : State). IsRising r.transitions) (sym same_row) rising)
      ∙ ap (λ (n : ℕ). n + missing_in with_new parent byte) (transitions_count-push old depth)
      ∙ ap (λ (b : Bool). transitions_count old + cond b 0 1) (pushed_transitions byte)

  -- and which bytes are listed then
  pub lists_byte-one : lists_byte one parent byte ≡ true
  lists_byte-one = lists_byte-set_transition with_new parent byte (length old) inside

  pub lists_byte-one_other : (other : ℕ) → other ≢ byte → lists_byte one parent other ≡ lists_byte old parent other
  lists_byte-one_other other ne = lists_byte-set_transition_other with_new parent byte (length old) inside other ne ∙ pushed_transitions other

  ListsMore-one : (ignore_case : Bool) → IsAlone ignore_case byte → ListsMore ignore_case parent byte old one
  ListsMore-one ignore_case alone = record {
    rising = λ rising. AllRising-set_transition with_new parent byte (length old) inside (AllRising-push old depth rising);
    listed_new = λ other. ap (λ (r : State). lists_transition r.transitions other) added_one.row_new;
    listed_old = λ i other small ne. ap (λ (r : State). lists_transition r.transitions other) (added_one.row_old i small ne);
    listed_more = λ other listed.
        elim (cases_eq other byte) [
          | inl same ↦ ap (lists_byte one parent) same ∙ lists_byte-one
          | inr apart ↦ lists_byte-one_other other apart ∙ listed
        ];
    listed_other = λ other ne. lists_byte-one_other other (λ e. ne (ap (folded_by ignore_case) e));
    transitions_more = λ rising.
        omega (arith, transitions_count-one (rising parent), ap (λ (b : Bool). missing_in old parent byte + cond b (missing_in old parent (opposite byte)) 0) alone);
    matches_same = matches_count-set_transition with_new parent byte (length old) inside ∙ matches_count-push old depth;
  }

  ListsMore-two : ListsMore true parent byte old both
  ListsMore-two = record {
    rising = λ rising. AllRising-set_transition one parent (opposite byte) (length old) inside_one (AllRising-set_transition with_new parent byte (length old) inside (AllRising-push old depth rising));
    listed_new = λ other. ap (λ (r : State). lists_transition r.transitions other) added_both.row_new;
    listed_old = λ i other small ne. ap (λ (r : State). lists_transition r.transitions other) (added_both.row_old i small ne);
    listed_more = λ other listed.
        elim (cases_eq other (opposite byte)) [
          | inl same ↦ ap (lists_byte both parent) same ∙ lists_byte-set_transition one parent (opposite byte) (length old) inside_one
          | inr apart ↦ lists_byte-set_transition_other one parent (opposite byte) (length old) inside_one other apart ∙ (ListsMore-one false refl).listed_more other listed
        ];
    listed_other = λ other ne.
        lists_byte-set_transition_other one parent (opposite byte) (length old) inside_one other (other_letter other byte ne)
        ∙ lists_byte-one_other other (λ e. ne (ap (folded_by true) e));
    transitions_more = λ rising.
        transitions_count-set_transition one parent (opposite byte) (length old) inside_one (AllRising-set_transition with_new parent byte (length old) inside (AllRising-push old depth rising) parent)
        ∙ ap (λ (n : ℕ). n + missing_in one parent (opposite byte)) (transitions_count-one (rising parent))
        ∙ add_assoc (transitions_count old) (missing_in old parent byte) (missing_in one parent (opposite byte))
        ∙ ap (λ (n : ℕ). transitions_count old + (missing_in old parent byte + n)) second;
    matches_same = matches_count-set_transition one parent (opposite byte) (length old) inside_one ∙ matches_count-set_transition with_new parent byte (length old) inside ∙ matches_count-push old depth;
  }
    where
      second : missing_in one parent (opposite byte) ≡ cond (not (nat_eq (opposite byte) byte)) (missing_in old parent (opposite byte)) 0
      second =
          elim (cases_eq (opposite byte) byte) [
            | inl same ↦
                ap (λ (b : Bool). cond b 0 1) (ap (lists_byte one parent) same ∙ lists_byte-one)
                ∙ ap (λ (b : Bool). cond (not b) (missing_in old parent (opposite byte)) 0) (sym (eq-eqb (opposite byte) byte same))
            | inr apart ↦
                ap (λ (b : Bool). cond b 0 1) (lists_byte-one_other (opposite byte) apart)
                ∙ ap (λ (b : Bool). cond (not b) (missing_in old parent (opposite byte)) 0) (sym (ne_eqb (opposite byte) byte apart))
          ]

module _ (ignore_case : Bool) (parent byte depth sid : ℕ) (old first : List State) (below : parent < length old) (led : IsLedTo parent byte depth old first (AddedState sid)) where
  grown : (new : List State) → Grows ignore_case parent byte depth old new → ListsMore ignore_case parent byte old new → HasChild ignore_case parent byte depth old new sid
  grown new grows lists =
      MatchBool-from_true ((sid ≡ length old) × Grows ignore_case parent byte depth old new × ListsMore ignore_case parent byte old new) ((sid ≡ next_in old parent byte) × (new ≡ old))
      (eq-eqb (next_in old parent byte) 1 led.0) (led.1, grows, lists)

  first_is : first ≡ one parent byte depth old below
  first_is = led.2 ∙ ap (set_transition (old ++ new_state depth ∷ []) parent byte) led.1

  -- or to a new one, and no other byte is compared as it is
  pub HasChild-one : IsAlone ignore_case byte → HasChild ignore_case parent byte depth old first sid
  HasChild-one alone =
      grown first
      (subst (Grows ignore_case parent byte depth old) (sym first_is) (Grows-one ignore_case parent byte depth old alone below))
      (subst (ListsMore ignore_case parent byte old) (sym first_is) (ListsMore-one parent byte depth old below ignore_case alone))

  -- or its other case leads to the new one too
  pub HasChild-two : (other : ℕ) (new : List State) → ignore_case ≡ true → other ≡ opposite byte → new ≡ set_transition first parent other sid → HasChild ignore_case parent byte depth old new sid
  HasChild-two other new folds other_is new_is =
      let both_is : new ≡ both parent byte depth old below =
      new_is
      ∙ ap (λ (t : List State). set_transition t parent other sid) first_is
      ∙ ap (λ (b : ℕ). set_transition (one parent byte depth old below) parent b sid) other_is
      ∙ ap (set_transition (one parent byte depth old below) parent (opposite byte)) led.1 in
      grown new
      (subst (λ (b : Bool). Grows b parent byte depth old new) (sym folds) (subst (Grows true parent byte depth old) (sym both_is) (Grows-two parent byte depth old below)))
      (subst (λ (b : Bool). ListsMore b parent byte old new) (sym folds) (subst (ListsMore true parent byte old) (sym both_is) (ListsMore-two parent byte depth old below)))
