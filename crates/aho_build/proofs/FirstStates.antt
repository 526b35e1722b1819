-- States that take every byte, and the first four states.
use Rattle.std.proofs.Common.{◌≡◌, ◌≢◌, ℕ, zero, suc, ◌+◌, ◌<◌, Bool, true, false, List, [], ◌∷◌, ◌++◌, length, Option, Some, MatchBool, cond, get_or, add-zero, add_assoc, refl, sym, ap, subst, ◌∙◌, inl, inr, arith}
use Rattle.std.proofs.lemmas.Bool.{cases_eq}
use Rattle.std.proofs.lemmas.List.{get_or_default, length-set}
use Rattle.aho_core.specs.Among.{is_node_among}
use Rattle.aho_core.specs.Bytes.{folded_word}
use Rattle.aho_core.specs.Patterns.{Patterns}
use Rattle.aho_laws.proofs.Inserted.{is_node_among-none, own_among-none}
use Rattle.aho_build.specs.FirstStates.{root_id, anchored_id}
use Rattle.aho_build.specs.Trie.{AreListed, HoldsFirst, names_of, longer, missing_at, IsTrieOf}
use Rattle.aho_build.specs.TrieGrowth.{IsFilledBelow}
use Rattle.aho_build.specs.StateNames.{name_at}
use Rattle.aho_table.specs.Table.{dead_id, fail_id, State, new_state, state_at, next_in, depth_in, fail_in, matches_in, transition_at, with_transition, set_transition, set_fail_of, lists_transition, lists_byte, IsRising, transitions_count, matches_count}
use Rattle.aho_table.proofs.TransitionLists.{transition_at-with_transition, transition_at-with_transition_other}
use Rattle.aho_build.proofs.CountedTrie.{AreListed-states}
use Rattle.aho_build.proofs.ListedBytes.{transitions_count-set_transition, matches_count-set_transition, lists_byte-set_transition, lists_byte-set_transition_other, IsRising-set_transition}
use Rattle.aho_table.proofs.States.{transitions_count-set, matches_count-set, state_at-set_same, state_at-set_other}
use Rattle.aho_build.proofs.Nodes.{is_node_among-root}

pub IsFilledBelow-none : (sid next : ℕ) (states : List State) → (state_at states sid).transitions ≡ [] → IsFilledBelow sid next 0 states states
IsFilledBelow-none sid next states empty = record {
  rising = subst IsRising (sym empty) tt;
  listed = λ byte small. absurd (omega arith);
  unlisted = λ byte late. ap (λ (transitions : List (ℕ × ℕ)). lists_transition transitions byte) empty;
  transitions_more = sym (add-zero (transitions_count states));
  matches_same = refl;
  sized = refl;
  transitions = λ byte small. absurd (omega arith);
  matches = refl;
  fail = refl;
  depth = refl;
  others = λ i ne. refl;
}

pub IsFilledBelow-more : (sid next count : ℕ) (old states new : List State) → sid < length states → IsFilledBelow sid next count old states → new ≡ set_transition states sid count next
    → IsFilledBelow sid next (count + 1) old new
IsFilledBelow-more sid next count old states new below filled new_is =
    let state : State = record (state_at states sid) { transitions = with_transition (state_at states sid).transitions count next } in
    let here : state_at (set_transition states sid count next) sid ≡ state = state_at-set_same states sid state below in
    subst (λ (t : List State). IsFilledBelow sid next (count + 1) old t) (sym new_is)
    (record {
      sized = length-set states sid state ∙ filled.sized;
      transitions = λ byte small.
          ap (λ (r : State). transition_at r.transitions byte) here
          ∙ elim (cases_eq byte count) [
            | inl same ↦ ap (transition_at (with_transition (state_at states sid).transitions count next)) same ∙ transition_at-with_transition (state_at states sid).transitions count next
            | inr other ↦ transition_at-with_transition_other (state_at states sid).transitions count next byte other ∙ filled.transitions byte (omega arith)
          ];
      matches = ap (λ (r : State). r.matches) here ∙ filled.matches;
      fail = ap (λ (r : State). r.fail) here ∙ filled.fail;
      depth = ap (λ (r : State). r.depth) here ∙ filled.depth;
      others = λ i ne. state_at-set_other states sid i state ne ∙ filled.others i ne;
      rising = IsRising-set_transition states sid count next below filled.rising;
      listed = λ byte small.
          elim (cases_eq byte count) [
            | inl same ↦ ap (lists_byte (set_transition states sid count next) sid) same ∙ lists_byte-set_transition states sid count next below
            | inr other ↦ lists_byte-set_transition_other states sid count next below byte other ∙ filled.listed byte (omega arith)
          ];
      unlisted = λ byte late. lists_byte-set_transition_other states sid count next below byte (λ e. omega arith) ∙ filled.unlisted byte (omega arith);
      transitions_more = transitions_count-set_transition states sid count next below filled.rising
          ∙ ap (λ (b : Bool). transitions_count states + cond b 0 1) (filled.unlisted count (omega arith))
          ∙ ap (λ (n : ℕ). n + 1) filled.transitions_more ∙ add_assoc (transitions_count old) count 1;
      matches_same = matches_count-set_transition states sid count next below ∙ filled.matches_same;
    })

-- what the four first states are once they are made, but for their links
record IsFilled (states : List State) : Type 0 where
  sized : length states ≡ 4
  listed : AreListed states
  transitions : transitions_count states ≡ 769
  matches : matches_count states ≡ 1
  dead : (byte : ℕ) → byte < 256 → next_in states dead_id byte ≡ dead_id
  root : (byte : ℕ) → byte < 256 → next_in states root_id byte ≡ fail_id
  anchored : (byte : ℕ) → byte < 256 → next_in states anchored_id byte ≡ fail_id
  no_matches : (i : ℕ) → matches_in states i ≡ []
  depths : (i : ℕ) → depth_in states i ≡ 0

-- and with their links
record IsFirst (states : List State) : Type 0 where
  filled : IsFilled states
  dead_fail : fail_in states dead_id ≡ dead_id
  fail_fail : fail_in states fail_id ≡ dead_id
  root_fail : fail_in states root_id ≡ fail_id
  anchored_fail : fail_in states anchored_id ≡ dead_id

abbrev four : List State
four = new_state 0 ∷ new_state 0 ∷ new_state 0 ∷ new_state 0 ∷ []

four_row : (i : ℕ) → state_at four i ≡ new_state 0
four_row zero = refl
four_row (suc zero) = refl
four_row (suc (suc zero)) = refl
four_row (suc (suc (suc zero))) = refl
four_row (suc (suc (suc (suc i)))) = refl

module _ (sid next count : ℕ) (old new : List State) (filled : IsFilledBelow sid next count old new) where
  filled_matches : (i : ℕ) → matches_in new i ≡ matches_in old i
  filled_matches i =
      elim (cases_eq i sid) [
        | inl here ↦ ap (matches_in new) here ∙ filled.matches ∙ ap (matches_in old) (sym here)
        | inr there ↦ ap (λ (r : State). r.matches) (filled.others i there)
      ]

  filled_depth : (i : ℕ) → depth_in new i ≡ depth_in old i
  filled_depth i =
      elim (cases_eq i sid) [
        | inl here ↦ ap (depth_in new) here ∙ filled.depth ∙ ap (depth_in old) (sym here)
        | inr there ↦ ap (λ (r : State). r.depth) (filled.others i there)
      ]

  filled_fail : (i : ℕ) → fail_in new i ≡ fail_in old i
  filled_fail i =
      elim (cases_eq i sid) [
        | inl here ↦ ap (fail_in new) here ∙ filled.fail ∙ ap (fail_in old) (sym here)
        | inr there ↦ ap (λ (r : State). r.fail) (filled.others i there)
      ]

-- each list of the four rises, and three have every byte
AreListed-from : (a b c : List State) → IsFilledBelow 2 1 256 four a → IsFilledBelow 3 1 256 a b → IsFilledBelow 0 0 256 b c → AreListed c
AreListed-from a b c fa fb fc =
    let rest : (i : ℕ) → i ≢ 0 → i ≢ 2 → i ≢ 3 → state_at c i ≡ new_state 0 =
    λ i no_dead no_root no_anchored. fc.others i no_dead ∙ fb.others i no_anchored ∙ fa.others i no_root ∙ four_row i in
    record {
      rising = λ i.
          elim (cases_eq i 0) [
            | inl dead ↦ subst (λ (n : ℕ). IsRising (state_at c n).transitions) (sym dead) fc.rising
            | inr no_dead ↦
                elim (cases_eq i 3) [
                  | inl anchored ↦ subst (λ (n : ℕ). IsRising (state_at c n).transitions) (sym anchored) (subst (λ (r : State). IsRising r.transitions) (sym (fc.others 3 (λ e. cc))) fb.rising)
                  | inr no_anchored ↦
                      elim (cases_eq i 2) [
                        | inl root ↦ subst (λ (n : ℕ). IsRising (state_at c n).transitions) (sym root) (subst (λ (r : State). IsRising r.transitions) (sym (fc.others 2 (λ e. cc) ∙ fb.others 2 (λ e. cc))) fa.rising)
                        | inr no_root ↦ subst (λ (r : State). IsRising r.transitions) (sym (rest i no_dead no_root no_anchored)) tt
                      ]
                ]
          ];
      dead_full = fc.listed;
      root_full = λ byte small. ap (λ (r : State). lists_transition r.transitions byte) (fc.others 2 (λ e. cc) ∙ fb.others 2 (λ e. cc)) ∙ fa.listed byte small;
      anchored_full = λ byte small. ap (λ (r : State). lists_transition r.transitions byte) (fc.others 3 (λ e. cc)) ∙ fb.listed byte small;
      fail_none = λ byte. ap (λ (r : State). lists_transition r.transitions byte) (rest 1 (λ e. cc) (λ e. cc) (λ e. cc));
      leading = λ i byte late small is one.
          let none : lists_byte c i byte ≡ false = ap (λ (r : State). lists_transition r.transitions byte) (rest i (λ e. omega arith) (λ e. omega arith) (λ e. omega arith)) in
          let clash : true ≡ false = sym is ∙ none in
          cc;
    }

IsFilled-from : (a b c : List State) → IsFilledBelow 2 1 256 four a → IsFilledBelow 3 1 256 a b → IsFilledBelow 0 0 256 b c → IsFilled c
IsFilled-from a b c fa fb fc = record {
  sized = fc.sized ∙ fb.sized ∙ fa.sized;
  listed = AreListed-from a b c fa fb fc;
  transitions = omega (arith, fc.transitions_more, fb.transitions_more, fa.transitions_more);
  matches = fc.matches_same ∙ fb.matches_same ∙ fa.matches_same;
  dead = fc.transitions;
  root = λ byte small. ap (λ (r : State). transition_at r.transitions byte) (fc.others 2 (λ e. cc) ∙ fb.others 2 (λ e. cc)) ∙ fa.transitions byte small;
  anchored = λ byte small. ap (λ (r : State). transition_at r.transitions byte) (fc.others 3 (λ e. cc)) ∙ fb.transitions byte small;
  no_matches = λ i. filled_matches 0 0 256 b c fc i ∙ filled_matches 3 1 256 a b fb i ∙ filled_matches 2 1 256 four a fa i ∙ ap (λ (r : State). r.matches) (four_row i);
  depths = λ i. filled_depth 0 0 256 b c fc i ∙ filled_depth 3 1 256 a b fb i ∙ filled_depth 2 1 256 four a fa i ∙ ap (λ (r : State). r.depth) (four_row i);
}

unlinked-from : (a b c : List State) → IsFilledBelow 2 1 256 four a → IsFilledBelow 3 1 256 a b → IsFilledBelow 0 0 256 b c → (i : ℕ) → fail_in c i ≡ fail_id
unlinked-from a b c fa fb fc i = filled_fail 0 0 256 b c fc i ∙ filled_fail 3 1 256 a b fb i ∙ filled_fail 2 1 256 four a fa i ∙ ap (λ (r : State). r.fail) (four_row i)

-- a link that is set changes nothing else
part-set_fail : {X : Type 0} (part : State → X) (states : List State) (sid fail : ℕ) → sid < length states → ((state : State) → part (record state { fail = fail }) ≡ part state)
    → (i : ℕ) → part (state_at (set_fail_of states sid fail) i) ≡ part (state_at states i)
part-set_fail part states sid fail below same i =
    let state : State = record (state_at states sid) { fail = fail } in
    elim (cases_eq i sid) [
      | inl here ↦ ap (λ (n : ℕ). part (state_at (set_fail_of states sid fail) n)) here ∙ ap part (state_at-set_same states sid state below) ∙ same (state_at states sid) ∙ ap (λ (n : ℕ). part (state_at states n)) (sym here)
      | inr there ↦ ap part (state_at-set_other states sid i state there)
    ]

abbrev linked_rows : List State → List State
linked_rows states = set_fail_of (set_fail_of (set_fail_of states 0 0) 1 0) 3 0

part-linked : {X : Type 0} (part : State → X) (states : List State) → length states ≡ 4 → ((state : State) → part (record state { fail = 0 }) ≡ part state) → (i : ℕ) → part (state_at (linked_rows states) i) ≡ part (state_at states i)
part-linked part states size same i =
    let one = length-set_fail states 0 0 in
    let two = length-set_fail (set_fail_of states 0 0) 1 0 in
    part-set_fail part (set_fail_of (set_fail_of states 0 0) 1 0) 3 0 (omega (arith, size, one, two)) same i
    ∙ part-set_fail part (set_fail_of states 0 0) 1 0 (omega (arith, size, one)) same i
    ∙ part-set_fail part states 0 0 (omega (arith, size)) same i
  where
    length-set_fail : (xs : List State) (sid fail : ℕ) → length (set_fail_of xs sid fail) ≡ length xs
    length-set_fail xs sid fail = length-set xs sid (record (state_at xs sid) { fail = fail })

fail-set_same : (states : List State) (sid fail : ℕ) → sid < length states → fail_in (set_fail_of states sid fail) sid ≡ fail
fail-set_same states sid fail below = ap (λ (r : State). r.fail) (state_at-set_same states sid (record (state_at states sid) { fail = fail }) below)

fail-set_other : (states : List State) (sid fail i : ℕ) → i ≢ sid → fail_in (set_fail_of states sid fail) i ≡ fail_in states i
fail-set_other states sid fail i ne = ap (λ (r : State). r.fail) (state_at-set_other states sid i (record (state_at states sid) { fail = fail }) ne)

-- nor do the counts change
counts-set_fail : (states : List State) (sid fail : ℕ) → sid < length states
    → (transitions_count (set_fail_of states sid fail) ≡ transitions_count states) × (matches_count (set_fail_of states sid fail) ≡ matches_count states)
counts-set_fail states sid fail below =
    let state : State = record (state_at states sid) { fail = fail } in
    let old_is : state_at states sid ≡ get_or states sid (state_at states sid) = get_or_default states sid (new_state 0) (state_at states sid) below in
    (omega (arith, transitions_count-set states sid state (state_at states sid) below old_is), omega (arith, matches_count-set states sid state (state_at states sid) below old_is))

IsFirst-linked : (states : List State) → IsFilled states → ((i : ℕ) → fail_in states i ≡ fail_id) → IsFirst (linked_rows states)
IsFirst-linked states filled unlinked =
    let a : List State = set_fail_of states 0 0 in
    let b : List State = set_fail_of a 1 0 in
    let a_size : length a ≡ 4 = length-set states 0 (record (state_at states 0) { fail = 0 }) ∙ filled.sized in
    let b_size : length b ≡ 4 = length-set a 1 (record (state_at a 1) { fail = 0 }) ∙ a_size in
    record {
      filled = record {
        sized = length-set b 3 (record (state_at b 3) { fail = 0 }) ∙ b_size;
        listed = AreListed-states states (linked_rows states) (part-linked (λ (r : State). r.transitions) states filled.sized (λ state. refl)) filled.listed;
        transitions = (counts-set_fail b 3 0 (omega (arith, b_size))).0 ∙ (counts-set_fail a 1 0 (omega (arith, a_size))).0 ∙ (counts-set_fail states 0 0 (omega (arith, filled.sized))).0 ∙ filled.transitions;
        matches = (counts-set_fail b 3 0 (omega (arith, b_size))).1 ∙ (counts-set_fail a 1 0 (omega (arith, a_size))).1 ∙ (counts-set_fail states 0 0 (omega (arith, filled.sized))).1 ∙ filled.matches;
        dead = λ byte small. part-linked (λ (r : State). transition_at r.transitions byte) states filled.sized (λ state. refl) 0 ∙ filled.dead byte small;
        root = λ byte small. part-linked (λ (r : State). transition_at r.transitions byte) states filled.sized (λ state. refl) 2 ∙ filled.root byte small;
        anchored = λ byte small. part-linked (λ (r : State). transition_at r.transitions byte) states filled.sized (λ state. refl) 3 ∙ filled.anchored byte small;
        no_matches = λ i. part-linked (λ (r : State). r.matches) states filled.sized (λ state. refl) i ∙ filled.no_matches i;
        depths = λ i. part-linked (λ (r : State). r.depth) states filled.sized (λ state. refl) i ∙ filled.depths i;
      };
      dead_fail = fail-set_other b 3 0 0 (λ e. cc) ∙ fail-set_other a 1 0 0 (λ e. cc) ∙ fail-set_same states 0 0 (omega (arith, filled.sized));
      fail_fail = fail-set_other b 3 0 1 (λ e. cc) ∙ fail-set_same a 1 0 (omega (arith, a_size));
      root_fail = fail-set_other b 3 0 2 (λ e. cc) ∙ fail-set_other a 1 0 2 (λ e. cc) ∙ fail-set_other states 0 0 2 (λ e. cc) ∙ unlinked 2;
      anchored_fail = fail-set_same b 3 0 (omega (arith, b_size));
    }

-- the names of the first four states: DEAD, FAIL, the unanchored and the anchored start
abbrev start_names : List (Option (List ℕ))
start_names = names_of []

start_word : (i : ℕ) (word : List ℕ) → name_at start_names i ≡ Some word → (i ≡ 2) × (word ≡ [])
start_word zero word e = cc
start_word (suc zero) word e = cc
start_word (suc (suc zero)) word e = (refl, cc)
start_word (suc (suc (suc zero))) word e = cc
start_word (suc (suc (suc (suc i)))) word e = cc

start_longer : (i : ℕ) (word : List ℕ) (byte : ℕ) → name_at start_names i ≡ Some (word ++ byte ∷ []) → ⊥
start_longer i [] byte e = let f = (start_word i (byte ∷ []) e).1 in cc
start_longer i (x ∷ word) byte e = let f = (start_word i (x ∷ (word ++ byte ∷ [])) e).1 in cc

nothing_below : (p : Patterns) (word : List ℕ) (byte : ℕ) → is_node_among p 0 (longer p word byte) ≡ false
nothing_below p [] byte = is_node_among-none p _ []
nothing_below p (x ∷ word) byte = is_node_among-none p x _

-- at first the root alone is there
IsTrieOf-start : (p : Patterns) (states : List State) → IsFirst states → IsTrieOf p 0 start_names states
IsTrieOf-start p states start = record {
  trie = record {
    sized = sym start.filled.sized;
    dead = refl;
    fail = refl;
    root = refl;
    anchored = refl;
    complete = λ i late below. absurd (omega (arith, late, below, start.filled.sized));
    dead_loop = start.filled.dead;
    unique = λ i j word e f. (start_word i word e).0 ∙ sym (start_word j word f).0;
    words = λ i word e.
        let is_root = (start_word i word e).1 in
        (ap (is_node_among p 0) is_root ∙ is_node_among-root p 0, ap (folded_word p) is_root ∙ sym is_root);
    closed = λ word byte plain h. let clash : true ≡ false = sym h ∙ nothing_below p word byte in cc;
    depths = λ i word e. start.filled.depths i ∙ sym (ap length (start_word i word e).1);
    transitions = λ i word byte e small.
        let is_root = start_word i word e in
        subst (λ (b : Bool). MatchBool b (name_at start_names (next_in states i byte) ≡ Some (longer p word byte)) (next_in states i byte ≡ missing_at 1 word))
        (sym (nothing_below p word byte))
        (ap (λ (n : ℕ). next_in states n byte) is_root.0 ∙ start.filled.root byte small ∙ ap (missing_at 1) (sym is_root.1));
    reached = λ i word byte e. absurd (start_longer i word byte e);
  };
  lists = λ i word e. start.filled.no_matches i ∙ sym (own_among-none p word);
  first = record {
    dead_fail = start.dead_fail;
    dead_matches = start.filled.no_matches 0;
    dead_depth = start.filled.depths 0;
    fail_fail = start.fail_fail;
    anchored_fail = start.anchored_fail;
    fail_matches = start.filled.no_matches 1;
    fail_depth = start.filled.depths 1;
    anchored_matches = start.filled.no_matches 3;
    anchored_depth = start.filled.depths 3;
    anchored_next = start.filled.anchored;
    unlinked = λ i word e. ap (fail_in states) (start_word i word e).0 ∙ start.root_fail;
  };
}

HoldsFirst-start : (p : Patterns) (states : List State) → IsFirst states → HoldsFirst p 0 states
HoldsFirst-start p states start = record {
  trie = IsTrieOf-start p states start;
  counted = record { state_count = start.filled.sized; transitions = start.filled.transitions; matches = start.filled.matches };
  listed = start.filled.listed;
}

-- the states with one more state
abbrev pub Adds : List State → List State → ℕ → Type 0
Adds old new sid = (sid ≡ length old) × (new ≡ old ++ new_state 0 ∷ [])

-- the states as they are made
pub HoldsFirst-made : (p : Patterns) (empty one two three all a b c d e f : List State) (dead fail start anchored : ℕ) → empty ≡ [] → Adds empty one dead → Adds one two fail → Adds two three start → Adds three all anchored
    → IsFilledBelow start fail 256 all a → IsFilledBelow anchored fail 256 a b → IsFilledBelow dead dead 256 b c
    → d ≡ set_fail_of c dead dead → e ≡ set_fail_of d fail dead → f ≡ set_fail_of e anchored dead → HoldsFirst p 0 f
HoldsFirst-made p empty one two three all a b c d e f dead fail start anchored e0 e1 e2 e3 e4 fa fb fc d_is e_is f_is =
    let one_is : one ≡ new_state 0 ∷ [] = e1.1 ∙ ap (λ (t : List State). t ++ new_state 0 ∷ []) e0 in
    let two_is : two ≡ new_state 0 ∷ new_state 0 ∷ [] = e2.1 ∙ ap (λ (t : List State). t ++ new_state 0 ∷ []) one_is in
    let three_is : three ≡ new_state 0 ∷ new_state 0 ∷ new_state 0 ∷ [] = e3.1 ∙ ap (λ (t : List State). t ++ new_state 0 ∷ []) two_is in
    let all_is : all ≡ four = e4.1 ∙ ap (λ (t : List State). t ++ new_state 0 ∷ []) three_is in
    let dead_is : dead ≡ 0 = e1.0 ∙ ap length e0 in
    let fail_is : fail ≡ 1 = e2.0 ∙ ap length one_is in
    let start_is : start ≡ 2 = e3.0 ∙ ap length two_is in
    let anchored_is : anchored ≡ 3 = e4.0 ∙ ap length three_is in
    let root_filled : IsFilledBelow 2 1 256 four a =
    subst (λ (t : List State). IsFilledBelow 2 1 256 t a) all_is (subst (λ (n : ℕ). IsFilledBelow 2 n 256 all a) fail_is (subst (λ (n : ℕ). IsFilledBelow n fail 256 all a) start_is fa)) in
    let anchored_filled : IsFilledBelow 3 1 256 a b = subst (λ (n : ℕ). IsFilledBelow 3 n 256 a b) fail_is (subst (λ (n : ℕ). IsFilledBelow n fail 256 a b) anchored_is fb) in
    let dead_filled : IsFilledBelow 0 0 256 b c = subst (λ (n : ℕ). IsFilledBelow n n 256 b c) dead_is fc in
    let d_rows : d ≡ set_fail_of c 0 0 = d_is ∙ ap (λ (n : ℕ). set_fail_of c n n) dead_is in
    let e_rows : e ≡ set_fail_of (set_fail_of c 0 0) 1 0 = e_is ∙ ap (λ (t : List State). set_fail_of t fail dead) d_rows ∙ ap (λ (n : ℕ). set_fail_of (set_fail_of c 0 0) n dead) fail_is ∙ ap (set_fail_of (set_fail_of c 0 0) 1) dead_is in
    let f_rows : f ≡ linked_rows c =
    f_is ∙ ap (λ (t : List State). set_fail_of t anchored dead) e_rows ∙ ap (λ (n : ℕ). set_fail_of (set_fail_of (set_fail_of c 0 0) 1 0) n dead) anchored_is ∙ ap (set_fail_of (set_fail_of (set_fail_of c 0 0) 1 0) 3) dead_is in
    subst (HoldsFirst p 0) (sym f_rows) (HoldsFirst-start p (linked_rows c) (IsFirst-linked c (IsFilled-from a b c root_filled anchored_filled dead_filled) (unlinked-from a b c root_filled anchored_filled dead_filled)))
