-- Both starts get their transitions: the trie is then ready for the links.
use Rattle.std.proofs.Common.{◌≡◌, ℕ, ◌+◌, ◌<◌, ◌≢◌, Bool, ◌&&◌, not, cond, nat_eq, nat_lt, List, [], ◌∷◌, ◌++◌, length, Option, Some, None, MatchBool, refl, sym, ap, subst, ◌∙◌, inl, inr, arith}
use Rattle.std.proofs.lemmas.Bool.{cases_eq, cases_Bool, cond-true, cond-false, MatchBool-at_true, MatchBool-at_false}
use Rattle.std.proofs.lemmas.Bool.Decides.{nat_tests}
use Rattle.std.proofs.lemmas.List.{length-set}
use Rattle.aho_core.specs.declared.search.MatchKind.{MatchKind}
use Rattle.aho_core.specs.Among.{is_node_among}
use Rattle.aho_core.specs.Bytes.{folded}
use Rattle.aho_core.specs.Failure.{is_leftmost}
use Rattle.aho_core.specs.MatchList.{own_matches}
use Rattle.aho_core.specs.Patterns.{Patterns}
use Rattle.aho_core.specs.Trie.{is_node}
use Rattle.aho_laws.proofs.ByLinks.{is_empty, ends_here, is_cut-root}
use Rattle.aho_laws.proofs.Inserted.{own_among-all, is_node_among-all}
use Rattle.aho_build.specs.Starts.{root_loop, stops_at, looped, IsLedBelow, IsLedAsRoot, IsReady}
use Rattle.aho_build.specs.FailureLinks.{append_matches}
use Rattle.aho_build.specs.StateNames.{name_at}
use Rattle.aho_build.specs.Trie.{longer, missing_at, IsTrie, IsTrieOf}
use Rattle.aho_table.specs.Table.{fail_id, dead_id, State, state_at, next_in, matches_in, transition_at, with_transition, set_transition}
use Rattle.aho_build.specs.FirstStates.{anchored_id, root_id}
use Rattle.aho_table.proofs.States.{state_at-set_same, state_at-set_other}
use Rattle.aho_table.proofs.TransitionLists.{transition_at-with_transition, transition_at-with_transition_other}
use Rattle.aho_build.proofs.NamesOfTries.{named_ne_fail}

-- at first nothing was led
pub IsLedBelow-none : (sid : ℕ) (leads : ℕ → ℕ) (states : List State) → IsLedBelow sid 0 leads states states
IsLedBelow-none sid leads states = record {
  sized = refl;
  transitions = λ byte before. absurd (omega arith);
  later = λ byte after. refl;
  matches = refl;
  fail = refl;
  depth = refl;
  others = λ i ne. refl;
}

-- one byte more is led already
pub IsLedBelow-kept : (sid count : ℕ) (leads : ℕ → ℕ) (old states : List State) → IsLedBelow sid count leads old states → next_in old sid count ≡ leads count → IsLedBelow sid (count + 1) leads old states
IsLedBelow-kept sid count leads old states led is = record {
  sized = led.sized;
  transitions = λ byte before.
      elim (cases_eq byte count) [
        | inl here ↦ ap (next_in states sid) here ∙ led.later count (omega arith) ∙ is ∙ ap leads (sym here)
        | inr there ↦ led.transitions byte (omega arith)
      ];
  later = λ byte after. led.later byte (omega arith);
  matches = led.matches;
  fail = led.fail;
  depth = led.depth;
  others = led.others;
}

-- or it is led now
pub IsLedBelow-set : (sid count next : ℕ) (leads : ℕ → ℕ) (old states new : List State) → sid < length states → IsLedBelow sid count leads old states → next ≡ leads count → new ≡ set_transition states sid count next
    → IsLedBelow sid (count + 1) leads old new
IsLedBelow-set sid count next leads old states new below led is new_is =
    let state : State = record (state_at states sid) { transitions = with_transition (state_at states sid).transitions count next } in
    let here : state_at (set_transition states sid count next) sid ≡ state = state_at-set_same states sid state below in
    subst (λ (t : List State). IsLedBelow sid (count + 1) leads old t) (sym new_is)
    (record {
      sized = length-set states sid state ∙ led.sized;
      transitions = λ byte before.
          ap (λ (r : State). transition_at r.transitions byte) here
          ∙ elim (cases_eq byte count) [
            | inl same ↦ ap (transition_at (with_transition (state_at states sid).transitions count next)) same ∙ transition_at-with_transition (state_at states sid).transitions count next ∙ is ∙ ap leads (sym same)
            | inr other ↦ transition_at-with_transition_other (state_at states sid).transitions count next byte other ∙ led.transitions byte (omega arith)
          ];
      later = λ byte after.
          ap (λ (r : State). transition_at r.transitions byte) here
          ∙ transition_at-with_transition_other (state_at states sid).transitions count next byte (λ e. omega arith)
          ∙ led.later byte (omega arith);
      matches = ap (λ (r : State). r.matches) here ∙ led.matches;
      fail = ap (λ (r : State). r.fail) here ∙ led.fail;
      depth = ap (λ (r : State). r.depth) here ∙ led.depth;
      others = λ i ne. state_at-set_other states sid i state ne ∙ led.others i ne;
    })

-- the anchored start was led as the root is, and has got its patterns
pub IsLedAsRoot-both : (old mid new : List State) → anchored_id < length old → IsLedBelow anchored_id 256 (next_in old root_id) old mid → new ≡ append_matches mid anchored_id root_id → IsLedAsRoot old new
IsLedAsRoot-both old mid new below led new_is =
    let state : State = record (state_at mid anchored_id) { matches = (state_at mid anchored_id).matches ++ matches_in mid root_id } in
    let here : state_at (append_matches mid anchored_id root_id) anchored_id ≡ state = state_at-set_same mid anchored_id state (omega (arith, led.sized)) in
    subst (IsLedAsRoot old) (sym new_is)
    (record {
      sized = length-set mid anchored_id state ∙ led.sized;
      transitions = λ byte small. ap (λ (r : State). transition_at r.transitions byte) here ∙ led.transitions byte small;
      matches =
          ap (λ (r : State). r.matches) here
          ∙ ap (λ (l : List ℕ). l ++ matches_in mid root_id) led.matches
          ∙ ap (λ (r : State). matches_in old anchored_id ++ r.matches) (led.others root_id (λ e. omega arith));
      fail = ap (λ (r : State). r.fail) here ∙ led.fail;
      depth = ap (λ (r : State). r.depth) here ∙ led.depth;
      others = λ i ne. state_at-set_other mid anchored_id i state ne ∙ led.others i ne;
    })

-- where a byte leads that led nowhere, and where another one does
pub looped-free : (kind : MatchKind) (states : List State) (byte back : ℕ) → next_in states root_id byte ≡ fail_id → back ≡ cond (stops_at kind (matches_in states root_id)) dead_id root_id → back ≡ looped kind states byte
looped-free kind states byte back one is = is ∙ sym (free (next_in states root_id byte) (cond (stops_at kind (matches_in states root_id)) dead_id root_id) one)
  where
    free : (next other : ℕ) → next ≡ fail_id → cond (nat_eq next fail_id) other next ≡ other
    free next other e = grind (arith, nat_tests)

-- a byte that leads somewhere is left as it is
pub looped-taken : (kind : MatchKind) (states : List State) (byte : ℕ) → next_in states root_id byte ≢ fail_id → next_in states root_id byte ≡ looped kind states byte
looped-taken kind states byte there = sym (taken (next_in states root_id byte) (cond (stops_at kind (matches_in states root_id)) dead_id root_id) there)
  where
    -- no transition to a node is changed
    taken : (next other : ℕ) → next ≢ fail_id → cond (nat_eq next fail_id) other next ≡ next
    taken next other e = grind (arith, nat_tests)

-- the test of a state's list is the test of its word
pub stops_at-ends_here : (p : Patterns) (word : List ℕ) → stops_at p.kind (own_matches p word) ≡ ends_here p word
stops_at-ends_here p word = ap (λ (b : Bool). is_leftmost p.kind && b) (some (own_matches p word))
  where
    some : (xs : List ℕ) → nat_lt 0 (length xs) ≡ not (is_empty xs)
    some [] = refl
    some (x ∷ xs) = grind (arith, nat_tests)

module _ (p : Patterns) (names : List (Option (List ℕ))) (old mid new : List State) (of : IsTrieOf p (length p.words) names old)
    (as_root : IsLedAsRoot old mid) (led : IsLedBelow root_id 256 (looped p.kind mid) mid new) where
  trie : IsTrie p (is_node_among p (length p.words)) fail_id names old
  trie = of.trie

  root_state : state_at mid root_id ≡ state_at old root_id
  root_state = as_root.others root_id (λ e. omega arith)

  -- every state but the two starts stays
  state_kept : (i : ℕ) → i ≢ root_id → i ≢ anchored_id → state_at new i ≡ state_at old i
  state_kept i ne2 ne3 = led.others i ne2 ∙ as_root.others i ne3

  named_ne_anchored : (i : ℕ) (word : List ℕ) → name_at names i ≡ Some word → i ≢ anchored_id
  named_ne_anchored i word e here = let clash : Some word ≡ None = sym e ∙ ap (name_at names) here ∙ trie.anchored in cc

  -- a part of a named state's state that the loop keeps at the root
  part_kept : {X : Type 0} (part : State → X) → part (state_at new root_id) ≡ part (state_at mid root_id) → (i : ℕ) (word : List ℕ) → name_at names i ≡ Some word → part (state_at new i) ≡ part (state_at old i)
  part_kept part root i word e =
      elim (cases_eq i root_id) [
        | inl here ↦ ap (λ (n : ℕ). part (state_at new n)) here ∙ root ∙ ap part root_state ∙ ap (λ (n : ℕ). part (state_at old n)) (sym here)
        | inr there ↦ ap part (state_kept i there (named_ne_anchored i word e))
      ]

  -- the root's list is that of the empty word
  root_own : matches_in mid root_id ≡ own_matches p []
  root_own = ap (λ (r : State). r.matches) root_state ∙ of.lists root_id [] trie.root ∙ own_among-all p []

  -- what the code leads back to is what the root should
  back : cond (stops_at p.kind (matches_in mid root_id)) dead_id root_id ≡ root_loop p
  back = ap (λ (b : Bool). cond b dead_id root_id) (ap (stops_at p.kind) root_own ∙ stops_at-ends_here p [] ∙ sym (is_cut-root p))

  -- a byte of the root that led nowhere
  root_missing : (byte : ℕ) → byte < 256 → next_in old root_id byte ≡ fail_id → next_in new root_id byte ≡ root_loop p
  root_missing byte small one =
      led.transitions byte small
      ∙ sym (looped-free p.kind mid byte (cond (stops_at p.kind (matches_in mid root_id)) dead_id root_id) (ap (λ (r : State). transition_at r.transitions byte) root_state ∙ one) refl)
      ∙ back

  -- and one that led to a node
  root_taken : (byte : ℕ) → byte < 256 → next_in old root_id byte ≢ fail_id → next_in new root_id byte ≡ next_in old root_id byte
  root_taken byte small ne =
      let same : next_in mid root_id byte ≡ next_in old root_id byte = ap (λ (r : State). transition_at r.transitions byte) root_state in
      led.transitions byte small ∙ sym (looped-taken p.kind mid byte (λ e. ne (sym same ∙ e))) ∙ same

  taken : (i : ℕ) (word : List ℕ) (byte : ℕ) → name_at names i ≡ Some word → byte < 256 → next_in old i byte ≢ fail_id → next_in new i byte ≡ next_in old i byte
  taken i word byte e small ne =
      elim (cases_eq i root_id) [
        | inl here ↦
            (let old_next : next_in old root_id byte ≢ fail_id = λ f. ne (ap (λ (n : ℕ). next_in old n byte) here ∙ f) in
            ap (λ (n : ℕ). next_in new n byte) here ∙ root_taken byte small old_next ∙ ap (λ (n : ℕ). next_in old n byte) (sym here))
        | inr there ↦ ap (λ (r : State). transition_at r.transitions byte) (state_kept i there (named_ne_anchored i word e))
      ]

  -- so each named state leads where the trie of all patterns does
  transition_of : (i : ℕ) (word : List ℕ) (byte : ℕ) → name_at names i ≡ Some word → byte < 256
      → MatchBool (is_node p (longer p word byte)) (name_at names (next_in new i byte) ≡ Some (longer p word byte)) (next_in new i byte ≡ missing_at (root_loop p) word)
  transition_of i word byte e small =
      elim (cases_Bool (is_node_among p (length p.words) (longer p word byte))) [
        | inl there ↦
            (let leads : name_at names (next_in old i byte) ≡ Some (longer p word byte) =
            MatchBool-at_true (name_at names (next_in old i byte) ≡ Some (longer p word byte)) (next_in old i byte ≡ missing_at fail_id word) there (trie.transitions i word byte e small) in
            let stays : next_in new i byte ≡ next_in old i byte = taken i word byte e small (named_ne_fail p (is_node_among p (length p.words)) fail_id names old trie (next_in old i byte) (longer p word byte) leads) in
            subst (λ (b : Bool). MatchBool b (name_at names (next_in new i byte) ≡ Some (longer p word byte)) (next_in new i byte ≡ missing_at (root_loop p) word)) (sym there ∙ is_node_among-all p (longer p word byte))
            (ap (name_at names) stays ∙ leads))
        | inr none ↦
            (let gone : next_in old i byte ≡ missing_at fail_id word =
            MatchBool-at_false (name_at names (next_in old i byte) ≡ Some (longer p word byte)) (next_in old i byte ≡ missing_at fail_id word) none (trie.transitions i word byte e small) in
            subst (λ (b : Bool). MatchBool b (name_at names (next_in new i byte) ≡ Some (longer p word byte)) (next_in new i byte ≡ missing_at (root_loop p) word)) (sym none ∙ is_node_among-all p (longer p word byte))
            (missing word e gone))
      ]
    where
      missing : (word : List ℕ) → name_at names i ≡ Some word → next_in old i byte ≡ missing_at fail_id word → next_in new i byte ≡ missing_at (root_loop p) word
      missing [] e gone =
          let here : i ≡ root_id = trie.unique i root_id [] e trie.root in
          ap (λ (n : ℕ). next_in new n byte) here ∙ root_missing byte small (ap (λ (n : ℕ). next_in old n byte) (sym here) ∙ gone)
      missing (x ∷ word) e gone =
          let there : i ≢ root_id = λ here. (let clash : Some (x ∷ word) ≡ Some [] = sym e ∙ ap (name_at names) here ∙ trie.root in cc) in
          ap (λ (r : State). transition_at r.transitions byte) (state_kept i there (named_ne_anchored i (x ∷ word) e)) ∙ gone

  -- the table is still the trie
  trie_new : IsTrie p (is_node p) (root_loop p) names new
  trie_new = record {
    sized = trie.sized ∙ sym (led.sized ∙ as_root.sized);
    dead = trie.dead;
    fail = trie.fail;
    root = trie.root;
    anchored = trie.anchored;
    complete = λ i past below. trie.complete i past (omega (arith, led.sized, as_root.sized));
    dead_loop = λ byte small. ap (λ (r : State). transition_at r.transitions byte) (state_kept dead_id (λ e. omega arith) (λ e. omega arith)) ∙ trie.dead_loop byte small;
    unique = trie.unique;
    words = λ i word e. let was = trie.words i word e in (sym (is_node_among-all p word) ∙ was.0, was.1);
    closed = λ word byte plain h. sym (is_node_among-all p word) ∙ trie.closed word byte plain (is_node_among-all p (longer p word byte) ∙ h);
    depths = λ i word e. part_kept (λ (r : State). r.depth) led.depth i word e ∙ trie.depths i word e;
    transitions = transition_of;
    reached = λ i word byte e.
        let from = trie.reached i word byte e in
        let old_next : next_in old from.0 byte ≢ fail_id = λ g. named_ne_fail p (is_node_among p (length p.words)) fail_id names old trie i (word ++ byte ∷ []) e (sym from.4 ∙ g) in
        (from.0, from.1, from.2, from.3, taken from.0 word byte from.1 from.2 old_next ∙ from.4);
  }

  anchored_state : state_at new anchored_id ≡ state_at mid anchored_id
  anchored_state = led.others anchored_id (λ e. omega arith)

  -- the anchored start leads where the root does, to nodes alone
  anchored_next : (byte : ℕ) → byte < 256 → next_in new anchored_id byte ≡ cond (is_node p (folded p byte ∷ [])) (next_in new root_id byte) fail_id
  anchored_next byte small =
      let copied : next_in new anchored_id byte ≡ next_in old root_id byte = ap (λ (r : State). transition_at r.transitions byte) anchored_state ∙ as_root.transitions byte small in
      elim (cases_Bool (is_node_among p (length p.words) (longer p [] byte))) [
        | inl there ↦
            (let leads : name_at names (next_in old root_id byte) ≡ Some (longer p [] byte) =
            MatchBool-at_true (name_at names (next_in old root_id byte) ≡ Some (longer p [] byte)) (next_in old root_id byte ≡ fail_id) there (trie.transitions root_id [] byte trie.root small) in
            let stays = root_taken byte small (named_ne_fail p (is_node_among p (length p.words)) fail_id names old trie (next_in old root_id byte) (longer p [] byte) leads) in
            copied ∙ sym stays ∙ sym (cond-true (is_node p (folded p byte ∷ [])) (next_in new root_id byte) fail_id (sym (is_node_among-all p (longer p [] byte)) ∙ there)))
        | inr none ↦
            (let gone : next_in old root_id byte ≡ fail_id =
            MatchBool-at_false (name_at names (next_in old root_id byte) ≡ Some (longer p [] byte)) (next_in old root_id byte ≡ fail_id) none (trie.transitions root_id [] byte trie.root small) in
            copied ∙ gone ∙ sym (cond-false (is_node p (folded p byte ∷ [])) (next_in new root_id byte) fail_id (sym (is_node_among-all p (longer p [] byte)) ∙ none)))
      ]

  -- the trie with both starts led is ready for the links
  pub IsReady-from : IsReady p names new
  IsReady-from =
      let dead_state : state_at new dead_id ≡ state_at old dead_id = state_kept dead_id (λ e. omega arith) (λ e. omega arith) in
      record {
        trie = trie_new;
        dead = record {
          matches = ap (λ (r : State). r.matches) dead_state ∙ of.first.dead_matches;
          fail = ap (λ (r : State). r.fail) dead_state ∙ of.first.dead_fail;
          depth = ap (λ (r : State). r.depth) dead_state ∙ of.first.dead_depth;
        };
        anchored = record {
          next = anchored_next;
          matches =
              ap (λ (r : State). r.matches) anchored_state ∙ as_root.matches ∙ ap (λ (l : List ℕ). l ++ matches_in old root_id) of.first.anchored_matches
              ∙ of.lists root_id [] trie.root ∙ own_among-all p [];
          fail = ap (λ (r : State). r.fail) anchored_state ∙ as_root.fail ∙ of.first.anchored_fail;
          depth = ap (λ (r : State). r.depth) anchored_state ∙ as_root.depth ∙ of.first.anchored_depth;
        };
        lists = λ i word e. part_kept (λ (r : State). r.matches) led.matches i word e ∙ of.lists i word e ∙ own_among-all p word;
        unlinked = λ i word e. part_kept (λ (r : State). r.fail) led.fail i word e ∙ of.first.unlinked i word e;
      }

-- the same, of the kind that the code is given
pub IsReady-of_kind : (p : Patterns) (names : List (Option (List ℕ))) (kind : MatchKind) (old mid new : List State) → p.kind ≡ kind → IsTrieOf p (length p.words) names old
    → IsLedAsRoot old mid → IsLedBelow root_id 256 (looped kind mid) mid new → IsReady p names new
IsReady-of_kind p names kind old mid new same of as_root led =
    IsReady-from p names old mid new of as_root (subst (λ (k : MatchKind). IsLedBelow root_id 256 (looped k mid) mid new) (sym same) led)
