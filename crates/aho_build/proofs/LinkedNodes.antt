-- States that are named by nodes and whose links are made up to a length: what a step along them needs, as the laws of
-- linked states ask for it.
use Rattle.std.proofs.Common.{◌≡◌, ◌≢◌, ◌⊎◌, inl, inr, ℕ, ◌+◌, ◌<◌, ◌≤◌, true, false, cond, List, [], ◌∷◌, length, refl, sym, ◌∙◌, ap, subst, arith}
use Rattle.std.specs.Prelude.{Option, Some, None, nat_eq}
use Rattle.std.proofs.lemmas.Bool.{cases_Bool, cond-true, cond-false, eq-eqb, ne_eqb, MatchBool-at_true, MatchBool-at_false}
use Rattle.aho_core.specs.declared.search.Anchored.TheVariants.{No}
use Rattle.aho_core.specs.Bytes.{folded}
use Rattle.aho_core.specs.Failure.{is_cut, failure_of}
use Rattle.aho_core.specs.Patterns.{Patterns}
use Rattle.aho_core.specs.Step.{follow, lookups, depth_of}
use Rattle.aho_core.specs.Trie.{is_node}
use Rattle.aho_laws.proofs.LinkedStates.{Grown, Linked, taken, failed}
use Rattle.aho_laws.proofs.StepLaw.{follow-root}
use Rattle.aho_table.specs.Table.{State, dead_id, fail_id, next_in, fail_in, depth_in}
use Rattle.aho_build.specs.Automaton.{AreNodes, missing_from}
use Rattle.aho_build.specs.Starts.{IsDead}
use Rattle.aho_build.specs.StateNames.{name_at, IsStateOf}
use Rattle.aho_build.specs.Trie.{longer}
use Rattle.aho_build.proofs.NamesOfTries.{name_at-below}

-- DEAD, or a state with a name
abbrev pub IsNamed : List (Option (List ℕ)) → ℕ → Type 0
IsNamed names sid = (sid ≡ dead_id) ⊎ ((word : List ℕ) × (name_at names sid ≡ Some word))

-- the transition of a byte, where there is one
abbrev pub transition_of : List State → ℕ → ℕ → Option ℕ
transition_of states sid byte = cond (nat_eq (next_in states sid byte) fail_id) None (Some (next_in states sid byte))

transition-none : (states : List State) (sid byte : ℕ) → next_in states sid byte ≡ fail_id → transition_of states sid byte ≡ None
transition-none states sid byte e = cond-true (nat_eq (next_in states sid byte) fail_id) None (Some (next_in states sid byte)) (eq-eqb (next_in states sid byte) fail_id e)

transition-some : (states : List State) (sid byte : ℕ) → next_in states sid byte ≢ fail_id → transition_of states sid byte ≡ Some (next_in states sid byte)
transition-some states sid byte ne = cond-false (nat_eq (next_in states sid byte) fail_id) None (Some (next_in states sid byte)) (ne_eqb (next_in states sid byte) fail_id ne)

module _ (root : ℕ) (p : Patterns) (names : List (Option (List ℕ))) (states : List State) (nodes : AreNodes root p names states) where
  -- a named state is neither DEAD nor FAIL
  pub named-ne_dead : (sid : ℕ) (word : List ℕ) → name_at names sid ≡ Some word → sid ≢ dead_id
  named-ne_dead sid word e = λ z. let clash : None ≡ Some word = sym (nodes.dead) ∙ sym (ap (name_at names) z) ∙ e in cc

  pub named-ne_fail : (sid : ℕ) (word : List ℕ) → name_at names sid ≡ Some word → sid ≢ fail_id
  named-ne_fail sid word e = λ z. let clash : None ≡ Some word = sym (nodes.fail) ∙ sym (ap (name_at names) z) ∙ e in cc

  -- and is there
  pub named-below : (sid : ℕ) (word : List ℕ) → name_at names sid ≡ Some word → sid < length states
  named-below sid word e = omega (arith, nodes.sized, name_at-below names sid word e)

  -- where a byte leads a named state
  pub node_next : (sid : ℕ) (word : List ℕ) (byte : ℕ) → byte < 256 → name_at names sid ≡ Some word → is_node p (longer p word byte) ≡ true → name_at names (next_in states sid byte) ≡ Some (longer p word byte)
  node_next sid word byte small e node =
      MatchBool-at_true (name_at names (next_in states sid byte) ≡ Some (longer p word byte)) (next_in states sid byte ≡ missing_from root p word) node (nodes.transitions sid word byte e small)

  pub other_next : (sid : ℕ) (word : List ℕ) (byte : ℕ) → byte < 256 → name_at names sid ≡ Some word → is_node p (longer p word byte) ≡ false → next_in states sid byte ≡ missing_from root p word
  other_next sid word byte small e other =
      MatchBool-at_false (name_at names (next_in states sid byte) ≡ Some (longer p word byte)) (next_in states sid byte ≡ missing_from root p word) other (nodes.transitions sid word byte e small)

  -- the state of a word or of none
  pub state-named : (state : Option (List ℕ)) (sid : ℕ) → IsStateOf names state sid → IsNamed names sid × (name_at names sid ≡ state)
  state-named None sid e = (inl e, ap (name_at names) e ∙ nodes.dead)
  state-named (Some word) sid e = (inr (word, e), e)

  pub named-state : (state : Option (List ℕ)) (sid : ℕ) → IsNamed names sid → name_at names sid ≡ state → IsStateOf names state sid
  named-state None sid (inl e) is = e
  named-state None sid (inr w) is = let clash : Some w.0 ≡ None = sym w.1 ∙ is in cc
  named-state (Some word) sid ok is = is

  pub state_depth : IsDead states → (state : Option (List ℕ)) (sid : ℕ) → IsStateOf names state sid → depth_in states sid ≡ depth_of state
  state_depth dead None sid e = ap (depth_in states) e ∙ dead.depth
  state_depth dead (Some word) sid e = nodes.depths sid word e

  pub state_below : (state : Option (List ℕ)) (sid : ℕ) → IsStateOf names state sid → sid < length states
  state_below None sid e = omega (arith, named-below root [] nodes.root)
  state_below (Some word) sid e = named-below sid word e

  -- the root leads by a byte that begins no pattern where the root's word does
  root_next : (byte : ℕ) → is_node p (folded p byte ∷ []) ≡ false → IsStateOf names (follow p No (Some []) (folded p byte)) (missing_from root p [])
  root_next byte other =
      subst (λ (o : Option (List ℕ)). IsStateOf names o (missing_from root p [])) (sym (follow-root p (folded p byte) other))
      (elim (cases_Bool (is_cut p [])) [
        | inl cut ↦ rw cut refl
        | inr uncut ↦ rw uncut nodes.root
      ])

  pub root_next-ne : missing_from root p [] ≢ fail_id
  root_next-ne e =
      elim (cases_Bool (is_cut p [])) [
        | inl cut ↦ omega (arith, e, cond-true {A = ℕ} (is_cut p []) dead_id root cut)
        | inr uncut ↦ named-ne_fail root [] nodes.root (sym (cond-false {A = ℕ} (is_cut p []) dead_id root uncut) ∙ e)
      ]

  grown : Grown p (is_node p) (IsNamed names) (name_at names) (transition_of states)
  grown = record {
    is_node_word = λ s u ok e. (nodes.words s u e).0;
    takes = λ s u x small ok e node.
        let leads = node_next s u x small e node in
        (next_in states s x, transition-some states s x (named-ne_fail (next_in states s x) (longer p u x) leads), inr (longer p u x, leads), leads);
    dead = λ s x small ok e. from_dead s x small ok e;
  }
    where
      from_dead : (s x : ℕ) → x < 256 → IsNamed names s → name_at names s ≡ None → (t : ℕ) × (transition_of states s x ≡ Some t) × IsNamed names t × (name_at names t ≡ None)
      from_dead s x small (inr w) e = let clash : Some w.0 ≡ None = sym w.1 ∙ e in cc
      from_dead s x small (inl z) e =
          let leads : next_in states s x ≡ dead_id = ap (λ (i : ℕ). next_in states i x) z ∙ nodes.dead_loop x small in
          let other : next_in states s x ≢ fail_id = λ one. omega arith in
          (0, transition-some states s x other ∙ ap Some leads, inl refl, nodes.dead)

  module _ (n : ℕ) (links : (i : ℕ) (word : List ℕ) → name_at names i ≡ Some word → word ≢ [] → length word ≤ n → IsStateOf names (failure_of p word) (fail_in states i)) where
    linked : Linked p n (IsNamed names) (name_at names) (transition_of states) (fail_in states)
    linked = record {
      grown = grown;
      root = λ s x small ok e other.
          let leads : next_in states s x ≡ missing_from root p [] = other_next s [] x small e other in
          let state = state-named (follow p No (Some []) (folded p x)) (missing_from root p []) (root_next x other) in
          (missing_from root p [], transition-some states s x (λ one. root_next-ne (sym leads ∙ one)) ∙ ap Some leads, state.0, state.1);
      only = λ s y u x small ok e other. transition-none states s x (other_next s (y ∷ u) x small e other);
      links = λ s y u ok e near. state-named (failure_of p (y ∷ u)) (fail_in states s) (links s (y ∷ u) e (λ z. cc) near);
    }

    -- where a state takes the byte the step is done, with one look-up
    pub step-taken : (state : Option (List ℕ)) (sid byte : ℕ) → byte < 256 → IsStateOf names state sid → next_in states sid byte ≢ fail_id
        → IsStateOf names (follow p No state (folded p byte)) (next_in states sid byte) × (lookups p No state (folded p byte) ≡ 1)
    step-taken state sid byte small is ne =
        let s = state-named state sid is in
        let t = taken p n (IsNamed names) (name_at names) (transition_of states) (fail_in states) linked sid (next_in states sid byte) byte small s.0 (transition-some states sid byte ne) in (
          named-state (follow p No state (folded p byte)) (next_in states sid byte) t.0 (t.1 ∙ ap (λ (o : Option (List ℕ)). follow p No o (folded p byte)) s.1),
          sym (ap (λ (o : Option (List ℕ)). lookups p No o (folded p byte)) s.1) ∙ t.2,
        )

    -- where it doesn't the step goes on from its link, which is nearer to the start, with one look-up more
    pub step-failed : (state : Option (List ℕ)) (sid byte : ℕ) → byte < 256 → depth_of state ≤ n → IsStateOf names state sid → next_in states sid byte ≡ fail_id
        → (further : Option (List ℕ)) × IsStateOf names further (fail_in states sid) × (depth_of further < depth_of state)
        × (follow p No state (folded p byte) ≡ follow p No further (folded p byte)) × (lookups p No state (folded p byte) ≡ 1 + lookups p No further (folded p byte))
    step-failed state sid byte small near is e =
        let s = state-named state sid is in
        let t = failed p n (IsNamed names) (name_at names) (transition_of states) (fail_in states) linked sid byte small s.0 (omega (arith, near, ap depth_of s.1)) (transition-none states sid byte e) in (
          name_at names (fail_in states sid),
          named-state (name_at names (fail_in states sid)) (fail_in states sid) t.0 refl,
          omega (arith, t.3, ap depth_of s.1),
          sym (ap (λ (o : Option (List ℕ)). follow p No o (folded p byte)) s.1) ∙ t.1,
          sym (ap (λ (o : Option (List ℕ)). lookups p No o (folded p byte)) s.1) ∙ t.2,
        )
