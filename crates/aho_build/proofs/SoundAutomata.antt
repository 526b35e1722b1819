-- A step over the table of an automaton is sound: it ends, and is paid for by the depth of its states.
use Rattle.std.proofs.Common.{◌≡◌, ◌≢◌, ◌⊎◌, inl, inr, ℕ, ◌+◌, ◌<◌, ◌≤◌, cond, List, [], ◌∷◌, length, map, refl, sym, ◌∙◌, ap, arith}
use Rattle.std.specs.Prelude.{Option, Some, None, nat_eq}
use Rattle.std.proofs.lemmas.Bool.{cases_Bool, cases_eq, cases_lt, cond-true, cond-false, eq-eqb, ne_eqb}
use Rattle.std.proofs.lemmas.List.{get_or_past, length_push}
use Rattle.aho_core.specs.Bytes.{folded}
use Rattle.aho_core.specs.Failure.{is_cut}
use Rattle.aho_core.specs.Laws.{longest}
use Rattle.aho_core.specs.Patterns.{Patterns}
use Rattle.aho_core.specs.Trie.{is_node}
use Rattle.aho_laws.proofs.WordAutomaton.{length-node}
use Rattle.aho_table.specs.Table.{State, dead_id, fail_id, new_state, next_in, fail_in, depth_in}
use Rattle.aho_build.specs.Automaton.{IsAutomaton, missing_from}
use Rattle.aho_build.specs.declared.special.Special.{Special}
use Rattle.aho_build.specs.StateNames.{name_at, IsStateOf}
use Rattle.aho_build.specs.Trie.{longer}
use Rattle.aho_build.specs.Walking.{IsState, links_left, IsSound, AreStarts}
use Rattle.aho_build.proofs.LinkedNodes.{IsNamed, named-ne_dead, named-ne_fail, named-below, node_next, other_next, state_depth, step-failed}

module _ (special : Special) (p : Patterns) (names : List (Option (List ℕ))) (states : List State) (a : IsAutomaton special p names states) where
  abbrev root : ℕ
  root = special.start_unanchored_id

  abbrev anchored_start : ℕ
  anchored_start = special.start_anchored_id

  -- the states there are: DEAD, FAIL, the anchored start, and those with a name
  state_cases : (sid : ℕ) → IsState states sid → IsNamed names sid ⊎ (sid ≡ anchored_start)
  state_cases sid ok =
      elim (cases_eq sid 0) [
        | inl e ↦ inl (inl e)
        | inr alive ↦
            elim (cases_eq sid anchored_start) [
              | inl e ↦ inr e
              | inr other ↦ inl (inr (a.complete sid ok.0 alive ok.1 other))
            ]
      ]

  named-is_state : (sid : ℕ) → IsNamed names sid → IsState states sid
  named-is_state sid (inl e) = (omega (arith, e, named-below root p names states a.nodes root [] a.nodes.root), λ z. omega (arith, e, z))
  named-is_state sid (inr w) = (named-below root p names states a.nodes sid w.0 w.1, named-ne_fail root p names states a.nodes sid w.0 w.1)

  state-is_named : (state : Option (List ℕ)) (sid : ℕ) → IsStateOf names state sid → IsNamed names sid
  state-is_named None sid e = inl e
  state-is_named (Some word) sid e = inr (word, e)

  -- a transition leads to a state one deeper at most
  next_sound : (sid byte : ℕ) → IsState states sid → byte < 256 → next_in states sid byte ≢ fail_id
      → IsState states (next_in states sid byte) × (depth_in states (next_in states sid byte) ≤ depth_in states sid + 1)
  next_sound sid byte ok small ne =
      elim (state_cases sid ok) [
        | inl named ↦ from_named sid named ne
        | inr anchored ↦ from_anchored anchored ne
      ]
    where
      to_node : (next : ℕ) (word : List ℕ) → name_at names next ≡ Some word → (n : ℕ) → length word ≤ n → IsState states next × (depth_in states next ≤ n)
      to_node next word e n le = (named-is_state next (inr (word, e)), omega (arith, a.nodes.depths next word e))

      to_other : (word : List ℕ) (s : ℕ) → next_in states s byte ≡ missing_from root p word → next_in states s byte ≢ fail_id → IsState states (next_in states s byte) × (depth_in states (next_in states s byte) ≤ length word + 1)
      to_other (x ∷ u) s e ne = absurd (ne e)
      to_other [] s e ne =
          elim (cases_Bool (is_cut p [])) [
            | inl cut ↦
                (let dead : next_in states s byte ≡ dead_id = e ∙ cond-true {A = ℕ} (is_cut p []) dead_id root cut in
                (named-is_state (next_in states s byte) (inl dead), omega (arith, ap (depth_in states) dead, a.dead.depth)))
            | inr uncut ↦
                (let again : next_in states s byte ≡ root = e ∙ cond-false {A = ℕ} (is_cut p []) dead_id root uncut in
                to_node (next_in states s byte) [] (ap (name_at names) again ∙ a.nodes.root) 1 (omega arith))
          ]

      from_named : (s : ℕ) → IsNamed names s → next_in states s byte ≢ fail_id → IsState states (next_in states s byte) × (depth_in states (next_in states s byte) ≤ depth_in states s + 1)
      from_named s (inl e) ne =
          let dead : next_in states s byte ≡ dead_id = ap (λ (i : ℕ). next_in states i byte) e ∙ a.nodes.dead_loop byte small in
          (named-is_state (next_in states s byte) (inl dead), omega (arith, ap (depth_in states) dead, a.dead.depth))
      from_named s (inr w) ne =
          elim (cases_Bool (is_node p (longer p w.0 byte))) [
            | inl node ↦
                (let t = to_node (next_in states s byte) (longer p w.0 byte) (node_next root p names states a.nodes s w.0 byte small w.1 node) (length w.0 + 1) (omega (arith, length_push w.0 (folded p byte))) in
                (t.0, omega (arith, t.1, a.nodes.depths s w.0 w.1)))
            | inr other ↦ (let t = to_other w.0 s (other_next root p names states a.nodes s w.0 byte small w.1 other) ne in (t.0, omega (arith, t.1, a.nodes.depths s w.0 w.1)))
          ]

      from_anchored : sid ≡ anchored_start → next_in states sid byte ≢ fail_id → IsState states (next_in states sid byte) × (depth_in states (next_in states sid byte) ≤ depth_in states sid + 1)
      from_anchored e ne =
          let here : next_in states sid byte ≡ cond (is_node p (folded p byte ∷ [])) (next_in states root byte) fail_id = ap (λ (i : ℕ). next_in states i byte) e ∙ a.anchored.next byte small in
          elim (cases_Bool (is_node p (folded p byte ∷ []))) [
            | inl node ↦
                (let as_root : next_in states sid byte ≡ next_in states root byte = here ∙ cond-true {A = ℕ} (is_node p (folded p byte ∷ [])) (next_in states root byte) fail_id node in
                let t = to_node (next_in states sid byte) (folded p byte ∷ []) (ap (name_at names) as_root ∙ node_next root p names states a.nodes root [] byte small a.nodes.root node) 1 (omega arith) in
                (t.0, omega (arith, t.1)))
            | inr other ↦ absurd (ne (here ∙ cond-false {A = ℕ} (is_node p (folded p byte ∷ [])) (next_in states root byte) fail_id other))
          ]

  -- a failure link that is followed leads to a state nearer to the start
  fail_sound : (sid byte : ℕ) → IsState states sid → byte < 256 → next_in states sid byte ≡ fail_id
      → IsState states (fail_in states sid) × (links_left states (fail_in states sid) < links_left states sid)
  fail_sound sid byte ok small e =
      elim (state_cases sid ok) [
        | inl named ↦ from_named named
        | inr anchored ↦
            (let dead : fail_in states sid ≡ dead_id = ap (fail_in states) anchored ∙ a.anchored.fail in
            (named-is_state (fail_in states sid) (inl dead), omega (arith, left_of_dead (fail_in states sid) dead, left_of_other sid (λ z. a.anchored.not_dead (sym anchored ∙ z)))))
      ]
    where
      left_of_dead : (s : ℕ) → s ≡ 0 → links_left states s ≡ 0
      left_of_dead s z = cond-true {A = ℕ} (nat_eq s 0) 0 (depth_in states s + 1) (eq-eqb s 0 z)

      left_of_other : (s : ℕ) → s ≢ 0 → links_left states s ≡ depth_in states s + 1
      left_of_other s ne = cond-false {A = ℕ} (nat_eq s 0) 0 (depth_in states s + 1) (ne_eqb s 0 ne)

      left_most : (s : ℕ) → links_left states s ≤ depth_in states s + 1
      left_most s = elim (cases_eq s 0) [ inl z ↦ omega (arith, left_of_dead s z) | inr ne ↦ omega (arith, left_of_other s ne) ]

      from_named : IsNamed names sid → IsState states (fail_in states sid) × (links_left states (fail_in states sid) < links_left states sid)
      from_named (inl z) = absurd (omega (arith, e, ap (λ (i : ℕ). next_in states i byte) z, a.nodes.dead_loop byte small))
      from_named (inr w) =
          let t = step-failed root p names states a.nodes (length w.0) (λ i word is ne near. (a.linked i word is ne).fail) (Some w.0) sid byte small (omega arith) w.1 e in (
            named-is_state (fail_in states sid) (state-is_named t.0 (fail_in states sid) t.1),
            omega (arith, left_of_other sid (named-ne_dead root p names states a.nodes sid w.0 w.1), left_most (fail_in states sid), state_depth root p names states a.nodes a.dead t.0 (fail_in states sid) t.1, a.nodes.depths sid w.0 w.1, t.2),
          )

  -- no state is further from the start than the longest pattern
  shallow : longest (map length p.words) ≤ 2147483646 → (sid : ℕ) → IsState states sid → depth_in states sid ≤ 2147483646
  shallow most sid ok =
      elim (state_cases sid ok) [
        | inl named ↦ named_shallow named
        | inr anchored ↦ omega (arith, ap (depth_in states) anchored, a.anchored.depth)
      ]
    where
      named_shallow : IsNamed names sid → depth_in states sid ≤ 2147483646
      named_shallow (inl e) = omega (arith, ap (depth_in states) e, a.dead.depth)
      named_shallow (inr w) = omega (arith, a.nodes.depths sid w.0 w.1, length-node p w.0 (a.nodes.words sid w.0 w.1).0)

  pub IsSound-automaton : longest (map length p.words) ≤ 2147483646 → IsSound states
  IsSound-automaton most = record {
    dead_state = named-is_state dead_id (inl refl);
    next_state = λ sid byte ok small ne. (next_sound sid byte ok small ne).0;
    next_depth = λ sid byte ok small ne. (next_sound sid byte ok small ne).1;
    fail_state = λ sid byte ok small e. (fail_sound sid byte ok small e).0;
    fail_nearer = λ sid byte ok small e. (fail_sound sid byte ok small e).1;
    shallow = shallow most;
    dead_next = a.nodes.dead_loop;
    dead_depth = a.dead.depth;
  }

  -- the anchored start is there, since past the end a link is FAIL
  anchored_below : anchored_start < length states
  anchored_below =
      elim (cases_lt anchored_start (length states)) [
        | inl there ↦ there
        | inr past ↦
            (let none : fail_in states anchored_start ≡ fail_id = ap (λ (state : State). state.fail) (get_or_past states anchored_start (new_state 0) past) in
            absurd (omega (arith, a.anchored.fail, none)))
      ]

  pub AreStarts-automaton : AreStarts special states
  AreStarts-automaton = record {
    unanchored = record { state = named-is_state root (inr ([], a.nodes.root)); depth = a.nodes.depths root [] a.nodes.root };
    anchored = record { state = (anchored_below, a.anchored.not_fail); depth = a.anchored.depth };
  }
