-- The states of an automaton, by the words that name them: they step as the words do, list what they list, and are dead
-- where they are.
use Rattle.std.proofs.Common.{◌≡◌, ◌≢◌, inl, inr, ℕ, ◌+◌, ◌<◌, cond, List, [], ◌∷◌, ◌++◌, refl, sym, ◌∙◌, ap, subst, arith}
use Rattle.std.specs.Prelude.{Option, Some, None, is_none, nat_eq}
use Rattle.std.proofs.lemmas.Bool.{cases_Bool, cond-true, cond-false, eq-eqb, ne_eqb}
use Rattle.aho_core.specs.declared.search.Anchored.{Anchored}
use Rattle.aho_core.specs.declared.search.Anchored.TheVariants.{No, Yes}
use Rattle.aho_core.specs.Bytes.{folded}
use Rattle.aho_core.specs.MatchList.{matches_of}
use Rattle.aho_core.specs.Patterns.{Patterns}
use Rattle.aho_core.specs.Step.{follow, lookups, depth_of}
use Rattle.aho_core.specs.Trie.{is_node}
use Rattle.aho_laws.proofs.ByLinks.{matches-root}
use Rattle.aho_laws.proofs.StepLaw.{follow-node}
use Rattle.aho_table.specs.Table.{State, dead_id, fail_id, next_in, fail_in, matches_in}
use Rattle.aho_build.specs.Automaton.{IsAutomaton, IsAnchoredStateOf, IsHeldAs}
use Rattle.aho_build.specs.declared.special.Special.{Special}
use Rattle.aho_build.specs.StateNames.{name_at}
use Rattle.aho_build.proofs.LinkedNodes.{named-ne_dead, named-ne_fail, node_next, other_next, step-taken, step-failed}

module _ (special : Special) (p : Patterns) (names : List (Option (List ℕ))) (states : List State) (a : IsAutomaton special p names states) where
  abbrev root : ℕ
  root = special.start_unanchored_id

  -- the anchored start takes what the root takes, if that begins a pattern
  anchored_next : (sid byte : ℕ) → byte < 256 → sid ≡ special.start_anchored_id → next_in states sid byte ≡ cond (is_node p (folded p byte ∷ [])) (next_in states root byte) fail_id
  anchored_next sid byte small is = ap (λ (i : ℕ). next_in states i byte) is ∙ a.anchored.next byte small

  -- anchored: a transition leads where the word's step does, and where there is none the search has ended
  anchored-taken : (state : Option (List ℕ)) (sid byte : ℕ) → byte < 256 → IsAnchoredStateOf special names state sid → next_in states sid byte ≢ fail_id
      → IsAnchoredStateOf special names (follow p Yes state (folded p byte)) (next_in states sid byte)
  anchored-taken None sid byte small is ne = ap (λ (i : ℕ). next_in states i byte) is ∙ a.nodes.dead_loop byte small
  anchored-taken (Some []) sid byte small is ne =
      elim (cases_Bool (is_node p (folded p byte ∷ []))) [
        | inl node ↦
            subst (λ (o : Option (List ℕ)). IsAnchoredStateOf special names o (next_in states sid byte)) (sym (follow-node p Yes [] (folded p byte) node))
            (ap (name_at names) (anchored_next sid byte small is ∙ cond-true {A = ℕ} (is_node p (folded p byte ∷ [])) (next_in states root byte) fail_id node)
            ∙ node_next root p names states a.nodes root [] byte small a.nodes.root node)
        | inr other ↦ absurd (ne (anchored_next sid byte small is ∙ cond-false {A = ℕ} (is_node p (folded p byte ∷ [])) (next_in states root byte) fail_id other))
      ]
  anchored-taken (Some (y ∷ u)) sid byte small is ne =
      elim (cases_Bool (is_node p (y ∷ u ++ folded p byte ∷ []))) [
        | inl node ↦
            subst (λ (o : Option (List ℕ)). IsAnchoredStateOf special names o (next_in states sid byte)) (sym (follow-node p Yes (y ∷ u) (folded p byte) node))
            (node_next root p names states a.nodes sid (y ∷ u) byte small is node)
        | inr other ↦ absurd (ne (other_next root p names states a.nodes sid (y ∷ u) byte small is other))
      ]

  anchored-failed : (state : Option (List ℕ)) (sid byte : ℕ) → byte < 256 → IsAnchoredStateOf special names state sid → next_in states sid byte ≡ fail_id → follow p Yes state (folded p byte) ≡ None
  anchored-failed None sid byte small is e = refl
  anchored-failed (Some []) sid byte small is e =
      elim (cases_Bool (is_node p (folded p byte ∷ []))) [
        | inl node ↦
            absurd
            (named-ne_fail root p names states a.nodes (next_in states root byte) (folded p byte ∷ []) (node_next root p names states a.nodes root [] byte small a.nodes.root node)
            (sym (anchored_next sid byte small is ∙ cond-true {A = ℕ} (is_node p (folded p byte ∷ [])) (next_in states root byte) fail_id node) ∙ e))
        | inr other ↦ cond-false (is_node p (folded p byte ∷ [])) (Some (folded p byte ∷ [])) None other
      ]
  anchored-failed (Some (y ∷ u)) sid byte small is e =
      elim (cases_Bool (is_node p (y ∷ u ++ folded p byte ∷ []))) [
        | inl node ↦ absurd (named-ne_fail root p names states a.nodes (next_in states sid byte) (y ∷ u ++ folded p byte ∷ []) (node_next root p names states a.nodes sid (y ∷ u) byte small is node) e)
        | inr other ↦ cond-false (is_node p (y ∷ u ++ folded p byte ∷ [])) (Some (y ∷ u ++ folded p byte ∷ [])) None other
      ]

  -- under either anchoring a transition leads where the word's step does, with one look-up
  pub held-taken : (anchored : Anchored) (state : Option (List ℕ)) (sid byte : ℕ) → byte < 256 → IsHeldAs special anchored names state sid → next_in states sid byte ≢ fail_id
      → IsHeldAs special anchored names (follow p anchored state (folded p byte)) (next_in states sid byte) × (lookups p anchored state (folded p byte) ≡ 1)
  held-taken No state sid byte small is ne = step-taken root p names states a.nodes 0 (λ i word e ne near. (a.linked i word e ne).fail) state sid byte small is ne
  held-taken Yes state sid byte small is ne = (anchored-taken state sid byte small is ne, refl)

  -- where there is none an anchored step has ended
  pub held-ended : (anchored : Anchored) (state further : Option (List ℕ)) (sid byte : ℕ) → anchored ≡ Yes → byte < 256 → IsHeldAs special anchored names further sid
      → follow p anchored state (folded p byte) ≡ follow p anchored further (folded p byte) → next_in states sid byte ≡ fail_id → IsHeldAs special anchored names (follow p anchored state (folded p byte)) dead_id
  held-ended No state further sid byte yes_it_is small is same e = cc
  held-ended Yes state further sid byte yes_it_is small is same e = subst (λ (o : Option (List ℕ)). IsAnchoredStateOf special names o dead_id) (sym (same ∙ anchored-failed further sid byte small is e)) refl

  -- and an unanchored one goes on from the failure link
  pub held-failed : (anchored : Anchored) (state : Option (List ℕ)) (sid byte : ℕ) → anchored ≡ No → byte < 256 → IsHeldAs special anchored names state sid → next_in states sid byte ≡ fail_id
      → (further : Option (List ℕ)) × IsHeldAs special anchored names further (fail_in states sid) × (follow p anchored state (folded p byte) ≡ follow p anchored further (folded p byte))
      × (lookups p anchored state (folded p byte) ≡ 1 + lookups p anchored further (folded p byte))
  held-failed No state sid byte no_it_is small is e =
      let t = step-failed root p names states a.nodes (depth_of state) (λ i word e ne near. (a.linked i word e ne).fail) state sid byte small (omega arith) is e in
      (t.0, t.1, t.3, t.4)
  held-failed Yes state sid byte no_it_is small is e = cc

  -- each state lists what its word does
  pub held-lists : (anchored : Anchored) (state : Option (List ℕ)) (sid : ℕ) → IsHeldAs special anchored names state sid → matches_in states sid ≡ matches_of p state
  held-lists No None sid e = ap (matches_in states) e ∙ a.dead.matches
  held-lists No (Some []) sid e = ap (matches_in states) (a.nodes.unique sid root [] e a.nodes.root) ∙ a.root_matches ∙ sym (matches-root p)
  held-lists No (Some (y ∷ u)) sid e = (a.linked sid (y ∷ u) e (λ z. cc)).matches
  held-lists Yes None sid e = ap (matches_in states) e ∙ a.dead.matches
  held-lists Yes (Some []) sid e = ap (matches_in states) e ∙ a.anchored.matches ∙ sym (matches-root p)
  held-lists Yes (Some (y ∷ u)) sid e = (a.linked sid (y ∷ u) e (λ z. cc)).matches

  -- and is dead where that is
  pub held-dead : (anchored : Anchored) (state : Option (List ℕ)) (sid : ℕ) → IsHeldAs special anchored names state sid → nat_eq sid dead_id ≡ is_none state
  held-dead No None sid e = eq-eqb sid 0 e
  held-dead No (Some word) sid e = ne_eqb sid 0 (named-ne_dead root p names states a.nodes sid word e)
  held-dead Yes None sid e = eq-eqb sid 0 e
  held-dead Yes (Some []) sid e = ne_eqb sid 0 (λ z. a.anchored.not_dead (sym e ∙ z))
  held-dead Yes (Some (y ∷ u)) sid e = ne_eqb sid 0 (named-ne_dead root p names states a.nodes sid (y ∷ u) e)
