-- The words themselves are states that are linked so: the conditions can be met.
use Rattle.std.proofs.Common.{◌≡◌, ℕ, true, cond, List, [], ◌∷◌, ◌++◌, refl, sym, ◌∙◌, ap, subst}
use Rattle.std.specs.Prelude.{Option, Some, None}
use Rattle.std.proofs.lemmas.Bool.{cond-true, cond-false}
use Rattle.aho_core.specs.declared.search.Anchored.TheVariants.{No}
use Rattle.aho_laws.proofs.StepLaw.{state-is_node, follow-node}
use Rattle.aho_laws.proofs.ByLinks.{failure-is_node}
use Rattle.aho_laws.proofs.LinkedStates.{Grown, Linked}
use Rattle.aho_core.specs.Bytes.{folded}
use Rattle.aho_core.specs.Failure.{failure_of}
use Rattle.aho_core.specs.Patterns.{Patterns}
use Rattle.aho_core.specs.Step.{follow}
use Rattle.aho_core.specs.Trie.{is_node}

module _ (p : Patterns) where
  -- the dead state, and the nodes
  abbrev is_state : Option (List ℕ) → Type 0
  is_state s = (u : List ℕ) → s ≡ Some u → is_node p u ≡ true

  -- the root's transitions are full, the others' are those to nodes
  abbrev pub edge_of : Option (List ℕ) → ℕ → Option (Option (List ℕ))
  edge_of None x = Some None
  edge_of (Some []) x = Some (follow p No (Some []) (folded p x))
  edge_of (Some (y ∷ u)) x = cond (is_node p (y ∷ u ++ folded p x ∷ [])) (Some (Some (y ∷ u ++ folded p x ∷ []))) None

  -- the failure links
  abbrev pub fail_of : Option (List ℕ) → Option (List ℕ)
  fail_of None = None
  fail_of (Some u) = failure_of p u

  -- where they lead there are states
  node_state : (v : List ℕ) → is_node p v ≡ true → is_state (Some v)
  node_state v node u e = let same : v ≡ u = cc in subst (λ (w : List ℕ). is_node p w ≡ true) same node

  follow_state : (x : ℕ) → is_state (follow p No (Some []) x)
  follow_state x u e = state-is_node p (x ∷ []) u e

  -- a node takes each byte that makes a node
  grown_takes : (s : Option (List ℕ)) (u : List ℕ) (x : ℕ) → s ≡ Some u → is_node p (u ++ folded p x ∷ []) ≡ true → (t : Option (List ℕ)) × (edge_of s x ≡ Some t) × is_state t × (t ≡ Some (u ++ folded p x ∷ []))
  grown_takes s [] x e node = (Some (folded p x ∷ []), ap (λ (o : Option (List ℕ)). edge_of o x) e ∙ ap Some (follow-node p No [] (folded p x) node), node_state (folded p x ∷ []) node, refl)
  grown_takes s (y ∷ u) x e node = (
    Some (y ∷ u ++ folded p x ∷ []),
    ap (λ (o : Option (List ℕ)). edge_of o x) e ∙ cond-true (is_node p (y ∷ u ++ folded p x ∷ [])) (Some (Some (y ∷ u ++ folded p x ∷ []))) None node,
    node_state (y ∷ u ++ folded p x ∷ []) node,
    refl,
  )

  grown : Grown p (is_node p) is_state (λ s. s) edge_of
  grown = record {
    is_node_word = λ s u ok e. ok u e;
    takes = λ s u x small ok e node. grown_takes s u x e node;
    dead = λ s x small ok e. (None, ap (λ (o : Option (List ℕ)). edge_of o x) e, (λ u e. cc), refl);
  }

  -- a failure link leads to a state
  failure_state : (y : ℕ) (u : List ℕ) → is_state (failure_of p (y ∷ u))
  failure_state y u v e = (failure-is_node p y u v e).0

  -- so the words are linked as the laws of the next states want
  pub words_are_linked : (n : ℕ) → Linked p n is_state (λ s. s) edge_of fail_of
  words_are_linked n = record {
    grown = grown;
    root = λ s x small ok e other. (follow p No (Some []) (folded p x), ap (λ (o : Option (List ℕ)). edge_of o x) e, follow_state (folded p x), refl);
    only = λ s y u x small ok e other. ap (λ (o : Option (List ℕ)). edge_of o x) e ∙ cond-false (is_node p (y ∷ u ++ folded p x ∷ [])) (Some (Some (y ∷ u ++ folded p x ∷ []))) None other;
    links = λ s y u ok e near. (subst is_state (sym (ap fail_of e)) (failure_state y u), ap fail_of e);
  }
