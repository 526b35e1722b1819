-- States of any kind that are named by words and linked as the words are: where a step by a byte leads, and how many states
-- it looks at.
use Rattle.std.proofs.Common.{◌≡◌, inl, inr, ℕ, ◌+◌, ◌<◌, ◌≤◌, Bool, true, false, List, [], ◌∷◌, ◌++◌, length, refl, sym, ◌∙◌, ap, subst, arith}
use Rattle.std.specs.Prelude.{Option, Some, None}
use Rattle.std.specs.Option.{option_map}
use Rattle.std.proofs.lemmas.Bool.{cases_Bool, cond-false}
use Rattle.aho_core.specs.declared.search.Anchored.TheVariants.{No, Yes}
use Rattle.aho_laws.proofs.StepLaw.{follow-node, follow-failure}
use Rattle.aho_laws.proofs.LookUps.{lookups-taken, lookups-failure}
use Rattle.aho_laws.proofs.ByLinks.{failure-is_node}
use Rattle.aho_core.specs.Bytes.{folded}
use Rattle.aho_core.specs.Failure.{failure_of}
use Rattle.aho_core.specs.Patterns.{Patterns}
use Rattle.aho_core.specs.Step.{depth_of, follow, lookups}
use Rattle.aho_core.specs.Trie.{is_node}

-- by a test of nodes, as that of the first patterns: the valid states have nodes as their words, or none; a transition
-- leads to the longer node where there is one, and from a dead state to a dead one
pub record Grown {S : Type 0} (p : Patterns) (node : List ℕ → Bool) (valid : S → Type 0) (word : S → Option (List ℕ)) (edge : S → ℕ → Option S) : Type 0 where
  pub is_node_word : (s : S) (u : List ℕ) → valid s → word s ≡ Some u → node u ≡ true
  pub takes : (s : S) (u : List ℕ) (x : ℕ) → x < 256 → valid s → word s ≡ Some u → node (u ++ folded p x ∷ []) ≡ true → (t : S) × (edge s x ≡ Some t) × valid t × (word t ≡ Some (u ++ folded p x ∷ []))
  pub dead : (s : S) (x : ℕ) → x < 256 → valid s → word s ≡ None → (t : S) × (edge s x ≡ Some t) × valid t × (word t ≡ None)

-- unanchored: the root takes every byte, another node no other byte, and the links of nodes up to a length are made
pub record Linked {S : Type 0} (p : Patterns) (n : ℕ) (valid : S → Type 0) (word : S → Option (List ℕ)) (edge : S → ℕ → Option S) (fail : S → S) : Type 0 where
  pub grown : Grown p (is_node p) valid word edge
  pub root : (s : S) (x : ℕ) → x < 256 → valid s → word s ≡ Some [] → is_node p (folded p x ∷ []) ≡ false → (t : S) × (edge s x ≡ Some t) × valid t × (word t ≡ follow p No (Some []) (folded p x))
  pub only : (s : S) (y : ℕ) (u : List ℕ) (x : ℕ) → x < 256 → valid s → word s ≡ Some (y ∷ u) → is_node p (y ∷ u ++ folded p x ∷ []) ≡ false → edge s x ≡ None
  pub links : (s : S) (y : ℕ) (u : List ℕ) → valid s → word s ≡ Some (y ∷ u) → length (y ∷ u) ≤ n → valid (fail s) × (word (fail s) ≡ failure_of p (y ∷ u))

-- anchored: no node takes another byte
pub record Rooted {S : Type 0} (p : Patterns) (valid : S → Type 0) (word : S → Option (List ℕ)) (edge : S → ℕ → Option S) : Type 0 where
  pub grown : Grown p (is_node p) valid word edge
  pub only : (s : S) (u : List ℕ) (x : ℕ) → x < 256 → valid s → word s ≡ Some u → is_node p (u ++ folded p x ∷ []) ≡ false → edge s x ≡ None

module _ {S : Type 0} (p : Patterns) (n : ℕ) (valid : S → Type 0) (word : S → Option (List ℕ)) (edge : S → ℕ → Option S) (fail : S → S) (l : Linked p n valid word edge fail) where
  -- a transition leads where the step does
  taken_at : (s t : S) (x : ℕ) (w : Option (List ℕ)) → x < 256 → valid s → word s ≡ w → edge s x ≡ Some t → valid t × (word t ≡ follow p No w (folded p x)) × (lookups p No w (folded p x) ≡ 1)
  taken_at s t x None small ok e is =
      let d = l.grown.dead s x small ok e in
      let same : d.0 ≡ t = cc in
      (subst valid same d.2, ap word (sym same) ∙ d.3, refl)
  taken_at s t x (Some []) small ok e is =
      elim (cases_Bool (is_node p (folded p x ∷ []))) [
        | inl node ↦ (let d = l.grown.takes s [] x small ok e node in let same : d.0 ≡ t = cc in (subst valid same d.2, ap word (sym same) ∙ d.3 ∙ sym (follow-node p No [] (folded p x) node), refl))
        | inr other ↦ (let d = l.root s x small ok e other in let same : d.0 ≡ t = cc in (subst valid same d.2, ap word (sym same) ∙ d.3, refl))
      ]
  taken_at s t x (Some (y ∷ u)) small ok e is =
      elim (cases_Bool (is_node p (y ∷ u ++ folded p x ∷ []))) [
        | inl node ↦
            (let d = l.grown.takes s (y ∷ u) x small ok e node in
            let same : d.0 ≡ t = cc in
            (subst valid same d.2, ap word (sym same) ∙ d.3 ∙ sym (follow-node p No (y ∷ u) (folded p x) node), lookups-taken p (y ∷ u) (folded p x) node))
        | inr other ↦ (let none = l.only s y u x small ok e other in cc)
      ]

  -- a state that takes the byte: one look-up, and the step is done
  pub taken : (s t : S) (x : ℕ) → x < 256 → valid s → edge s x ≡ Some t → valid t × (word t ≡ follow p No (word s) (folded p x)) × (lookups p No (word s) (folded p x) ≡ 1)
  taken s t x small ok is = taken_at s t x (word s) small ok refl is

  -- a failure link leads nearer to the start
  depth_failed : (y : ℕ) (u : List ℕ) (s : Option (List ℕ)) → failure_of p (y ∷ u) ≡ s → depth_of s < length (y ∷ u)
  depth_failed y u None e = omega arith
  depth_failed y u (Some v) e = omega (arith, (failure-is_node p y u v e).1)

  -- where there is no transition
  failed_at : (s : S) (x : ℕ) (w : Option (List ℕ)) → x < 256 → valid s → word s ≡ w → depth_of w ≤ n → edge s x ≡ None
      → valid (fail s) × (follow p No w (folded p x) ≡ follow p No (word (fail s)) (folded p x)) × (lookups p No w (folded p x) ≡ 1 + lookups p No (word (fail s)) (folded p x)) × (depth_of (word (fail s)) < depth_of w)
  failed_at s x None small ok e near is = let d = l.grown.dead s x small ok e in cc
  failed_at s x (Some []) small ok e near is =
      elim (cases_Bool (is_node p (folded p x ∷ []))) [ inl node ↦ (let d = l.grown.takes s [] x small ok e node in cc) | inr other ↦ (let d = l.root s x small ok e other in cc) ]
  failed_at s x (Some (y ∷ u)) small ok e near is =
      elim (cases_Bool (is_node p (y ∷ u ++ folded p x ∷ []))) [
        | inl node ↦ (let d = l.grown.takes s (y ∷ u) x small ok e node in cc)
        | inr other ↦
            (let link = l.links s y u ok e near in (
              link.0,
              follow-failure p y u (folded p x) other ∙ sym (ap (λ (w : Option (List ℕ)). follow p No w (folded p x)) link.1),
              lookups-failure p y u (folded p x) (l.grown.is_node_word s (y ∷ u) ok e) other ∙ sym (ap (λ (w : Option (List ℕ)). 1 + lookups p No w (folded p x)) link.1),
              subst (λ (w : Option (List ℕ)). depth_of w < length (y ∷ u)) (sym link.1) (depth_failed y u (failure_of p (y ∷ u)) refl),
            ))
      ]

  -- a state that doesn't: the step and its count go on from the failure link, which is nearer to the start
  pub failed : (s : S) (x : ℕ) → x < 256 → valid s → depth_of (word s) ≤ n → edge s x ≡ None
      → valid (fail s) × (follow p No (word s) (folded p x) ≡ follow p No (word (fail s)) (folded p x)) × (lookups p No (word s) (folded p x) ≡ 1 + lookups p No (word (fail s)) (folded p x)) × (depth_of (word (fail s)) < depth_of (word s))
  failed s x small ok near is = failed_at s x (word s) small ok refl near is

module _ {S : Type 0} (p : Patterns) (valid : S → Type 0) (word : S → Option (List ℕ)) (edge : S → ℕ → Option S) (l : Rooted p valid word edge) where
  -- anchored: a transition leads where the step does, and where there is none the search has ended
  rooted_taken_at : (s t : S) (x : ℕ) (w : Option (List ℕ)) → x < 256 → valid s → word s ≡ w → edge s x ≡ Some t → valid t × (word t ≡ follow p Yes w (folded p x))
  rooted_taken_at s t x None small ok e is = let d = l.grown.dead s x small ok e in let same : d.0 ≡ t = cc in (subst valid same d.2, ap word (sym same) ∙ d.3)
  rooted_taken_at s t x (Some u) small ok e is =
      elim (cases_Bool (is_node p (u ++ folded p x ∷ []))) [
        | inl node ↦ (let d = l.grown.takes s u x small ok e node in let same : d.0 ≡ t = cc in (subst valid same d.2, ap word (sym same) ∙ d.3 ∙ sym (follow-node p Yes u (folded p x) node)))
        | inr other ↦ (let none = l.only s u x small ok e other in cc)
      ]

  pub rooted_taken : (s t : S) (x : ℕ) → x < 256 → valid s → edge s x ≡ Some t → valid t × (word t ≡ follow p Yes (word s) (folded p x))
  rooted_taken s t x small ok is = rooted_taken_at s t x (word s) small ok refl is

  rooted_failed_at : (s : S) (x : ℕ) (w : Option (List ℕ)) → x < 256 → valid s → word s ≡ w → edge s x ≡ None → follow p Yes w (folded p x) ≡ None
  rooted_failed_at s x None small ok e is = refl
  rooted_failed_at s x (Some u) small ok e is =
      elim (cases_Bool (is_node p (u ++ folded p x ∷ []))) [
        | inl node ↦ (let d = l.grown.takes s u x small ok e node in cc)
        | inr other ↦ cond-false (is_node p (u ++ folded p x ∷ [])) (Some (u ++ folded p x ∷ [])) None other
      ]

  pub rooted_failed : (s : S) (x : ℕ) → x < 256 → valid s → edge s x ≡ None → follow p Yes (word s) (folded p x) ≡ None
  rooted_failed s x small ok is = rooted_failed_at s x (word s) small ok refl is

-- the same states under other numbers
module _ {S : Type 0} (p : Patterns) (valid : S → Type 0) (word : S → Option (List ℕ)) (edge : S → ℕ → Option S) (new old : S → S) (back : (s : S) → old (new s) ≡ s) where
  -- the transitions under the new numbers
  abbrev pub renamed_edge : S → ℕ → Option S
  renamed_edge s x = option_map new (edge (old s) x)

  -- where they lead
  renamed_target : (s t : S) (x : ℕ) (w : Option (List ℕ)) → edge (old s) x ≡ Some t → valid t → word t ≡ w → (r : S) × (renamed_edge s x ≡ Some r) × valid (old r) × (word (old r) ≡ w)
  renamed_target s t x w e ok is = (new t, ap (option_map new) e, subst valid (sym (back t)) ok, ap word (back t) ∙ is)

  -- the new numbers have what the old ones had
  pub renamed_grown : (node : List ℕ → Bool) → Grown p node valid word edge → Grown p node (λ s. valid (old s)) (λ s. word (old s)) renamed_edge
  renamed_grown node g = record {
    is_node_word = λ s u ok e. g.is_node_word (old s) u ok e;
    takes = λ s u x small ok e is. let t = g.takes (old s) u x small ok e is in renamed_target s t.0 x (Some (u ++ folded p x ∷ [])) t.1 t.2 t.3;
    dead = λ s x small ok e. let t = g.dead (old s) x small ok e in renamed_target s t.0 x None t.1 t.2 t.3;
  }

  pub renamed_linked : (n : ℕ) (fail : S → S) → Linked p n valid word edge fail → Linked p n (λ s. valid (old s)) (λ s. word (old s)) renamed_edge (λ s. new (fail (old s)))
  renamed_linked n fail l = record {
    grown = renamed_grown (is_node p) l.grown;
    root = λ s x small ok e other. let t = l.root (old s) x small ok e other in renamed_target s t.0 x (follow p No (Some []) (folded p x)) t.1 t.2 t.3;
    only = λ s y u x small ok e other. ap (option_map new) (l.only (old s) y u x small ok e other);
    links = λ s y u ok e near. let t = l.links (old s) y u ok e near in (subst valid (sym (back (fail (old s)))) t.0, ap word (back (fail (old s))) ∙ t.1);
  }

  pub renamed_rooted : Rooted p valid word edge → Rooted p (λ s. valid (old s)) (λ s. word (old s)) renamed_edge
  renamed_rooted l = record {
    grown = renamed_grown (is_node p) l.grown;
    only = λ s u x small ok e other. ap (option_map new) (l.only (old s) u x small ok e other);
  }
