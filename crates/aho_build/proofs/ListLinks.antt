-- Along the failure links of an automaton: a state that lists no more patterns than its link lists the same.
use Rattle.std.proofs.Common.{◌≡◌, ◌≢◌, ◌⊎◌, inl, inr, ℕ, ◌+◌, ◌<◌, ◌≤◌, List, [], ◌∷◌, ◌++◌, length, refl, sym, ◌∙◌, ap, arith}
use Rattle.std.specs.Prelude.{Option, Some, None, nat_eq}
use Rattle.std.proofs.lemmas.Bool.{cases_eq, cond-true, cond-false, eq-eqb, ne_eqb}
use Rattle.std.proofs.lemmas.List.{length-append, nil_from_length}
use Rattle.aho_core.specs.Failure.{failure_of}
use Rattle.aho_core.specs.MatchList.{matches_of, own_matches}
use Rattle.aho_core.specs.Patterns.{Patterns}
use Rattle.aho_core.specs.declared.search.Anchored.TheVariants.{No}
use Rattle.aho_laws.proofs.ByLinks.{failure-is_node, matches-linked, matches-next}
use Rattle.aho_table.specs.Table.{State, dead_id, depth_in, fail_in, matches_in}
use Rattle.aho_build.specs.Automaton.{IsAutomaton, ListsExactly}
use Rattle.aho_build.specs.FailureLinks.{IsLinked}
use Rattle.aho_build.specs.ListLinks.{ListByLinks}
use Rattle.aho_build.specs.StateNames.{name_at, IsStateOf}
use Rattle.aho_build.specs.Walking.{IsState, links_left}
use Rattle.aho_build.specs.declared.special.Special.{Special}
use Rattle.aho_build.proofs.AutomatonStates.{held-lists}
use Rattle.aho_build.proofs.LinkedNodes.{named-below, named-ne_fail}

module _ (special : Special) (p : Patterns) (names : List (Option (List ℕ))) (states : List State) (a : IsAutomaton special p names states) where
  abbrev root : ℕ
  root = special.start_unanchored_id

  -- the link of a state is DEAD, or that of its word
  fail_cases : (sid : ℕ) → IsState states sid → (fail_in states sid ≡ dead_id) ⊎ ((y : ℕ) × (u : List ℕ) × (name_at names sid ≡ Some (y ∷ u)) × IsLinked p names states sid (y ∷ u))
  fail_cases sid ok =
      elim (cases_eq sid dead_id) [
        | inl dead ↦ inl (ap (fail_in states) dead ∙ a.dead.fail)
        | inr alive ↦
            elim (cases_eq sid special.start_anchored_id) [
              | inl anchored ↦ inl (ap (fail_in states) anchored ∙ a.anchored.fail)
              | inr other ↦ let named = a.complete sid ok.0 alive ok.1 other in from_named named.0 named.1
            ]
      ]
    where
      from_named : (word : List ℕ) → name_at names sid ≡ Some word → (fail_in states sid ≡ dead_id) ⊎ ((y : ℕ) × (u : List ℕ) × (name_at names sid ≡ Some (y ∷ u)) × IsLinked p names states sid (y ∷ u))
      from_named [] e = inl (ap (fail_in states) (a.nodes.unique sid root [] e a.nodes.root) ∙ a.root_fail)
      from_named (y ∷ u) e = inr (y, u, e, a.linked sid (y ∷ u) e (λ z. cc))

  -- the state of a word, or of none, is there
  state-there : (state : Option (List ℕ)) (sid : ℕ) → IsStateOf names state sid → IsState states sid
  state-there None sid e = (omega (arith, e, named-below root p names states a.nodes root [] a.nodes.root), λ z. omega (arith, e, z))
  state-there (Some word) sid e = (named-below root p names states a.nodes sid word e, named-ne_fail root p names states a.nodes sid word e)

  list_link : (sid : ℕ) → IsState states sid → IsState states (fail_in states sid)
  list_link sid ok =
      elim (fail_cases sid ok) [
        | inl dead ↦ state-there None (fail_in states sid) dead
        | inr w ↦ state-there (failure_of p (w.0 ∷ w.1)) (fail_in states sid) w.3.fail
      ]

  -- DEAD has no link to follow, and any other state one more than it is deep
  none_left : (sid : ℕ) → sid ≡ 0 → links_left states sid ≡ 0
  none_left sid z = cond-true {A = ℕ} (nat_eq sid 0) 0 (depth_in states sid + 1) (eq-eqb sid 0 z)

  some_left : (sid : ℕ) → sid ≢ 0 → links_left states sid ≡ depth_in states sid + 1
  some_left sid ne = cond-false {A = ℕ} (nat_eq sid 0) 0 (depth_in states sid + 1) (ne_eqb sid 0 ne)

  most_left : (sid : ℕ) → links_left states sid ≤ depth_in states sid + 1
  most_left sid = elim (cases_eq sid 0) [ inl z ↦ omega (arith, none_left sid z) | inr ne ↦ omega (arith, some_left sid ne) ]

  list_nearer : (sid : ℕ) → IsState states sid → sid ≢ 0 → links_left states (fail_in states sid) < links_left states sid
  list_nearer sid ok alive =
      elim (fail_cases sid ok) [
        | inl dead ↦ omega (arith, none_left (fail_in states sid) dead, some_left sid alive)
        | inr w ↦ by_word w.0 w.1 w.2 (failure_of p (w.0 ∷ w.1)) refl w.3.fail
      ]
    where
      by_word : (y : ℕ) (u : List ℕ) → name_at names sid ≡ Some (y ∷ u) → (state : Option (List ℕ)) → failure_of p (y ∷ u) ≡ state → IsStateOf names state (fail_in states sid)
          → links_left states (fail_in states sid) < links_left states sid
      by_word y u e None is dead = omega (arith, none_left (fail_in states sid) dead, some_left sid alive)
      by_word y u e (Some v) is link =
          omega
          (arith, most_left (fail_in states sid), a.nodes.depths (fail_in states sid) v link, (failure-is_node p y u v is).1, a.nodes.depths sid (y ∷ u) e, some_left sid alive)

  list_same : (sid : ℕ) → IsState states sid → length (matches_in states sid) ≤ length (matches_in states (fail_in states sid)) → matches_in states sid ≡ matches_in states (fail_in states sid)
  list_same sid ok less =
      elim (fail_cases sid ok) [
        | inl dead ↦
            let none : matches_in states (fail_in states sid) ≡ [] = ap (matches_in states) dead ∙ a.dead.matches in
            nil_from_length (matches_in states sid) (omega (arith, ap (λ (l : List ℕ). length l) none, less)) ∙ sym none
        | inr w ↦
            let link : matches_in states (fail_in states sid) ≡ matches_of p (failure_of p (w.0 ∷ w.1)) = held-lists special p names states a No (failure_of p (w.0 ∷ w.1)) (fail_in states sid) w.3.fail in
            let next : matches_in states sid ≡ own_matches p (w.0 ∷ w.1) ++ matches_of p (failure_of p (w.0 ∷ w.1)) = w.3.matches ∙ matches-next p w.0 w.1 in
            let own : own_matches p (w.0 ∷ w.1) ≡ [] =
            nil_from_length (own_matches p (w.0 ∷ w.1))
            (omega (arith, ap (λ (l : List ℕ). length l) next, length-append (own_matches p (w.0 ∷ w.1)) (matches_of p (failure_of p (w.0 ∷ w.1))), ap (λ (l : List ℕ). length l) link, less)) in
            w.3.matches ∙ matches-linked p w.0 w.1 own ∙ sym link
      ]

  pub ListByLinks-automaton : ListsExactly special states → ListByLinks states
  ListByLinks-automaton exactly = record {
    dead = a.dead.matches;
    fail = ap (λ (state : State). state.matches) exactly.fail;
    link = list_link;
    nearer = list_nearer;
    same = list_same;
  }
