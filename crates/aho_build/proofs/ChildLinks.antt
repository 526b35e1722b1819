-- The failure link of a child, from its parent's.
use Rattle.std.proofs.Common.{◌≡◌, ℕ, ◌≢◌, Bool, true, false, cond, List, [], ◌∷◌, Option, Some, None, refl, sym, ap, subst, ◌∙◌, arith}
use Rattle.std.proofs.lemmas.Bool.{cond-false}
use Rattle.aho_core.specs.declared.search.Anchored.TheVariants.{No}
use Rattle.aho_core.specs.declared.search.MatchKind.{MatchKind}
use Rattle.aho_core.specs.Bytes.{folded}
use Rattle.aho_core.specs.Failure.{failure_of, is_cut}
use Rattle.aho_core.specs.Patterns.{Patterns}
use Rattle.aho_core.specs.Step.{follow}
use Rattle.aho_laws.proofs.ByLinks.{ends_here, ends_here-true, is_cut-root, is_cut-next, failure-first, failure-next}
use Rattle.aho_build.specs.FailureLinks.{CanStep, CanStepBySome, StepsTo, CanLink, CanLinkBySome, LinksTo}
use Rattle.aho_build.specs.Starts.{stops_at}
use Rattle.aho_build.specs.StateNames.{name_at, IsStateOf}
use Rattle.aho_build.specs.Trie.{longer}
use Rattle.aho_table.specs.Table.{dead_id, State, fail_in, matches_in}
use Rattle.aho_build.specs.FirstStates.{root_id}
use Rattle.aho_build.proofs.StartTransitions.{stops_at-ends_here}
use Rattle.aho_build.proofs.StepsAlongLinks.{depth-failure}

module _ (p : Patterns) (names : List (Option (List ℕ))) (kind : MatchKind) (states : List State) (parent byte child : ℕ) where
  child_stops : (word : List ℕ) → CanLink p names kind states parent byte child word → stops_at kind (matches_in states child) ≡ ends_here p (longer p word byte)
  child_stops word can =
      ap (λ (k : MatchKind). stops_at k (matches_in states child)) (sym can.kind_is) ∙ ap (stops_at p.kind) can.matches ∙ stops_at-ends_here p (longer p word byte)

  -- the test of the root's list is whether the root is cut
  root_stops : (word : List ℕ) → CanLink p names kind states parent byte child word → stops_at kind (matches_in states root_id) ≡ is_cut p []
  root_stops word can =
      ap (λ (k : MatchKind). stops_at k (matches_in states root_id)) (sym can.kind_is) ∙ ap (stops_at p.kind) can.root_matches ∙ stops_at-ends_here p [] ∙ sym (is_cut-root p)

  -- a child that ends the walk has no link
  link-stops : (word : List ℕ) → CanLink p names kind states parent byte child word → stops_at kind (matches_in states child) ≡ true → IsStateOf names (failure_of p (longer p word byte)) dead_id
  link-stops word can stops =
      let cut : is_cut p (longer p word byte) ≡ true = ends_here-true p (longer p word byte) (sym (child_stops word can) ∙ stops) in
      subst (λ (s : Option (List ℕ)). IsStateOf names s dead_id) (sym (none (longer p word byte) cut)) refl
    where
      none : (w : List ℕ) → is_cut p w ≡ true → failure_of p w ≡ None
      none w cut = rw cut refl

  -- the root's own children: the root, unless it ends the walk
  link-root : (word : List ℕ) → CanLink p names kind states parent byte child word → stops_at kind (matches_in states child) ≡ false → parent ≡ root_id
      → IsStateOf names (failure_of p (longer p word byte)) (cond (stops_at kind (matches_in states root_id)) dead_id root_id)
  link-root word can goes_on is_root =
      let empty : [] ≡ word = (let both : Some [] ≡ Some word = sym can.can_step.trie.root ∙ ap (name_at names) (sym is_root) ∙ can.can_step.at in cc) in
      let ends : ends_here p (longer p [] byte) ≡ false = ap (λ (w : List ℕ). ends_here p (longer p w byte)) empty ∙ sym (child_stops word can) ∙ goes_on in
      let cut : is_cut p (longer p [] byte) ≡ is_cut p [] = is_cut-next p [] (folded p byte) ∙ ap (λ (b : Bool). cond (is_cut p []) true b) ends ∙ same (is_cut p []) in
      let link : failure_of p (longer p [] byte) ≡ cond (is_cut p []) None (Some []) = failure-first p (folded p byte) ∙ ap (λ (b : Bool). cond b None (Some [])) cut in
      subst (λ (w : List ℕ). IsStateOf names (failure_of p (longer p w byte)) (cond (stops_at kind (matches_in states root_id)) dead_id root_id)) empty
      (subst (λ (s : Option (List ℕ)). IsStateOf names s (cond (stops_at kind (matches_in states root_id)) dead_id root_id)) (sym link)
      (subst (λ (b : Bool). IsStateOf names (cond (is_cut p []) None (Some [])) (cond b dead_id root_id)) (sym (root_stops word can)) (root_or_dead (is_cut p []))))
    where
      same : (b : Bool) → cond b true false ≡ b
      same true = refl
      same false = refl

      root_or_dead : (cut : Bool) → IsStateOf names (cond cut None (Some [])) (cond cut dead_id root_id)
      root_or_dead true = refl
      root_or_dead false = can.can_step.trie.root

  -- from another parent the byte can be followed from the parent's link
  can_step-link : (word : List ℕ) → CanLink p names kind states parent byte child word → parent ≢ root_id → CanStep p names states (fail_in states parent) (failure_of p word)
  can_step-link [] can ne = absurd (ne (can.can_step.trie.unique parent root_id [] can.can_step.at can.can_step.trie.root))
  can_step-link (y ∷ u) can ne = record {
    trie = can.can_step.trie;
    dead = can.can_step.dead;
    at = can.can_step.links parent (y ∷ u) can.can_step.at (λ e. cc) (omega arith);
    links = λ i word e nonempty short. can.can_step.links i word e nonempty (omega (arith, depth-failure p y u (failure_of p (y ∷ u)) refl));
  }

  -- and its link is where the byte leads from the parent's
  link-next : (word : List ℕ) → (can : CanLink p names kind states parent byte child word) → parent ≢ root_id → stops_at kind (matches_in states child) ≡ false
      → failure_of p (longer p word byte) ≡ follow p No (failure_of p word) (folded p byte)
  link-next [] can ne goes_on = absurd (ne (can.can_step.trie.unique parent root_id [] can.can_step.at can.can_step.trie.root))
  link-next (y ∷ u) can ne goes_on =
      failure-next p y u (folded p byte)
      ∙ cond-false (ends_here p (longer p (y ∷ u) byte)) None (follow p No (failure_of p (y ∷ u)) (folded p byte)) (sym (child_stops (y ∷ u) can) ∙ goes_on)

module _ (kind : MatchKind) (states : List State) (parent byte child : ℕ) where
  -- what the code answers is the link: no link
  pub LinksTo-stops : stops_at kind (matches_in states child) ≡ true → LinksTo kind states parent byte child dead_id
  LinksTo-stops stops = λ p names word can. link-stops p names kind states parent byte child word can stops

  -- the root, or none
  pub LinksTo-root : (root next : ℕ) (stops : Bool) → stops_at kind (matches_in states child) ≡ false → parent ≡ root → root ≡ root_id → stops_at kind (matches_in states root) ≡ stops → cond stops dead_id root_id ≡ next
      → LinksTo kind states parent byte child next
  LinksTo-root root next stops goes_on at_root is_root test is = λ p names word can.
      let back : cond (stops_at kind (matches_in states root_id)) dead_id root_id ≡ next = ap (λ (b : Bool). cond b dead_id root_id) (ap (λ (n : ℕ). stops_at kind (matches_in states n)) (sym is_root) ∙ test) ∙ is in
      subst (λ (n : ℕ). IsStateOf names (failure_of p (longer p word byte)) n) back (link-root p names kind states parent byte child word can goes_on (at_root ∙ is_root))

  -- a step from the parent's link
  pub LinksTo-step : (next : ℕ) → stops_at kind (matches_in states child) ≡ false → parent ≢ root_id → StepsTo states (fail_in states parent) byte next → LinksTo kind states parent byte child next
  LinksTo-step next goes_on ne steps = λ p names word can.
      subst (λ (s : Option (List ℕ)). IsStateOf names s next) (sym (link-next p names kind states parent byte child word can ne goes_on))
      (steps p names (failure_of p word) (can_step-link p names kind states parent byte child word can ne))

  -- and that step can be taken
  pub CanStepBySome-link : parent ≢ root_id → CanLinkBySome kind states parent byte child → CanStepBySome states (fail_in states parent)
  CanStepBySome-link ne some = (some.0, (some.1.0, (failure_of some.0 some.1.1.0, can_step-link some.0 some.1.0 kind states parent byte child some.1.1.0 some.1.1.1 ne)))
