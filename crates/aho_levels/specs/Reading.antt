-- The laws of a layout that is the automaton of some patterns.
use Rattle.std.proofs.Common.{◌≡◌, ◌≢◌, ◌⊎◌, ℕ, zero, suc, ◌+◌, ◌<◌, arith, Bool, true, false, inl, inr, List, [], ◌∷◌, ◌++◌, length, take, drop, refl, sym, subst, ◌∙◌, ap, nat_eq, eqb-true}
use Rattle.std.proofs.lemmas.Bool.{both_ways, cases_Bool, cases_lt, cond-true, cond-false, eq-eqb, ne_eqb, lt-ltb, ltb-true, ltb-false, MatchBool-at_true, MatchBool-at_false}
use Rattle.std.proofs.lemmas.List.{append-nil, append_assoc}
use Rattle.std.proofs.lemmas.List.Elements.{All-head, All-tail}
use Rattle.std.specs.List.{All}
use Rattle.std.specs.Prelude.{Option, Some, None, is_none, nat_lt, ◌||◌, ◌&&◌}
use Rattle.aho_core.specs.Bytes.{folded, folded_by}
use Rattle.aho_core.specs.Failure.{failure_of}
use Rattle.aho_core.specs.Held.{held_after}
use Rattle.aho_core.specs.Laws.{Reads}
use Rattle.aho_core.specs.MatchList.{matches_of}
use Rattle.aho_core.specs.Patterns.{Patterns}
use Rattle.aho_core.specs.Step.{depth_of, follow}
use Rattle.aho_core.specs.Trie.{is_node}
use Rattle.aho_core.specs.declared.search.Anchored.{Anchored}
use Rattle.aho_core.specs.declared.search.Anchored.TheVariants.{No, Yes}
use Rattle.aho_core.specs.declared.search.MatchKind.{MatchKind}
use Rattle.aho_laws.proofs.Kept.{is_node-front, is_node-root}
use Rattle.aho_laws.proofs.NamedStates.{reads_by_words}
use Rattle.aho_laws.proofs.StepLaw.{follow-failure, follow-node, held_after-push}
use Rattle.aho_levels.specs.Layout.{CanStepThrough, IsSoundStates, IsStateNumber, StateTables, along_links, child_by, child_at, depth_at, is_marked_in, is_row_state, is_special_at, link_at, list_at_place, list_of_state, looks_of_step, lookups_at, next_at, place_of_list, state_for, told_else, walked}
use Rattle.aho_levels.specs.Meaning.{AreLevels, ComesBefore, IsFolded, IsHeldByNames, IsLess, IsLevelsOf, IsStateNamed, NamesAll, LeadsAsWords, named_word}
use Rattle.aho_levels.specs.Stepping.{along-child, along-link, along-row}

-- no word comes before itself
not-less : (w : List ℕ) → IsLess w w → ⊥
not-less [] less = less
not-less (x ∷ w) (inl less) = absurd (omega (arith, less))
not-less (x ∷ w) (inr same) = not-less w same.1

not-above : (w : List ℕ) → ComesBefore w w → ⊥
not-above w (inl less) = absurd (omega (arith, less))
not-above w (inr same) = not-less w same.1

-- a byte between others
all-middle : (P : ℕ → Type 0) (u : List ℕ) (x : ℕ) (v : List ℕ) → All P (u ++ x ∷ v) → P x
all-middle P [] x v all = All-head P x v all
all-middle P (y ∷ u) x v all = all-middle P u x v (All-tail P y (u ++ x ∷ v) all)

module _ (p : Patterns) (names : List (Option (List ℕ))) (t : StateTables) (levels : AreLevels p names t) where
  -- a word has one state
  pub unique : (i j : ℕ) (w : List ℕ) → named_word names i ≡ Some w → named_word names j ≡ Some w → i ≡ j
  unique i j w first second =
      elim (cases_lt i j) [
        | inl less ↦ absurd (not-above w (levels.ordered i j w w less first second))
        | inr more ↦
            elim (cases_lt j i) [
              | inl less ↦ absurd (not-above w (levels.ordered j i w w less second first))
              | inr same ↦ omega (arith, more, same)
            ]
      ]

  -- and that is not the dead one
  pub named-ne_zero : (i : ℕ) (w : List ℕ) → named_word names i ≡ Some w → i ≢ 0
  named-ne_zero i w named = λ z. let clash : None ≡ Some w = sym levels.dead ∙ sym (ap (named_word names) z) ∙ named in cc

  -- the child of a node by a byte
  pub to-child : (i : ℕ) (w : List ℕ) (byte : ℕ) → named_word names i ≡ Some w → byte < 256 → is_node p (w ++ folded p byte ∷ []) ≡ true
      → (child : ℕ) × (child_at t i (folded p byte) ≡ Some child) × (named_word names child ≡ Some (w ++ folded p byte ∷ []))
  to-child i w byte named small node =
      MatchBool-at_true
      ((child : ℕ) × (child_at t i (folded p byte) ≡ Some child) × (named_word names child ≡ Some (w ++ folded p byte ∷ [])))
      (child_at t i (folded p byte) ≡ None) node (levels.children i w byte named small)

  no-child : (i : ℕ) (w : List ℕ) (byte : ℕ) → named_word names i ≡ Some w → byte < 256
      → is_node p (w ++ folded p byte ∷ []) ≡ false → child_at t i (folded p byte) ≡ None
  no-child i w byte named small other =
      MatchBool-at_false
      ((child : ℕ) × (child_at t i (folded p byte) ≡ Some child) × (named_word names child ≡ Some (w ++ folded p byte ∷ [])))
      (child_at t i (folded p byte) ≡ None) other (levels.children i w byte named small)

  -- from child to child a word leads to its state
  pub walk-named : (v : List ℕ) (s q : ℕ) (u : List ℕ) → named_word names s ≡ Some u → named_word names q ≡ Some (u ++ v) → walked t s v ≡ q
  walk-named [] s q u from to = unique s q u from (to ∙ ap Some (append-nil u))
  walk-named (x ∷ v) s q u from to =
      let is : IsFolded p x = all-middle (IsFolded p) u x v (levels.folded q (u ++ x ∷ v) to) in
      let parts : (u ++ x ∷ []) ++ v ≡ u ++ x ∷ v = append_assoc u (x ∷ []) v in
      let whole : is_node p ((u ++ x ∷ []) ++ v) ≡ true = ap (is_node p) parts ∙ levels.nodes q (u ++ x ∷ v) to in
      let node : is_node p (u ++ folded p x ∷ []) ≡ true =
      ap (λ (y : ℕ). is_node p (u ++ y ∷ [])) is.1 ∙ is_node-front p (u ++ x ∷ []) v whole in
      let child = to-child s u x from is.0 node in
      let led : child_at t s x ≡ Some child.0 = ap (child_at t s) (sym is.1) ∙ child.1 in
      let named : named_word names child.0 ≡ Some (u ++ x ∷ []) = child.2 ∙ ap (λ (y : ℕ). Some (u ++ y ∷ [])) is.1 in
      ap (λ (o : Option ℕ). walked t (told_else o 0) v) led ∙ walk-named v child.0 q (u ++ x ∷ []) named (to ∙ ap Some (sym parts))

  pub state-named : (state : Option (List ℕ)) (sid : ℕ) → IsStateNamed names state sid → sid ≡ state_for t state
  state-named None sid is = is
  state-named (Some w) sid is = sym (walk-named w 1 sid [] levels.root is)

  -- as deep as its word is long
  pub deep-named : CanStepThrough t → (state : Option (List ℕ)) (sid : ℕ) → IsStateNamed names state sid → depth_at t sid ≡ depth_of state
  deep-named can None sid is = ap (depth_at t) is ∙ can.children.dead_depth
  deep-named can (Some w) sid is = levels.depths sid w is

module _ (p : Patterns) (t : StateTables) (names : List (Option (List ℕ))) (leads : LeadsAsWords p t names) (can : CanStepThrough t) where
  -- the case rule is that of the patterns
  folds : (byte : ℕ) → folded_by t.ignore_case byte ≡ folded p byte
  folds byte = ap (λ (b : Bool). folded_by b byte) leads.case_is

  by-folded : (sid byte : ℕ) → child_by t sid byte ≡ child_at t sid (folded p byte)
  by-folded sid byte = ap (child_at t sid) (folds byte)

  -- the dead state and the root have rows
  has-row : (sid : ℕ) → sid < 2 → is_row_state t sid ≡ true
  has-row sid less = lt-ltb sid t.row_count (omega (arith, less, can.sized.with_rows))

  deep-root : (sid : ℕ) → is_row_state t sid ≡ false → named_word names sid ≡ Some [] → ⊥
  deep-root sid deep named = absurd (both_ways (is_row_state t sid) deep (has-row sid (omega (arith, unique p names t leads.levels sid 1 [] named leads.levels.root))))

  -- a step from the state of a node that has no row
  deep-step : (left sid byte : ℕ) (w : List ℕ) → byte < 256 → sid < length t.fails
      → is_row_state t sid ≡ false → named_word names sid ≡ Some w → (o : Option ℕ) → child_by t sid byte ≡ o
      → ((state : Option (List ℕ)) → IsStateNamed names state (link_at t sid) → IsStateNamed names (follow p No state (folded p byte)) (along_links left t byte (link_at t sid)))
      → IsStateNamed names (follow p No (Some w) (folded p byte)) (along_links (suc left) t byte sid)
  deep-step left sid byte w small there deep named (Some q) child rest =
      elim (cases_Bool (is_node p (w ++ folded p byte ∷ []))) [
        | inl node ↦
            (let to = to-child p names t leads.levels sid w byte named small node in
            let same : to.0 ≡ q = (let both : Some to.0 ≡ Some q = sym to.1 ∙ sym (by-folded sid byte) ∙ child in cc) in
            subst (λ (s : Option (List ℕ)). IsStateNamed names s (along_links (suc left) t byte sid)) (sym (follow-node p No w (folded p byte) node))
            (ap (named_word names) ((along-child (suc left) t byte sid q deep child (omega arith)).0 ∙ sym same) ∙ to.2))
        | inr other ↦ (let clash : None ≡ Some q = sym (no-child p names t leads.levels sid w byte named small other) ∙ sym (by-folded sid byte) ∙ child in cc)
      ]
  deep-step left sid byte [] small there deep named None child rest = absurd (deep-root sid deep named)
  deep-step left sid byte (y ∷ u) small there deep named None child rest =
      elim (cases_Bool (is_node p (y ∷ u ++ folded p byte ∷ []))) [
        | inl node ↦ (let to = to-child p names t leads.levels sid (y ∷ u) byte named small node in let clash : None ≡ Some to.0 = sym child ∙ by-folded sid byte ∙ to.1 in cc)
        | inr other ↦
            subst (λ (s : Option (List ℕ)). IsStateNamed names s (along_links (suc left) t byte sid)) (sym (follow-failure p y u (folded p byte) other))
            (subst (IsStateNamed names (follow p No (failure_of p (y ∷ u)) (folded p byte))) (sym (along-link left t byte sid deep child).0)
            (rest (failure_of p (y ∷ u)) (leads.linked.links sid (y ∷ u) there named (λ z. cc))))
      ]

  -- by its row, or by its child or its link
  by-row : (left sid byte : ℕ) (state : Option (List ℕ)) → byte < 256 → sid < left + 1 → sid < length t.fails
      → (is_row_state t sid ≡ true) ⊎ (is_row_state t sid ≡ false) → IsStateNamed names state sid
      → ((further : ℕ) (other : Option (List ℕ)) → further < left → further < length t.fails → IsStateNamed names other further → IsStateNamed names (follow p No other (folded p byte)) (along_links left t byte further))
      → IsStateNamed names (follow p No state (folded p byte)) (along_links (suc left) t byte sid)
  by-row left sid byte state small less there (inl row) is rest =
      subst (IsStateNamed names (follow p No state (folded p byte))) (sym (along-row (suc left) t byte sid row (omega arith)).0)
      (leads.linked.rows sid byte state (ltb-true sid t.row_count row) small is)
  by-row left sid byte None small less there (inr deep) is rest =
      absurd (both_ways (is_row_state t sid) deep (has-row sid (omega (arith, is))))
  by-row left sid byte (Some w) small less there (inr deep) is rest =
      let before = can.walkable.link sid (ltb-false sid t.row_count deep) there in
      deep-step left sid byte w small there deep is (child_by t sid byte) refl
      (λ other named. rest (link_at t sid) other (omega (arith, before, less)) (omega (arith, before, there)) named)

  -- down the links a byte leads where the word's step does
  pub along-named : (left sid byte : ℕ) (state : Option (List ℕ)) → byte < 256
      → sid < left → sid < length t.fails → IsStateNamed names state sid
      → IsStateNamed names (follow p No state (folded p byte)) (along_links left t byte sid)
  along-named zero sid byte state small less there is = absurd (omega (arith, less))
  along-named (suc left) sid byte state small less there is =
      by-row left sid byte state small (omega (arith, less)) there (cases_Bool (is_row_state t sid)) is (λ further other near linked named. along-named left further byte other small near linked named)

  -- an anchored step leads where the word's does
  anchored-named : (sid byte : ℕ) (state : Option (List ℕ)) → byte < 256 → IsStateNamed names state sid
      → IsStateNamed names (follow p Yes state (folded p byte)) (next_at t Yes sid byte)
  anchored-named sid byte None small is =
      ap (λ (n : ℕ). told_else (child_by t n byte) 0) is ∙ ap (λ (o : Option ℕ). told_else o 0) (can.children.dead_none _)
  anchored-named sid byte (Some w) small is =
      elim (cases_Bool (is_node p (w ++ folded p byte ∷ []))) [
        | inl node ↦
            (let to = to-child p names t leads.levels sid w byte is small node in
            subst (λ (s : Option (List ℕ)). IsStateNamed names s (next_at t Yes sid byte)) (sym (follow-node p Yes w (folded p byte) node))
            (ap (named_word names) (ap (λ (o : Option ℕ). told_else o 0) (by-folded sid byte ∙ to.1)) ∙ to.2))
        | inr other ↦
            subst (λ (s : Option (List ℕ)). IsStateNamed names s (next_at t Yes sid byte)) (sym (cond-false (is_node p (w ++ folded p byte ∷ [])) (Some (w ++ folded p byte ∷ [])) None other))
            (ap (λ (o : Option ℕ). told_else o 0) (by-folded sid byte ∙ no-child p names t leads.levels sid w byte is small other))
      ]

  pub next-named : (anchored : Anchored) (sid byte : ℕ) (state : Option (List ℕ))
      → byte < 256 → sid < length t.fails → IsStateNamed names state sid
      → IsStateNamed names (follow p anchored state (folded p byte)) (next_at t anchored sid byte)
  next-named No sid byte state small there is = along-named (sid + 1) sid byte state small (omega arith) there is
  next-named Yes sid byte state small there is = anchored-named sid byte state small is

module _ (p : Patterns) (t : StateTables) (names : List (Option (List ℕ))) (naming : NamesAll p t names) where
  -- a held state lists what the word does, and is dead where it is
  named-lists : (state : Option (List ℕ)) (sid : ℕ) → IsStateNamed names state sid → list_of_state t sid ≡ matches_of p state
  named-lists None sid is = ap (list_of_state t) is ∙ naming.dead_list
  named-lists (Some w) sid is = naming.lists sid w is

  named-dead : (state : Option (List ℕ)) (sid : ℕ) → IsStateNamed names state sid → nat_eq sid 0 ≡ is_none state
  named-dead None sid is = eq-eqb sid 0 is
  named-dead (Some w) sid is = ne_eqb sid 0 (named-ne_zero p names t naming.leads.levels sid w is)

  named-start : (state : Option (List ℕ)) (sid : ℕ) → IsStateNamed names state sid → nat_eq sid 1 ≡ true → state ≡ Some []
  named-start None sid is start = absurd (omega (arith, is, eqb-true sid 1 start))
  named-start (Some w) sid is start = sym is ∙ ap (named_word names) (eqb-true sid 1 start) ∙ naming.leads.levels.root

module _ (t : StateTables) (sound : IsSoundStates t) where
  -- the root is held before the first byte
  pub begins_of : (p : Patterns) (anchored : Anchored) → IsHeldByNames t p anchored [] 1
  begins_of p No names naming = naming.leads.levels.root
  begins_of p Yes names naming = subst (λ (s : Option (List ℕ)). IsStateNamed names s 1) (sym (cond-true (is_node p []) (Some []) None (is_node-root p))) naming.leads.levels.root

  -- a state that follows the held one is held after one more byte
  pub held-next : (p : Patterns) (anchored : Anchored) (word : List ℕ) (sid byte next : ℕ)
      → byte < 256 → IsStateNumber t sid → next ≡ next_at t anchored sid byte
      → IsHeldByNames t p anchored word sid → IsHeldByNames t p anchored (word ++ byte ∷ []) next
  held-next p anchored word sid byte next small state is held names naming =
      subst (IsStateNamed names (held_after p anchored (word ++ byte ∷ []))) (sym is)
      (subst (λ (s : Option (List ℕ)). IsStateNamed names s (next_at t anchored sid byte)) (sym (held_after-push p anchored word byte))
      (next-named p t names naming.leads sound.steps anchored sid byte (held_after p anchored word) small (omega (arith, state, sound.fails)) (held names naming)))

  -- a state that is held after some bytes is held after any others that lead to the same state of the words
  pub alike_of : (p : Patterns) (word other : List ℕ) (sid : ℕ) → IsHeldByNames t p No word sid
      → held_after p No other ≡ held_after p No word → IsHeldByNames t p No other sid
  alike_of p word other sid held same names naming =
      subst (λ (s : Option (List ℕ)). IsStateNamed names s sid) (sym same) (held names naming)

  module _ (p : Patterns) (kind : MatchKind) (lengths : List ℕ) (of : IsLevelsOf t p kind lengths) where
    -- the states that may be held have the laws of an automaton
    pub reads_of : Reads p kind lengths (IsHeldByNames t p) (list_of_state t) (λ sid. nat_eq sid 0) (λ sid. nat_eq sid 1)
    reads_of =
        reads_by_words p kind lengths (IsHeldByNames t p) (list_of_state t) (λ sid. nat_eq sid 0) (λ sid. nat_eq sid 1) of.kind_is of.lengths_are
        (λ anchored w sid h. named-lists p t of.names of.naming (held_after p anchored w) sid (h of.names of.naming))
        (λ anchored w sid h. named-dead p t of.names of.naming (held_after p anchored w) sid (h of.names of.naming))
        (λ sid dead. ap (list_of_state t) (eqb-true sid 0 dead) ∙ of.naming.dead_list)
        (λ w sid h start. (
          (λ names naming. subst (λ (n : ℕ). named_word names n ≡ Some []) (sym (eqb-true sid 1 start)) naming.leads.levels.root),
          named-start p t of.names of.naming (held_after p No w) sid (h of.names of.naming) start,
        ))

    -- the held state is as deep as the word's
    pub reaches_in : (word : List ℕ) (sid : ℕ) → IsHeldByNames t p No word sid → depth_at t sid ≡ depth_of (held_after p No word)
    reaches_in word sid held =
        deep-named p of.names t of.naming.leads.levels sound.steps (held_after p No word) sid (held of.names of.naming)

    -- the look-ups of the held state's step are those of the word's
    pub held-looks : (anchored : Anchored) (word : List ℕ) (sid byte : ℕ) → IsHeldByNames t p anchored word sid
        → looks_of_step t anchored sid byte ≡ lookups_at t p anchored word byte
    held-looks anchored word sid byte held =
        ap (λ (n : ℕ). looks_of_step t anchored n byte) (state-named p of.names t of.naming.leads.levels (held_after p anchored word) sid (held of.names of.naming))

  -- a state that is not marked is not dead, and lists nothing; nor is one that is not special
  pub unmarked_of : (sid : ℕ) → is_marked_in t sid ≡ false → (nat_eq sid 0 ≡ false) × (list_of_state t sid ≡ [])
  unmarked_of sid high = parts (nat_eq sid 0) (place_of_list t sid) refl refl high
    where
      parts : (dead : Bool) (place : ℕ) → nat_eq sid 0 ≡ dead → place_of_list t sid ≡ place
          → (dead || nat_lt 0 place) ≡ false → (nat_eq sid 0 ≡ false) × (list_of_state t sid ≡ [])
      parts true place is at clash = cc
      parts false place is at none =
          let first : place_of_list t sid ≡ 0 = omega (arith, at, ltb-false 0 place none) in
          (is, ap (list_at_place t.lists) first ∙ ap (λ (n : ℕ). take n (drop 1 t.lists)) sound.listed.empty)

  pub plain_of : (skips : Bool) (sid : ℕ) → is_special_at skips t sid ≡ false → (nat_eq sid 0 ≡ false) × (list_of_state t sid ≡ [])
  plain_of skips sid high = unmarked_of sid (first (is_marked_in t sid) (skips && nat_eq sid 1) high)
    where
      first : (a b : Bool) → (a || b) ≡ false → a ≡ false
      first true b e = cc
      first false b e = refl

  pub dead_shallow_of : (sid : ℕ) → nat_eq sid 0 ≡ true → depth_at t sid ≡ 0
  dead_shallow_of sid dead = ap (depth_at t) (eqb-true sid 0 dead) ∙ sound.steps.children.dead_depth

  pub starts_shallow_of : (sid : ℕ) → nat_eq sid 1 ≡ true → depth_at t sid ≡ 0
  starts_shallow_of sid start = ap (depth_at t) (eqb-true sid 1 start) ∙ sound.steps.children.root_depth
