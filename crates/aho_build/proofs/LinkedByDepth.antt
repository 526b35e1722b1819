-- The links that are made so far, by their distance from the root.
use Rattle.std.proofs.Common.{◌≡◌, ℕ, zero, suc, ◌+◌, ◌<◌, ◌≤◌, ◌≢◌, ◌⊎◌, Bool, true, false, cond, List, [], ◌∷◌, ◌++◌, length, get_or, Option, Some, None, refl, sym, ap, subst, ◌∙◌, inl, inr, arith}
use Rattle.std.proofs.lemmas.Bool.{cases_Bool, cases_eq, cases_lt, MatchBool-at_true, MatchBool-at_false}
use Rattle.std.proofs.lemmas.List.{length_push}
use Rattle.aho_core.specs.Bytes.{folded}
use Rattle.aho_core.specs.Failure.{failure_of, is_cut}
use Rattle.aho_core.specs.MatchList.{matches_of}
use Rattle.aho_core.specs.Patterns.{Patterns}
use Rattle.aho_core.specs.Trie.{is_node}
use Rattle.aho_laws.proofs.ByLinks.{failure-is_node, matches-root}
use Rattle.aho_build.specs.FailureLinks.{CanStep, IsLinking}
use Rattle.aho_build.specs.Starts.{root_loop}
use Rattle.aho_build.specs.StateNames.{name_at, IsStateOf}
use Rattle.aho_build.specs.Trie.{longer, missing_at}
use Rattle.aho_table.specs.Table.{fail_id, dead_id, State, state_at, transition_at, next_in, fail_in, depth_in, matches_in}
use Rattle.aho_build.specs.FirstStates.{root_id}
use Rattle.aho_build.proofs.NamesOfTries.{named_below, named_ne_fail}
use Rattle.aho_table.proofs.TransitionLists.{transition_at-same, transition_at-other}

-- the last byte of a word
pub snoc_cases : (u : List ℕ) → (u ≡ []) ⊎ ((v : List ℕ) × ((x : ℕ) × (u ≡ v ++ x ∷ [])))
snoc_cases [] = inl refl
snoc_cases (x ∷ u) =
    elim (snoc_cases u) [
      | inl e ↦ inr ([], (x, ap (λ (l : List ℕ). x ∷ l) e))
      | inr s ↦ inr (x ∷ s.0, (s.1.0, ap (λ (l : List ℕ). x ∷ l) s.1.1))
    ]

-- a word with one more byte is not empty
pub longer-nonempty : (p : Patterns) (word : List ℕ) (byte : ℕ) → longer p word byte ≢ []
longer-nonempty p word byte e = let n : length word + 1 ≡ 0 = sym (length_push word (folded p byte)) ∙ ap length e in omega arith

-- a byte that leads somewhere has an entry
pub transition_at-listed : (transitions : List (ℕ × ℕ)) (byte : ℕ) → transition_at transitions byte ≢ fail_id → (k : ℕ) × (k < length transitions) × ((get_or transitions k (0, 1)).1 ≡ transition_at transitions byte)
transition_at-listed [] byte there = absurd (there refl)
transition_at-listed (transition ∷ transitions) byte there =
    elim (cases_eq transition.0 byte) [
      | inl same ↦ (0, omega arith, sym (transition_at-same transition transitions byte same))
      | inr other ↦
          (let rest = transition_at-listed transitions byte (λ e. there (transition_at-other transition transitions byte other ∙ e)) in
          (suc rest.0, omega (arith, rest.1), rest.2 ∙ sym (transition_at-other transition transitions byte other)))
    ]

-- a failure link is no longer than the word without its last byte
failure-short : (p : Patterns) (word : List ℕ) (byte : ℕ) (v : List ℕ) → failure_of p (longer p word byte) ≡ Some v → length v ≤ length word
failure-short p [] byte v e = omega (arith, (failure-is_node p (folded p byte) [] v e).1)
failure-short p (y ∷ u) byte v e = omega (arith, (failure-is_node p y (u ++ folded p byte ∷ []) v e).1, length_push u (folded p byte))

module _ (p : Patterns) (names : List (Option (List ℕ))) (queue : List ℕ) (head part : ℕ) (states : List State)
    (so_far : IsLinking p names queue head part states) where
  abbrev pub at : ℕ → ℕ
  at k = get_or queue k 0

  -- the root has its link
  root_ne : fail_in states root_id ≢ fail_id
  root_ne e = let f : ◌≡◌ {A = ℕ} dead_id fail_id = sym so_far.root_fail ∙ e in omega arith

  -- each word that is not longer than all that still wait is linked
  pub linked_up_to : (d : ℕ) → ((k : ℕ) → head ≤ k → k < length queue → d ≤ depth_in states (at k))
      → (n : ℕ) (u : List ℕ) (i : ℕ) → length u ≡ n → n ≤ d → name_at names i ≡ Some u → fail_in states i ≢ fail_id
  linked_up_to d waiting zero u i size short named =
      elim (snoc_cases u) [
        | inl e ↦
            (let is_root : i ≡ root_id = so_far.trie.unique i root_id [] (named ∙ ap (λ (w : List ℕ). Some w) e) so_far.trie.root in
            λ f. root_ne (ap (fail_in states) (sym is_root) ∙ f))
        | inr s ↦ absurd (omega (arith, size, ap length s.1.1, length_push s.0 s.1.0))
      ]
  linked_up_to d waiting (suc n) u i size short named =
      elim (snoc_cases u) [
        | inl e ↦ absurd (omega (arith, size, ap length e))
        | inr s ↦
            (let from = so_far.trie.reached i s.0 s.1.0 (named ∙ ap (λ (w : List ℕ). Some w) s.1.1) in
            let size_v : length s.0 ≡ n = omega (arith, size, ap length s.1.1, length_push s.0 s.1.0) in
            let parent_linked = linked_up_to d waiting n s.0 from.0 size_v (omega arith) from.1 in
            let place = so_far.place from.0 s.0 from.1 parent_linked in
            elim (cases_lt place.0 head) [
              | inl before ↦
                  (let next_is : next_in states (at place.0) s.1.0 ≡ i = ap (λ (m : ℕ). next_in states m s.1.0) place.2 ∙ from.4 in
                  let there : next_in states (at place.0) s.1.0 ≢ fail_id = λ e. named_ne_fail p (is_node p) (root_loop p) names states so_far.trie i u named (sym next_is ∙ e) in
                  λ e. so_far.done place.0 s.1.0 before from.2 there (ap (fail_in states) next_is ∙ e))
              | inr past ↦
                  absurd
                  (omega (arith, waiting place.0 past place.1, ap (depth_in states) place.2, so_far.trie.depths from.0 s.0 from.1))
            ])
      ]

  module _ (inside : head < length queue) where
    -- so each word that is not longer than the head's is linked
    shallow : (u : List ℕ) (i : ℕ) → length u ≤ depth_in states (at head) → name_at names i ≡ Some u → fail_in states i ≢ fail_id
    shallow u i short named = linked_up_to (depth_in states (at head)) (λ k past below. so_far.sorted head k past below) (length u) u i refl short named

    -- the head's word, and its length
    pub head_word : (word : List ℕ) × (name_at names (at head) ≡ Some word)
    head_word = so_far.named head inside

    pub head_depth : depth_in states (at head) ≡ length head_word.0
    head_depth = so_far.trie.depths (at head) head_word.0 head_word.1

    -- a byte can be followed from the head
    pub head_can : CanStep p names states (at head) (Some head_word.0)
    head_can = record {
      trie = so_far.trie;
      dead = so_far.dead;
      at = head_word.1;
      links = λ i u e nonempty short. (so_far.linked i u e nonempty (shallow u i (omega (arith, head_depth)) e)).fail;
    }

    module _ (byte : ℕ) (small : byte < 256) where
      abbrev pub child : ℕ
      child = next_in states (at head) byte

      abbrev pub word : List ℕ
      word = longer p head_word.0 byte

      child_named : child ≢ fail_id → (name_at names child ≡ Some word) ⊎ ((child ≡ root_id) ⊎ (child ≡ dead_id))
      child_named other =
          elim (cases_Bool (is_node p word)) [
            | inl there ↦ inl (MatchBool-at_true (name_at names child ≡ Some word) (child ≡ missing_at (root_loop p) head_word.0) there (so_far.trie.transitions (at head) head_word.0 byte head_word.1 small))
            | inr none ↦
                inr (at_root head_word.0 (MatchBool-at_false (name_at names child ≡ Some word) (child ≡ missing_at (root_loop p) head_word.0) none (so_far.trie.transitions (at head) head_word.0 byte head_word.1 small)))
          ]
        where
          by_cut : (cut : Bool) → child ≡ cond cut dead_id root_id → (child ≡ root_id) ⊎ (child ≡ dead_id)
          by_cut true e = inr e
          by_cut false e = inl e

          at_root : (w : List ℕ) → child ≡ missing_at (root_loop p) w → (child ≡ root_id) ⊎ (child ≡ dead_id)
          at_root [] e = by_cut (is_cut p []) e
          at_root (x ∷ w) e = absurd (other e)

      -- what the byte leads to is a state
      pub child_below : child ≢ fail_id → child < length states
      child_below other =
          let root_below = named_below p (is_node p) (root_loop p) names states so_far.trie root_id [] so_far.trie.root in
          elim (child_named other) [
            | inl named ↦ named_below p (is_node p) (root_loop p) names states so_far.trie child word named
            | inr first ↦ elim first [ inl root ↦ omega (arith, root_below) | inr dead ↦ omega (arith, root_below) ]
          ]

      -- a child that waits is one more word
      pub child_is : child ≢ fail_id → fail_in states child ≡ fail_id → name_at names child ≡ Some word
      child_is other free =
          elim (child_named other) [
            | inl named ↦ named
            | inr first ↦
                elim first [
                  | inl root ↦ absurd (root_ne (ap (fail_in states) (sym root) ∙ free))
                  | inr dead ↦ (let f : ◌≡◌ {A = ℕ} dead_id fail_id = sym so_far.dead.fail ∙ ap (fail_in states) (sym dead) ∙ free in absurd (omega arith))
                ]
          ]

      -- the state of the link has its link and its list
      pub link_known : (fail : ℕ) → IsStateOf names (failure_of p word) fail
          → (fail_in states fail ≢ fail_id) × (fail < length states) × (fail ≢ fail_id) × (matches_in states fail ≡ matches_of p (failure_of p word))
      link_known fail is = by_link (failure_of p word) refl is
        where
          listed : (v : List ℕ) → name_at names fail ≡ Some v → fail_in states fail ≢ fail_id → matches_in states fail ≡ matches_of p (Some v)
          listed [] named ready =
              let is_root : fail ≡ root_id = so_far.trie.unique fail root_id [] named so_far.trie.root in
              ap (matches_in states) is_root ∙ so_far.root_matches ∙ sym (matches-root p)
          listed (y ∷ v) named ready = (so_far.linked fail (y ∷ v) named (λ e. cc) ready).matches

          by_link : (link : Option (List ℕ)) → failure_of p word ≡ link → IsStateOf names link fail
              → (fail_in states fail ≢ fail_id) × (fail < length states) × (fail ≢ fail_id) × (matches_in states fail ≡ matches_of p link)
          by_link None e dead = (
            λ f. let g : ◌≡◌ {A = ℕ} dead_id fail_id = sym so_far.dead.fail ∙ ap (fail_in states) (sym dead) ∙ f in omega arith,
            omega (arith, named_below p (is_node p) (root_loop p) names states so_far.trie root_id [] so_far.trie.root),
            omega arith,
            ap (matches_in states) dead ∙ so_far.dead.matches,
          )
          by_link (Some v) e named =
              let short = failure-short p head_word.0 byte v e in
              let ready = shallow v fail (omega (arith, short, head_depth)) named in (
                ready,
                named_below p (is_node p) (root_loop p) names states so_far.trie fail v named,
                named_ne_fail p (is_node p) (root_loop p) names states so_far.trie fail v named,
                listed v named ready,
              )

    -- all transitions of the head are done
    pub IsLinking-next : length (state_at states (at head)).transitions ≤ part → IsLinking p names queue (head + 1) 0 states
    IsLinking-next all = record {
      trie = so_far.trie;
      dead = so_far.dead;
      anchored = so_far.anchored;
      root_fail = so_far.root_fail;
      root_matches = so_far.root_matches;
      linked = so_far.linked;
      unlinked = so_far.unlinked;
      named = so_far.named;
      queued = so_far.queued;
      place = so_far.place;
      done = λ k byte before tiny.
          elim (cases_eq k head) [
            | inl here ↦ subst (λ (n : ℕ). next_in states (at n) byte ≢ fail_id → fail_in states (next_in states (at n) byte) ≢ fail_id) (sym here) (of_head byte)
            | inr there ↦ so_far.done k byte (omega arith) tiny
          ];
      partly = λ k none. absurd (omega arith);
      sorted = so_far.sorted;
      near = λ k low next. (omega (arith, so_far.near k low inside, so_far.sorted head (head + 1) (omega arith) next));
    }
      where
        of_head : (byte : ℕ) → next_in states (at head) byte ≢ fail_id → fail_in states (next_in states (at head) byte) ≢ fail_id
        of_head byte there =
            let listed = transition_at-listed (state_at states (at head)).transitions byte there in
            let ready = so_far.partly listed.0 (omega (arith, listed.1)) (λ e. there (sym listed.2 ∙ e)) in
            λ e. ready (ap (fail_in states) listed.2 ∙ e)
