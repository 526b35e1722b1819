-- One transition of the head.
use Rattle.std.proofs.Common.{◌≡◌, ℕ, ◌+◌, ◌<◌, ◌≤◌, ◌≢◌, Bool, List, [], ◌∷◌, ◌++◌, length, get_or, Option, Some, refl, sym, ap, subst, ◌∙◌, arith}
use Rattle.std.proofs.lemmas.List.{length_push, get_or_append_left, get_or_default}
use Rattle.aho_core.specs.declared.error.BuildError.{BuildError}
use Rattle.aho_core.specs.declared.search.MatchKind.{MatchKind}
use Rattle.aho_core.specs.Failure.{failure_of}
use Rattle.aho_core.specs.Patterns.{Patterns}
use Rattle.aho_core.specs.Trie.{is_node}
use Rattle.aho_build.specs.Starts.{root_loop}
use Rattle.aho_build.specs.FailureLinks.{rows_of, CanLink, CanLinkBySome, LinksTo, IsLinking, IsLinkingBySome, KeepsLinking, OnlyCopies, linked_state, unlinked_count}
use Rattle.aho_table.specs.Refusal.{IsRefusalOf}
use Rattle.aho_build.specs.StateNames.{name_at, IsStateOf}
use Rattle.aho_build.specs.Trie.{longer, names_before}
use Rattle.aho_build.specs.Sizes.{matches_size}
use Rattle.aho_table.specs.Table.{fail_id, State, Tables, state_at, transition_in, next_in, fail_in, matches_in, matches_count}
use Rattle.aho_build.proofs.NamesOfTries.{named_below}
use Rattle.aho_table.proofs.States.{state_at-set_other}
use Rattle.aho_build.proofs.MatchTotals.{IsRefusalOf-larger, matches_count-link, matches_count-linking}
use Rattle.aho_build.proofs.KeptTransitions.{OnlyCopies-state}
use Rattle.aho_build.proofs.LinkedByDepth.{head_word, head_can, child_below, child_is, link_known}
use Rattle.aho_build.proofs.LinkedChild.{IsLinking-link, link_apart, unlinked_count-link}

module _ (kind : MatchKind) (queue : List ℕ) (head part : ℕ) (states : List State) (parent : ℕ) (transition : ℕ × ℕ) (inside : head < length queue) (small : transition.0 < 256)
    (read : parent ≡ get_or queue head parent) (transition_eq : transition ≡ transition_in states parent part) (leads : next_in states parent transition.0 ≡ transition.1) where
  abbrev byte : ℕ
  byte = transition.0

  abbrev child : ℕ
  child = transition.1

  -- the head of the queue
  parent_eq : parent ≡ get_or queue head 0
  parent_eq = read ∙ get_or_default queue head parent 0 inside

  child_next : child ≡ next_in states (get_or queue head 0) byte
  child_next = sym leads ∙ ap (λ (n : ℕ). next_in states n byte) parent_eq

  child_transition : child ≡ (transition_in states (get_or queue head 0) part).1
  child_transition = ap (λ (e : ℕ × ℕ). e.1) transition_eq ∙ ap (λ (n : ℕ). (transition_in states n part).1) parent_eq

  -- the child is a state
  pub visit_child_below : IsLinkingBySome kind queue head part states → child ≢ fail_id → child < length states
  visit_child_below some other =
      subst (λ (n : ℕ). n < length states) (sym child_next)
      (child_below some.0 some.1.0 queue head part states some.1.2 inside byte small (λ e. other (child_next ∙ e)))

  module _ (other : child ≢ fail_id) (free : fail_in states child ≡ fail_id) where
    -- the child waits for its link
    can_link : (p : Patterns) (names : List (Option (List ℕ))) → p.kind ≡ kind → (so_far : IsLinking p names queue head part states)
        → CanLink p names kind states parent byte child (head_word p names queue head part states so_far inside).0
    can_link p names same so_far =
        let u : List ℕ = (head_word p names queue head part states so_far inside).0 in
        let named : name_at names child ≡ Some (longer p u byte) =
        ap (name_at names) child_next
        ∙ child_is p names queue head part states so_far inside byte small (λ e. other (child_next ∙ e)) (ap (fail_in states) (sym child_next) ∙ free) in
        subst (λ (n : ℕ). CanLink p names kind states n byte child u) (sym parent_eq)
        (record {
          kind_is = same;
          can_step = head_can p names queue head part states so_far inside;
          root_matches = so_far.root_matches;
          named = named;
          matches = so_far.unlinked child (longer p u byte) named free;
        })

    -- its link can be made
    pub visit_can : IsLinkingBySome kind queue head part states → CanLinkBySome kind states parent byte child
    visit_can some = (
      some.0,
      (
        some.1.0,
        ((head_word some.0 some.1.0 queue head part states some.1.2 inside).0, can_link some.0 some.1.0 some.1.1 some.1.2),
      ),
    )

    module _ (fail : ℕ) (links : LinksTo kind states parent byte child fail) where
      fail_is : (p : Patterns) (names : List (Option (List ℕ))) → p.kind ≡ kind → (so_far : IsLinking p names queue head part states)
          → IsStateOf names (failure_of p (longer p (head_word p names queue head part states so_far inside).0 byte)) fail
      fail_is p names same so_far = links p names (head_word p names queue head part states so_far inside).0 (can_link p names same so_far)

      -- the link is a state
      pub visit_link_below : IsLinkingBySome kind queue head part states → fail < length states
      visit_link_below some = (link_known some.0 some.1.0 queue head part states some.1.2 inside byte small fail (fail_is some.0 some.1.0 some.1.1 some.1.2)).1

      -- and not the child itself
      pub visit_apart : IsLinkingBySome kind queue head part states → child ≢ fail
      visit_apart some =
          link_apart some.0 some.1.0 queue head part states some.1.2 inside byte small child fail child_next child_transition other free (fail_is some.0 some.1.0 some.1.1 some.1.2)

      -- the list of the link is not copied whole
      pub visit_refused : (limit : ℕ) (error : BuildError) → IsRefusalOf limit (matches_count states + length (matches_in states fail)) error
          → (p : Patterns) → p.kind ≡ kind → IsLinking p (names_before p (length p.words)) queue head part states → matches_in states fail_id ≡ [] → IsRefusalOf limit (matches_size p) error
      visit_refused limit error refusal p same so_far none =
          let names = names_before p (length p.words) in
          let state : State = record (state_at states child) { fail = fail; matches = (state_at states child).matches ++ matches_in states fail } in
          let below : child < length states = visit_child_below (p, (names, same, so_far)) other in
          let still_none : matches_in (linked_state states child fail) fail_id ≡ [] = ap (λ (r : State). r.matches) (state_at-set_other states child fail_id state (λ e. other (sym e))) ∙ none in
          let linked : IsLinking p names (queue ++ child ∷ []) head (part + 1) (linked_state states child fail) =
          IsLinking-link p names queue head part states so_far inside byte small child fail child_next child_transition other free (fail_is p names same so_far) in
          IsRefusalOf-larger limit (matches_size p) limit (matches_count states + length (matches_in states fail)) error refl
          (omega (arith, matches_count-link states child fail below, matches_count-linking p (queue ++ child ∷ []) head (part + 1) (linked_state states child fail) linked still_none))
          refusal

      -- and where it is, nothing else was changed
      pub visit_copies : (limit : ℕ) (classes : List Bool) (dense_len : ℕ) (rows : List Bool) (new : Tables) → IsLinkingBySome kind queue head part states → new.limit ≡ limit → rows_of new ≡ (classes, dense_len, rows)
          → new.states ≡ linked_state states child fail → OnlyCopies (record { states = states; limit = limit; classes = classes; dense_len = dense_len; rows = rows }) new
      visit_copies limit classes dense_len rows new some same_limit same_rows new_is =
          let old : Tables = record { states = states; limit = limit; classes = classes; dense_len = dense_len; rows = rows } in
          let state : State = record (state_at states child) { fail = fail; matches = (state_at states child).matches ++ matches_in states fail } in
          OnlyCopies-state old new child state (visit_child_below some other) other refl same_limit same_rows new_is

      module _ (queue' : List ℕ) (new : List State) (queue_is : queue' ≡ queue ++ child ∷ []) (new_is : new ≡ linked_state states child fail) where
        -- the links have come one transition further
        pub visit_keeps : KeepsLinking kind queue head part states queue' head (part + 1) new
        visit_keeps = λ p names same so_far.
            subst (λ (q : List ℕ). IsLinking p names q head (part + 1) new) (sym queue_is)
            (subst (λ (t : List State). IsLinking p names (queue ++ child ∷ []) head (part + 1) t) (sym new_is)
            (IsLinking-link p names queue head part states so_far inside byte small child fail child_next child_transition other free (fail_is p names same so_far)))

        -- one state fewer waits, and one more is queued
        pub visit_counted : IsLinkingBySome kind queue head part states → unlinked_count new + length queue' ≡ unlinked_count states + length queue
        visit_counted some =
            let fewer = unlinked_count-link some.0 some.1.0 queue head part states some.1.2 inside byte small child fail child_next child_transition other free (fail_is some.0 some.1.0 some.1.1 some.1.2) in
            let counted : unlinked_count new + 1 ≡ unlinked_count states = ap (λ (t : List State). unlinked_count t + 1) new_is ∙ fewer in
            let longer_by : length queue' ≡ length queue + 1 = ap length queue_is ∙ length_push queue child in
            omega arith

        -- the queue grows at its end
        pub visit_longer : length queue ≤ length queue'
        visit_longer = let longer_by : length queue' ≡ length queue + 1 = ap length queue_is ∙ length_push queue child in omega arith

        pub visit_head : get_or queue' head 0 ≡ get_or queue head 0
        visit_head = ap (λ (q : List ℕ). get_or q head 0) queue_is ∙ get_or_append_left queue (child ∷ []) 0 head inside

-- the head is a state
pub head_below : (p : Patterns) (names : List (Option (List ℕ))) (queue : List ℕ) (head part : ℕ) (states : List State) → IsLinking p names queue head part states → head < length queue → get_or queue head 0 < length states
head_below p names queue head part states so_far inside =
    let word = so_far.named head inside in named_below p (is_node p) (root_loop p) names states so_far.trie (get_or queue head 0) word.0 word.1
