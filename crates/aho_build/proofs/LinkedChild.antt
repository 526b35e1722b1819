-- A child is linked and is put into the queue.
use Rattle.std.proofs.Common.{◌≡◌, ℕ, ◌+◌, ◌<◌, ◌≤◌, ◌≢◌, ◌⊎◌, Bool, cond, eqb, List, [], ◌∷◌, ◌++◌, length, get_or, Option, Some, refl, sym, ap, subst, ◌∙◌, inl, inr, arith}
use Rattle.std.proofs.Math.ListN.{set}
use Rattle.std.proofs.lemmas.Bool.{cases_eq, cases_lt, eq-eqb, ne_eqb}
use Rattle.std.proofs.lemmas.List.{length-set, length_push, get_or_append_left, get_or_push}
use Rattle.std.proofs.lemmas.List.Sums.{sum_by-set}
use Rattle.aho_core.specs.Bytes.{folded}
use Rattle.aho_core.specs.Failure.{failure_of}
use Rattle.aho_core.specs.MatchList.{own_matches, matches_of}
use Rattle.aho_core.specs.Patterns.{Patterns}
use Rattle.aho_core.specs.Trie.{is_node}
use Rattle.aho_laws.proofs.ByLinks.{matches-next}
use Rattle.aho_build.specs.FailureLinks.{IsLinked, IsLinking, linked_state, unlinked_count}
use Rattle.aho_build.specs.Starts.{IsReady, IsDead, IsAnchoredStart, root_loop}
use Rattle.aho_build.specs.Built.{IsBuilt}
use Rattle.aho_build.specs.StateNames.{name_at, IsStateOf}
use Rattle.aho_build.specs.Trie.{longer}
use Rattle.aho_table.specs.Table.{fail_id, dead_id, State, new_state, state_at, transition_in, transition_at, next_in, fail_in, depth_in, matches_in, set_fail_of}
use Rattle.aho_build.specs.FirstStates.{anchored_id, root_id}
use Rattle.aho_build.proofs.NamesOfTries.{named_below, IsTrie-table}
use Rattle.aho_table.proofs.States.{state_at-set_same, state_at-set_other, part-set}
use Rattle.aho_build.proofs.LinkedByDepth.{longer-nonempty, linked_up_to, head_word, head_depth, child_is, link_known}

-- the patterns of a nonempty word: its own, then its link's
matches-nonempty : (p : Patterns) (u : List ℕ) → u ≢ [] → matches_of p (Some u) ≡ own_matches p u ++ matches_of p (failure_of p u)
matches-nonempty p [] ne = absurd (ne refl)
matches-nonempty p (y ∷ u) ne = matches-next p y u

-- the state of another state stays, so the starts that are no words stay as they are
IsDead-other : (old new : List State) → state_at new dead_id ≡ state_at old dead_id → IsDead old → IsDead new
IsDead-other old new same dead = record {
  matches = ap (λ (r : State). r.matches) same ∙ dead.matches;
  fail = ap (λ (r : State). r.fail) same ∙ dead.fail;
  depth = ap (λ (r : State). r.depth) same ∙ dead.depth;
}

IsAnchoredStart-other : (p : Patterns) (old new : List State) → state_at new anchored_id ≡ state_at old anchored_id → ((byte : ℕ) → next_in new root_id byte ≡ next_in old root_id byte) → IsAnchoredStart p old → IsAnchoredStart p new
IsAnchoredStart-other p old new same root start = record {
  next = λ byte small.
      ap (λ (r : State). transition_at r.transitions byte) same ∙ start.next byte small ∙ ap (λ (n : ℕ). cond (is_node p (folded p byte ∷ [])) n fail_id) (sym (root byte));
  matches = ap (λ (r : State). r.matches) same ∙ start.matches;
  fail = ap (λ (r : State). r.fail) same ∙ start.fail;
  depth = ap (λ (r : State). r.depth) same ∙ start.depth;
}

module _ (p : Patterns) (names : List (Option (List ℕ))) (queue : List ℕ) (head part : ℕ) (states : List State)
    (so_far : IsLinking p names queue head part states) (inside : head < length queue) (byte : ℕ) (small : byte < 256) (child fail : ℕ)
    (child_eq : child ≡ next_in states (get_or queue head 0) byte) (transition_eq : child ≡ (transition_in states (get_or queue head 0) part).1) (other : child ≢ fail_id) (free : fail_in states child ≡ fail_id)
    (fail_eq : IsStateOf names (failure_of p (longer p (head_word p names queue head part states so_far inside).0 byte)) fail) where
  abbrev the_word : List ℕ
  the_word = longer p (head_word p names queue head part states so_far inside).0 byte

  abbrev new : List State
  new = linked_state states child fail

  abbrev state : State
  state = record (state_at states child) { fail = fail; matches = (state_at states child).matches ++ matches_in states fail }

  abbrev queue' : List ℕ
  queue' = queue ++ child ∷ []

  -- the child's word
  child_name : name_at names child ≡ Some the_word
  child_name =
      ap (name_at names) child_eq
      ∙ child_is p names queue head part states so_far inside byte small (λ e. other (child_eq ∙ e)) (ap (fail_in states) (sym child_eq) ∙ free)

  -- its link is a state that has its own link and list
  known : (fail_in states fail ≢ fail_id) × (fail < length states) × (fail ≢ fail_id) × (matches_in states fail ≡ matches_of p (failure_of p the_word))
  known = link_known p names queue head part states so_far inside byte small fail fail_eq

  below : child < length states
  below = named_below p (is_node p) (root_loop p) names states so_far.trie child the_word child_name

  -- the child is not its own link
  pub link_apart : child ≢ fail
  link_apart e = known.0 (ap (fail_in states) (sym e) ∙ free)

  transitions_kept : (i : ℕ) → (state_at new i).transitions ≡ (state_at states i).transitions
  transitions_kept i = part-set (λ (r : State). r.transitions) states child state below refl i

  transitions_same : (i x : ℕ) → next_in new i x ≡ next_in states i x
  transitions_same i x = ap (λ (l : List (ℕ × ℕ)). transition_at l x) (transitions_kept i)

  transition_same : (i k : ℕ) → (transition_in new i k).1 ≡ (transition_in states i k).1
  transition_same i k = ap (λ (l : List (ℕ × ℕ)). (get_or l k (0, 1)).1) (transitions_kept i)

  depth_same : (i : ℕ) → depth_in new i ≡ depth_in states i
  depth_same i = part-set (λ (r : State). r.depth) states child state below refl i

  state_other : (i : ℕ) → i ≢ child → state_at new i ≡ state_at states i
  state_other i ne = state_at-set_other states child i state ne

  fail_child : fail_in new child ≡ fail
  fail_child = ap (λ (r : State). r.fail) (state_at-set_same states child state below)

  fail_other : (i : ℕ) → i ≢ child → fail_in new i ≡ fail_in states i
  fail_other i ne = ap (λ (r : State). r.fail) (state_other i ne)

  matches_other : (i : ℕ) → i ≢ child → matches_in new i ≡ matches_in states i
  matches_other i ne = ap (λ (r : State). r.matches) (state_other i ne)

  matches_child : matches_in new child ≡ matches_in states child ++ matches_in states fail
  matches_child = ap (λ (r : State). r.matches) (state_at-set_same states child state below)

  stays_linked : (i : ℕ) → fail_in states i ≢ fail_id → fail_in new i ≢ fail_id
  stays_linked i ready =
      elim (cases_eq i child) [
        | inl here ↦ absurd (ready (ap (fail_in states) here ∙ free))
        | inr there ↦ λ e. ready (sym (fail_other i there) ∙ e)
      ]

  child_linked : fail_in new child ≢ fail_id
  child_linked e = known.2 (sym fail_child ∙ e)

  old_place : (k : ℕ) → k < length queue → get_or queue' k 0 ≡ get_or queue k 0
  old_place k inside_k = get_or_append_left queue (child ∷ []) 0 k inside_k

  new_place : get_or queue' (length queue) 0 ≡ child
  new_place = get_or_push queue child 0 (length queue) refl

  old_or_new : (k : ℕ) → k < length queue' → (k < length queue) ⊎ (k ≡ length queue)
  old_or_new k inside_k = elim (cases_lt k (length queue)) [ inl low ↦ inl low | inr high ↦ inr (omega (arith, length_push queue child)) ]

  child_depth : depth_in new child ≡ depth_in states (get_or queue head 0) + 1
  child_depth =
      depth_same child ∙ so_far.trie.depths child the_word child_name ∙ length_push (head_word p names queue head part states so_far inside).0 (folded p byte)
      ∙ ap (λ (n : ℕ). n + 1) (sym (head_depth p names queue head part states so_far inside))

  depth_at : (k : ℕ) → k < length queue → depth_in new (get_or queue' k 0) ≡ depth_in states (get_or queue k 0)
  depth_at k inside_k = ap (depth_in new) (old_place k inside_k) ∙ depth_same (get_or queue k 0)

  -- every state with a link has the right one
  new_links : (i : ℕ) (u : List ℕ) → name_at names i ≡ Some u → u ≢ [] → fail_in new i ≢ fail_id → IsLinked p names new i u
  new_links i u e nonempty ready =
      elim (cases_eq i child) [
        | inl here ↦
            (let both : Some the_word ≡ Some u = sym child_name ∙ ap (name_at names) (sym here) ∙ e in
            let same : the_word ≡ u = cc in
            let leads : fail ≡ fail_in new i = sym (ap (fail_in new) here ∙ fail_child) in
            record {
              fail = subst (λ (w : List ℕ). IsStateOf names (failure_of p w) (fail_in new i)) same (subst (λ (n : ℕ). IsStateOf names (failure_of p the_word) n) leads fail_eq);
              matches =
                  ap (matches_in new) here ∙ matches_child
                  ∙ ap (λ (l : List ℕ). l ++ matches_in states fail) (so_far.unlinked child the_word child_name free)
                  ∙ ap (λ (l : List ℕ). own_matches p the_word ++ l) known.3
                  ∙ sym (matches-nonempty p the_word (longer-nonempty p (head_word p names queue head part states so_far inside).0 byte))
                  ∙ ap (λ (w : List ℕ). matches_of p (Some w)) same;
            })
        | inr there ↦
            (let was = so_far.linked i u e nonempty (λ f. ready (fail_other i there ∙ f)) in
            record {
              fail = subst (λ (n : ℕ). IsStateOf names (failure_of p u) n) (sym (fail_other i there)) was.fail;
              matches = matches_other i there ∙ was.matches;
            })
      ]

  root_apart : root_id ≢ child
  root_apart e = let f : ◌≡◌ {A = ℕ} dead_id fail_id = sym so_far.root_fail ∙ ap (fail_in states) e ∙ free in omega arith

  dead_apart : dead_id ≢ child
  dead_apart e = let f : ◌≡◌ {A = ℕ} dead_id fail_id = sym so_far.dead.fail ∙ ap (fail_in states) e ∙ free in omega arith

  anchored_apart : anchored_id ≢ child
  anchored_apart e = let f : ◌≡◌ {A = ℕ} dead_id fail_id = sym so_far.anchored.fail ∙ ap (fail_in states) e ∙ free in omega arith

  -- so the links have come one transition further
  pub IsLinking-link : IsLinking p names queue' head (part + 1) new
  IsLinking-link = record {
    trie = IsTrie-table p (is_node p) (root_loop p) names states new (length-set states child state) transitions_same depth_same so_far.trie;
    dead = IsDead-other states new (state_other dead_id dead_apart) so_far.dead;
    anchored = IsAnchoredStart-other p states new (state_other anchored_id anchored_apart) (transitions_same root_id) so_far.anchored;
    root_fail = fail_other root_id root_apart ∙ so_far.root_fail;
    root_matches = matches_other root_id root_apart ∙ so_far.root_matches;
    linked = new_links;
    unlinked = λ i u e waits.
        elim (cases_eq i child) [
          | inl here ↦ absurd (child_linked (ap (fail_in new) (sym here) ∙ waits))
          | inr there ↦ matches_other i there ∙ so_far.unlinked i u e (sym (fail_other i there) ∙ waits)
        ];
    named = λ k inside_k.
        elim (old_or_new k inside_k) [
          | inl low ↦ (let was = so_far.named k low in (was.0, ap (name_at names) (old_place k low) ∙ was.1))
          | inr last ↦ (the_word, ap (λ (n : ℕ). name_at names (get_or queue' n 0)) last ∙ ap (name_at names) new_place ∙ child_name)
        ];
    queued = λ k inside_k.
        elim (old_or_new k inside_k) [
          | inl low ↦ λ e. stays_linked (get_or queue k 0) (so_far.queued k low) (ap (fail_in new) (sym (old_place k low)) ∙ e)
          | inr last ↦ λ e. child_linked (ap (fail_in new) (sym (ap (λ (n : ℕ). get_or queue' n 0) last ∙ new_place)) ∙ e)
        ];
    place = λ i u e ready.
        elim (cases_eq i child) [
          | inl here ↦ (length queue, omega (arith, length_push queue child), new_place ∙ sym here)
          | inr there ↦
              (let was = so_far.place i u e (λ f. ready (fail_other i there ∙ f)) in
              (was.0, omega (arith, length_push queue child, was.1), old_place was.0 was.1 ∙ was.2))
        ];
    done = λ k x before tiny there.
        let low : k < length queue = omega arith in
        let next : next_in new (get_or queue' k 0) x ≡ next_in states (get_or queue k 0) x = ap (λ (n : ℕ). next_in new n x) (old_place k low) ∙ transitions_same (get_or queue k 0) x in
        let ready = so_far.done k x before tiny (λ e. there (next ∙ e)) in
        λ e. stays_linked (next_in states (get_or queue k 0) x) ready (ap (fail_in new) (sym next) ∙ e);
    partly = λ k low there.
        let next : (transition_in new (get_or queue' head 0) k).1 ≡ (transition_in states (get_or queue head 0) k).1 =
        ap (λ (n : ℕ). (transition_in new n k).1) (old_place head inside) ∙ transition_same (get_or queue head 0) k in
        elim (cases_eq k part) [
          | inl here ↦
              (let leads : (transition_in new (get_or queue' head 0) k).1 ≡ child = next ∙ ap (λ (n : ℕ). (transition_in states (get_or queue head 0) n).1) here ∙ sym transition_eq in
              λ e. child_linked (ap (fail_in new) (sym leads) ∙ e))
          | inr apart ↦
              (let ready = so_far.partly k (omega arith) (λ e. there (next ∙ e)) in
              λ e. stays_linked (transition_in states (get_or queue head 0) k).1 ready (ap (fail_in new) (sym next) ∙ e))
        ];
    sorted = λ k l before inside_l.
        elim (old_or_new l inside_l) [
          | inl low ↦ (omega (arith, depth_at k (omega arith), depth_at l low, so_far.sorted k l before low))
          | inr last ↦
              (let last_depth : depth_in new (get_or queue' l 0) ≡ depth_in states (get_or queue head 0) + 1 =
              ap (λ (n : ℕ). depth_in new (get_or queue' n 0)) last ∙ ap (depth_in new) new_place ∙ child_depth in
              elim (cases_lt k (length queue)) [
                | inl low ↦ (omega (arith, depth_at k low, so_far.near k low inside, last_depth))
                | inr high ↦ (let same : k ≡ l = omega arith in omega (arith, ap (λ (n : ℕ). depth_in new (get_or queue' n 0)) same))
              ])
        ];
    near = λ k inside_k inside_head.
        elim (old_or_new k inside_k) [
          | inl low ↦ (omega (arith, depth_at k low, depth_at head inside, so_far.near k low inside))
          | inr last ↦
              (omega (arith, depth_at head inside, ap (λ (n : ℕ). depth_in new (get_or queue' n 0)) last ∙ ap (depth_in new) new_place ∙ child_depth))
        ];
  }

  -- one state fewer waits
  pub unlinked_count-link : unlinked_count new + 1 ≡ unlinked_count states
  unlinked_count-link =
      let weight : State → ℕ = λ r. cond (eqb r.fail fail_id) 1 0 in
      let counted = sum_by-set weight states child state (new_state 0) below in
      let was : weight (state_at states child) ≡ 1 = ap (λ (b : Bool). cond b 1 0) (eq-eqb (fail_in states child) fail_id free) in
      let now : weight state ≡ 0 = ap (λ (b : Bool). cond b 1 0) (ne_eqb fail fail_id known.2) in
      omega (arith, counted, was, now)

-- at the end every state is linked
pub IsLinking-end : (p : Patterns) (names : List (Option (List ℕ))) (queue : List ℕ) (head part : ℕ) (states : List State) → length queue ≤ head
    → IsLinking p names queue head part states → IsBuilt p names states
IsLinking-end p names queue head part states past so_far =
    let all : (i : ℕ) (u : List ℕ) → name_at names i ≡ Some u → fail_in states i ≢ fail_id =
    λ i u e. linked_up_to p names queue head part states so_far (length u) (λ k high low. absurd (omega arith)) (length u) u i refl (omega arith) e in
    record {
      trie = so_far.trie;
      dead = so_far.dead;
      anchored = so_far.anchored;
      root_fail = so_far.root_fail;
      root_matches = so_far.root_matches;
      linked = λ i u e nonempty. so_far.linked i u e nonempty (all i u e);
    }

-- at first the root alone is there
pub IsLinking-start : (p : Patterns) (names : List (Option (List ℕ))) (states new : List State) → IsReady p names states → new ≡ set_fail_of states root_id dead_id
    → IsLinking p names (root_id ∷ []) 0 0 new
IsLinking-start p names states new ready new_is =
    let below : root_id < length states = named_below p (is_node p) (root_loop p) names states ready.trie root_id [] ready.trie.root in
    let state : State = record (state_at states root_id) { fail = dead_id } in
    let fail_root : fail_in (set states root_id state) root_id ≡ dead_id = ap (λ (r : State). r.fail) (state_at-set_same states root_id state below) in
    let fail_other : (i : ℕ) (u : List ℕ) → name_at names i ≡ Some u → i ≢ root_id → fail_in (set states root_id state) i ≡ fail_id =
    λ i u e ne. ap (λ (r : State). r.fail) (state_at-set_other states root_id i state ne) ∙ ready.unlinked i u e in
    let lists : (i : ℕ) → matches_in (set states root_id state) i ≡ matches_in states i = part-set (λ (r : State). r.matches) states root_id state below refl in
    let transitions : (i : ℕ) → (state_at (set states root_id state) i).transitions ≡ (state_at states i).transitions = part-set (λ (r : State). r.transitions) states root_id state below refl in
    subst (IsLinking p names (root_id ∷ []) 0 0) (sym new_is)
    (record {
      trie = IsTrie-table p (is_node p) (root_loop p) names states (set states root_id state) (length-set states root_id state)
          (λ i byte. ap (λ (l : List (ℕ × ℕ)). transition_at l byte) (transitions i))
          (part-set (λ (r : State). r.depth) states root_id state below refl) ready.trie;
      dead = IsDead-other states (set states root_id state) (state_at-set_other states root_id dead_id state (λ e. omega arith)) ready.dead;
      anchored = IsAnchoredStart-other p states (set states root_id state) (state_at-set_other states root_id anchored_id state (λ e. omega arith)) (λ byte. ap (λ (l : List (ℕ × ℕ)). transition_at l byte) (transitions root_id)) ready.anchored;
      root_fail = fail_root;
      root_matches = lists root_id ∙ ready.lists root_id [] ready.trie.root;
      linked = λ i u e nonempty linked.
          elim (cases_eq i root_id) [
            | inl here ↦ (let both : Some u ≡ Some [] = sym e ∙ ap (name_at names) here ∙ ready.trie.root in absurd (nonempty (cc)))
            | inr there ↦ absurd (linked (fail_other i u e there))
          ];
      unlinked = λ i u e waits. lists i ∙ ready.lists i u e;
      named = λ k inside. let first : k ≡ 0 = omega arith in ([], ap (λ (n : ℕ). name_at names (get_or (root_id ∷ []) n 0)) first ∙ ready.trie.root);
      queued = λ k inside e.
          let first : k ≡ 0 = omega arith in
          let clash : ◌≡◌ {A = ℕ} dead_id fail_id = sym fail_root ∙ ap (λ (n : ℕ). fail_in (set states root_id state) (get_or (root_id ∷ []) n 0)) (sym first) ∙ e in
          omega arith;
      place = λ i u e linked.
          elim (cases_eq i root_id) [
            | inl here ↦ (0, omega arith, sym here)
            | inr there ↦ absurd (linked (fail_other i u e there))
          ];
      done = λ k byte before. absurd (omega arith);
      partly = λ k before. absurd (omega arith);
      sorted = λ k l before inside. let same : k ≡ l = omega arith in (omega (arith, ap (λ (n : ℕ). depth_in (set states root_id state) (get_or (root_id ∷ []) n 0)) same));
      near = λ k inside first. let same : k ≡ 0 = omega arith in (omega (arith, ap (λ (n : ℕ). depth_in (set states root_id state) (get_or (root_id ∷ []) n 0)) same));
    })
