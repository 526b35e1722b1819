use Rattle.std.proofs.Common.{◌≡◌, ◌≤◌, ◌<◌, ◌++◌, ◌∷◌, [], ◌∙◌, refl, sym, subst, ap, arith, length, get_or, ℕ, List}
use Rattle.std.proofs.lemmas.List.{get_or_default}
use Rattle.aho_core.specs.Trie.{is_node}
use Rattle.aho_build.specs.FailureLinks.{IsLinking, IsReadyRefusal, rows_of}
use Rattle.aho_build.specs.Starts.{root_loop}
use Rattle.aho_build.specs.Sizes.{matches_size}
use Rattle.aho_build.specs.Trie.{names_before}
use Rattle.aho_table.specs.Table.{dead_id, State, Tables, state_at, set_fail_of}
use Rattle.aho_build.specs.FirstStates.{root_id}
use Rattle.aho_build.proofs.NamesOfTries.{named_below}
use Rattle.aho_build.proofs.MatchTotals.{IsRefusalOf-larger}
use Rattle.aho_build.proofs.KeptTransitions.{OnlyCopies-state, OnlyCopies-both}
use Rattle.aho_build.proofs.LinkedByDepth.{IsLinking-next}
use Rattle.aho_build.proofs.LinkedChild.{IsLinking-start, IsLinking-end}
use Rattle.aho_build.proofs.StoppedBuilds.{IfErr-given}
use Rattle.aho_build.proofs.VisitedTransitions.{head_below}
use Rattle.aho_build.proofs.compiler.failure.fill_failure_transitions.Goals as goal

pub states-init : goal.states-init
states-init c =
    let root_is = c.unanchored_start-root.ensures.start in
    let states_are = ap (λ (t : Tables). t.states) c.set_fail.ensures.set ∙ ap (λ (n : ℕ). set_fail_of c.args.table.now.states n dead_id) root_is in
    let ready = c.requires.ready in
    let below : root_id < length c.args.table.now.states = named_below ready.0 (is_node ready.0) (root_loop ready.0) ready.1.0 c.args.table.now.states ready.1.2.trie root_id [] ready.1.2.trie.root in
    let queue_is : c.enqueue.new.queue.items ≡ root_id ∷ [] =
    c.in_ok-enqueue.ensures.enqueued ∙ ap (λ (l : List ℕ). l ++ c.unanchored_start-root.result ∷ []) c.new-queue.ensures.items ∙ ap (λ (n : ℕ). n ∷ []) root_is in
    record {
      within = omega arith;
      copies = OnlyCopies-state c.args.table.now c.set_fail.new.self root_id (record (state_at c.args.table.now.states root_id) { fail = dead_id }) below (λ e. omega arith) refl
          (ap (λ (t : Tables). t.limit) c.set_fail.ensures.set) (ap rows_of c.set_fail.ensures.set) states_are;
      linking = λ p names same ready.
          subst (λ (q : List ℕ). IsLinking p names q 0 0 c.set_fail.new.self.states) (sym queue_is)
          (IsLinking-start p names c.args.table.now.states c.set_fail.new.self.states ready states_are);
    }

pub transitions_len-index-end-requires : goal.transitions_len-index-end-requires
transitions_len-index-end-requires c =
    let ready = c.requires.ready in
    let queue = c.states.queue.items in
    let inside : c.states.head < length queue = omega (arith, c.states.queue.ok.0) in
    let so_far = c.states.invariant.linking ready.0 ready.1.0 ready.1.1 ready.1.2 in
    record {
      added = subst (λ (n : ℕ). n < length c.states.table.states) (sym (c.index.ensures ∙ get_or_default queue c.states.head c.index.result.now 0 inside))
          (head_below ready.0 ready.1.0 queue c.states.head 0 c.states.table.states so_far inside);
    }

pub transitions-preserved : goal.transitions-preserved
transitions-preserved c = record {
  counted = c.in_ok-visit.ensures.counted ∙ c.transitions.invariant.counted;
  longer = omega (arith, c.in_ok-visit.ensures.longer, c.transitions.invariant.longer);
  head = c.in_ok-visit.ensures.head ∙ c.transitions.invariant.head;
  same = OnlyCopies-both c.states.table c.transitions.table c.visit.new.table c.transitions.invariant.same c.in_ok-visit.ensures.copies;
  copies = OnlyCopies-both c.args.table.now c.transitions.table c.visit.new.table c.transitions.invariant.copies c.in_ok-visit.ensures.copies;
  linking = λ p names same ready. c.in_ok-visit.ensures.linking p names same (c.transitions.invariant.linking p names same ready);
}

pub states-preserved : goal.states-preserved
states-preserved c =
    let inside : c.states.head < length c.transitions.queue.items = omega (arith, c.transitions.invariant.longer, c.transitions.queue.ok.0) in
    let before : c.states.head < length c.states.queue.items = omega (arith, c.states.queue.ok.0) in
    let head_is = c.transitions.invariant.head ∙ sym (c.index.ensures ∙ get_or_default c.states.queue.items c.states.head c.index.result.now 0 before) in
    let count : length (state_at c.transitions.table.states (get_or c.transitions.queue.items c.states.head 0)).transitions ≡ c.transitions_len-index-end.result =
    ap (λ (n : ℕ). length (state_at c.transitions.table.states n).transitions) head_is
    ∙ ap length (c.transitions.invariant.same.transitions c.index.result.now)
    ∙ sym c.transitions_len-index-end.ensures.len in
    record {
      within = omega (arith, c.transitions.invariant.longer);
      copies = c.transitions.invariant.copies;
      linking = λ p names same ready.
          IsLinking-next p names c.transitions.queue.items c.states.head c.transitions.index c.transitions.table.states (c.transitions.invariant.linking p names same ready) inside (omega arith);
    }

pub returns : goal.returns
returns c =
    let past : length c.states.queue.items ≤ c.states.head = omega (arith, c.states.queue.ok.0) in
    record {
      built = λ p names same ready. IsLinking-end p names c.states.queue.items c.states.head 0 c.states.table.states past (c.states.invariant.linking p names same ready);
      copies = c.states.invariant.copies;
      refused = tt;
    }

pub returns-in_err-visit-clause-refused : goal.returns-in_err-visit-clause-refused
returns-in_err-visit-clause-refused c =
    IfErr-given (IsReadyRefusal c.args.kind c.args.table.now) c.from_residual-in_err-visit.result c.in_err-visit.field-0.0 c.from_residual-in_err-visit.ensures.1
    (λ p same ready none.
    let copies = c.transitions.invariant.copies in
    IsRefusalOf-larger c.args.table.now.limit (matches_size p) c.transitions.table.limit (matches_size p) c.in_err-visit.field-0.0 copies.limit (omega arith)
    (c.in_err-visit.ensures.refused p same (c.transitions.invariant.linking p (names_before p (length p.words)) same ready) (ap (λ (s : State). s.matches) copies.fail_state ∙ none)))
