use Rattle.std.proofs.Common.{rules, of_calls, ◌≡◌, ℕ, ◌++◌, ◌≤◌, None, Some, Ok, length, drop, refl, ap, subst, ◌∙◌, arith, alloc_error}
use Rattle.std.specs.Prelude.{slice_range, vec_items}
use Rattle.aho_core.specs.ClosureRun.{CalledOn, CopiesWhole}
use Rattle.aho_core.specs.Iteration.{IsNextFind}
use Rattle.aho_core.specs.Patterns.{Patterns}
use Rattle.aho_core.specs.Search.{Search}
use Rattle.std.specs.declared.alloc.AllocError.{AllocError}
use Rattle.aho_automaton.proofs.NextFinds.{find-within}
use Rattle.aho_automaton.proofs.RunsLeft.{IsLeft-true, Runs-end, Runs-false, Runs-refused_call, Runs-refused_copy, refused, rest_copied}
use Rattle.aho_automaton.proofs.replace.replace_bytes.Goals as goal

pub returns-in_err-extend_from_slice : goal.returns-in_err-extend_from_slice
returns-in_err-extend_from_slice g c =
    let inv = c.loop-m.invariant in
    let m = c.in-Some.m in
    let it = c.loop-m.m-iterator in
    let is_of = g.A.Automaton.is_of c.args.finds.automaton.now in
    let found : (p : Patterns) → is_of p → IsNextFind p it.input it.last_match_end (Some m) = λ p of. c.in-Some.ensures.steps.1.next p (rw inv.same of) in
    let within : it.input.end ≤ length it.input.haystack = rw inv.searched (omega arith) in
    record {
      run = rw (refused c.from_residual.result c.from_residual.ensures.0)
          (Runs-refused_copy (CopiesWhole vec_items) (CalledOn g.F.FnMut) c.args.haystack.now is_of (λ ms. ms) c.args.replace_with c.args.dst.now
          it.input it.last_match_end c.loop-m.copied c.loop-m.replace_with c.loop-m.dst inv.left m within found (λ ms. refl)
          alloc_error c.extend_from_slice.new.self c.in_err-extend_from_slice.ensures.items);
    }

pub returns-in_err-replace_with : goal.returns-in_err-replace_with
returns-in_err-replace_with g c =
    let inv = c.loop-m.invariant in
    let m = c.in-Some.m in
    let it = c.loop-m.m-iterator in
    let is_of = g.A.Automaton.is_of c.args.finds.automaton.now in
    let found : (p : Patterns) → is_of p → IsNextFind p it.input it.last_match_end (Some m) = λ p of. c.in-Some.ensures.steps.1.next p (rw inv.same of) in
    let within : it.input.end ≤ length it.input.haystack = rw inv.searched (omega arith) in
    let gap : c.extend_from_slice.new.self.items ≡ c.loop-m.dst.items ++ slice_range c.args.haystack.now c.loop-m.copied m.start = c.in_ok-extend_from_slice.ensures.items ∙ ap (λ (k : ℕ). c.loop-m.dst.items ++ slice_range c.args.haystack.now c.loop-m.copied k) c.start-start.ensures.start in
    let piece : slice_range c.args.haystack.now c.start-start.result c.end-end.result ≡ slice_range c.args.haystack.now m.start m.end = rw (c.start-start.ensures.start, c.end-end.ensures.end) in
    let called : CalledOn g.F.FnMut c.loop-m.replace_with m (slice_range c.args.haystack.now m.start m.end) c.extend_from_slice.new.self c.replace_with.result c.replace_with.new.self c.replace_with.new.arg4 =
    record { found = _; bytes = _; lent = _; left = _; shows = (refl, piece, refl, refl); called = c.replace_with.ensures } in
    let err_called = subst (λ r. CalledOn g.F.FnMut c.loop-m.replace_with m (slice_range c.args.haystack.now m.start m.end) c.extend_from_slice.new.self r c.replace_with.new.self c.replace_with.new.arg4) c.in_err-replace_with.was called in
    record {
      run = rw (refused c.from_residual-in_err-replace_with.result c.from_residual-in_err-replace_with.ensures.0)
          (Runs-refused_call (CopiesWhole vec_items) (CalledOn g.F.FnMut) c.args.haystack.now is_of (λ ms. ms) c.args.replace_with c.args.dst.now
          it.input it.last_match_end c.loop-m.copied c.loop-m.replace_with c.loop-m.dst inv.left m within found (λ ms. refl)
          c.extend_from_slice.new.self gap c.replace_with.new.self c.replace_with.new.arg4 alloc_error err_called);
    }

pub returns-then-not-branch : goal.returns-then-not-branch
returns-then-not-branch g c =
    let inv = c.loop-m.invariant in
    let m = c.in-Some.m in
    let it = c.loop-m.m-iterator in
    let is_of = g.A.Automaton.is_of c.args.finds.automaton.now in
    let found : (p : Patterns) → is_of p → IsNextFind p it.input it.last_match_end (Some m) = λ p of. c.in-Some.ensures.steps.1.next p (rw inv.same of) in
    let within : it.input.end ≤ length it.input.haystack = rw inv.searched (omega arith) in
    let gap : c.extend_from_slice.new.self.items ≡ c.loop-m.dst.items ++ slice_range c.args.haystack.now c.loop-m.copied m.start = c.in_ok-extend_from_slice.ensures.items ∙ ap (λ (k : ℕ). c.loop-m.dst.items ++ slice_range c.args.haystack.now c.loop-m.copied k) c.start-start.ensures.start in
    let piece : slice_range c.args.haystack.now c.start-start.result c.end-end.result ≡ slice_range c.args.haystack.now m.start m.end = rw (c.start-start.ensures.start, c.end-end.ensures.end) in
    let called : CalledOn g.F.FnMut c.loop-m.replace_with m (slice_range c.args.haystack.now m.start m.end) c.extend_from_slice.new.self c.replace_with.result c.replace_with.new.self c.replace_with.new.arg4 =
    record { found = _; bytes = _; lent = _; left = _; shows = (refl, piece, refl, refl); called = c.replace_with.ensures } in
    let false_called = subst (λ r. CalledOn g.F.FnMut c.loop-m.replace_with m (slice_range c.args.haystack.now m.start m.end) c.extend_from_slice.new.self r c.replace_with.new.self c.replace_with.new.arg4) (c.in_ok-replace_with.was ∙ ap Ok c.if-not-branch.true) called in
    record {
      run = Runs-false (CopiesWhole vec_items) (CalledOn g.F.FnMut) c.args.haystack.now is_of (λ ms. ms) c.args.replace_with c.args.dst.now
          it.input it.last_match_end c.loop-m.copied c.loop-m.replace_with c.loop-m.dst inv.left m within found (λ ms. refl)
          c.extend_from_slice.new.self gap c.replace_with.new.self c.replace_with.new.arg4 false_called
          c.extend_from_slice-then-not-branch.result c.extend_from_slice-then-not-branch.new.self
          (subst (λ (k : ℕ). CopiesWhole {E = AllocError} vec_items c.replace_with.new.arg4 (drop k c.args.haystack.now) c.extend_from_slice-then-not-branch.result c.extend_from_slice-then-not-branch.new.self) c.end-end.ensures.end (rest_copied vec_items c.replace_with.new.arg4 c.extend_from_slice-then-not-branch.new.self c.args.haystack.now c.end-end.result c.extend_from_slice-then-not-branch.result c.extend_from_slice-then-not-branch.ensures.items));
    }

pub loop-m-preserved : goal.loop-m-preserved
loop-m-preserved g c =
    let inv = c.loop-m.invariant in
    let m = c.in-Some.m in
    let it = c.loop-m.m-iterator in
    let is_of = g.A.Automaton.is_of c.args.finds.automaton.now in
    let found : (p : Patterns) → is_of p → IsNextFind p it.input it.last_match_end (Some m) = λ p of. c.in-Some.ensures.steps.1.next p (rw inv.same of) in
    let within : it.input.end ≤ length it.input.haystack = rw inv.searched (omega arith) in
    let gap : c.extend_from_slice.new.self.items ≡ c.loop-m.dst.items ++ slice_range c.args.haystack.now c.loop-m.copied m.start = c.in_ok-extend_from_slice.ensures.items ∙ ap (λ (k : ℕ). c.loop-m.dst.items ++ slice_range c.args.haystack.now c.loop-m.copied k) c.start-start.ensures.start in
    let piece : slice_range c.args.haystack.now c.start-start.result c.end-end.result ≡ slice_range c.args.haystack.now m.start m.end = rw (c.start-start.ensures.start, c.end-end.ensures.end) in
    let called : CalledOn g.F.FnMut c.loop-m.replace_with m (slice_range c.args.haystack.now m.start m.end) c.extend_from_slice.new.self c.replace_with.result c.replace_with.new.self c.replace_with.new.arg4 =
    record { found = _; bytes = _; lent = _; left = _; shows = (refl, piece, refl, refl); called = c.replace_with.ensures } in
    let true_called = subst (λ r. CalledOn g.F.FnMut c.loop-m.replace_with m (slice_range c.args.haystack.now m.start m.end) c.extend_from_slice.new.self r c.replace_with.new.self c.replace_with.new.arg4) (c.in_ok-replace_with.was ∙ ap Ok c.if-not-branch.false) called in
    let moved : c.next.new.self.input ≡ record it.input { start = m.end } = c.in-Some.ensures.steps.1.goes_on in
    let ended : c.next.new.self.last_match_end ≡ Some m.end = c.in-Some.ensures.steps.1.ended in
    let bounds = find-within c.requires.of.0 it.input it.last_match_end m (found c.requires.of.0 c.requires.of.1) in
    let left = IsLeft-true (CopiesWhole vec_items) (CalledOn g.F.FnMut) c.args.haystack.now is_of (λ ms. ms) c.args.replace_with c.args.dst.now
    it.input it.last_match_end c.loop-m.copied c.loop-m.replace_with c.loop-m.dst inv.left m within found (λ ms. refl)
    c.extend_from_slice.new.self gap c.replace_with.new.self c.replace_with.new.arg4 true_called in
    record {
      can_next = c.in-Some.ensures.goes.keeps;
      is_finite = tt;
      callable = search (rules, of_calls);
      same = c.in-Some.ensures.steps.0 ∙ inv.same;
      searched = moved ∙ rw (inv.searched, c.end-end.ensures.end);
      within = rw c.end-end.ensures.end (subst (λ (x : Search). m.end ≤ x.end) inv.searched bounds.2);
      left = rw (moved, ended, c.end-end.ensures.end) left;
    }

pub returns : goal.returns
returns g c =
    let inv = c.loop-m.invariant in
    let it = c.loop-m.m-iterator in
    let is_of = g.A.Automaton.is_of c.args.finds.automaton.now in
    let found : (p : Patterns) → is_of p → IsNextFind p it.input it.last_match_end None = λ p of. c.in-None.ensures.steps.1.next p (rw inv.same of) in
    record {
      run = Runs-end (CopiesWhole vec_items) (CalledOn g.F.FnMut) c.args.haystack.now is_of (λ ms. ms) c.args.replace_with c.args.dst.now
          it.input it.last_match_end c.loop-m.copied c.loop-m.replace_with c.loop-m.dst inv.left found refl
          c.extend_from_slice-2.result c.extend_from_slice-2.new.self (rest_copied vec_items c.loop-m.dst c.extend_from_slice-2.new.self c.args.haystack.now c.loop-m.copied c.extend_from_slice-2.result c.extend_from_slice-2.ensures.items);
    }

pub slice_bounds-matched-end : goal.slice_bounds-matched-end
slice_bounds-matched-end g c =
    let inv = c.loop-m.invariant in
    let m = c.in-Some.m in
    let it = c.loop-m.m-iterator in
    let found : IsNextFind c.requires.of.0 it.input it.last_match_end (Some m) = c.in-Some.ensures.steps.1.next c.requires.of.0 (rw inv.same c.requires.of.1) in
    let bounds = find-within c.requires.of.0 it.input it.last_match_end m found in
    let end : c.end-end.result ≤ length c.args.haystack.now = rw c.end-end.ensures.end (subst (λ (x : Search). m.end ≤ x.end) inv.searched bounds.2) in
    end
