use Rattle.std.proofs.Common.{rules, of_calls, ◌≡◌, ℕ, ◌++◌, ◌≤◌, List, None, Some, Ok, length, drop, refl, sym, ap, subst, ◌∙◌, arith, alloc_error, string_bytes}
use Rattle.std.specs.Prelude.{slice_range}
use Rattle.std.specs.declared.alloc.AllocError.{AllocError}
use Rattle.std.proofs.lemmas.Str.{IsCharBoundary-start}
use Rattle.aho_core.specs.ClosureRun.{CalledOn, CopiesWhole}
use Rattle.aho_core.specs.Iteration.{IsNextFind}
use Rattle.aho_core.specs.Patterns.{Patterns}
use Rattle.aho_core.specs.Replacement.{on_boundaries}
use Rattle.aho_automaton.specs.declared.iter.FindIter.{FindIter}
use Rattle.aho_automaton.proofs.NextFinds.{find-within}
use Rattle.aho_automaton.proofs.RunsLeft.{IsLeft-begin, IsLeft-skip, IsLeft-true, Runs-end, Runs-false, Runs-refused_call, Runs-refused_copy, on_boundaries-kept, on_boundaries-skipped, refused}
use Rattle.aho_automaton.proofs.replace.replace_text.Goals as goal

pub loop-m-init : goal.loop-m-init
loop-m-init g c =
    let began = c.into_iter-m-iterator.ensures.into_iter_gives in
    let is_of = g.A.Automaton.is_of c.args.finds.automaton.now in
    record {
      can_next = rw began (c.requires.of, c.requires.starts);
      is_finite = tt;
      callable = c.requires.callable;
      same = ap (λ (x : FindIter _). x.automaton) began;
      searched = rw (began, c.requires.whole) refl;
      passed = omega arith;
      boundary = IsCharBoundary-start c.args.text.now c.utf8.text;
      left = rw (began, c.requires.whole, c.requires.first) (IsLeft-begin (CopiesWhole string_bytes) (CalledOn g.F.FnMut) c.args.text.now is_of (on_boundaries c.args.text.now) c.args.replace_with c.args.dst.now);
    }

pub loop-m-preserved-then-not-is_on_boundaries : goal.loop-m-preserved-then-not-is_on_boundaries
loop-m-preserved-then-not-is_on_boundaries g c =
    let inv = c.loop-m.invariant in
    let m = c.in-Some.m in
    let it = c.loop-m.m-iterator in
    let is_of = g.A.Automaton.is_of c.args.finds.automaton.now in
    let found : (p : Patterns) → is_of p → IsNextFind p it.input it.last_match_end (Some m) = λ p of. c.in-Some.ensures.steps.1.next p (rw inv.same of) in
    let within : it.input.end ≤ length it.input.haystack = rw inv.searched (omega arith) in
    let skipped = on_boundaries-skipped c.args.text.now m (sym c.is_on_boundaries.ensures.test ∙ c.if-not-is_on_boundaries.true) in
    let moved : c.next.new.self.input ≡ record it.input { start = m.end } = c.in-Some.ensures.steps.1.goes_on in
    let ended : c.next.new.self.last_match_end ≡ Some m.end = c.in-Some.ensures.steps.1.ended in
    let bounds = find-within c.requires.of.0 it.input it.last_match_end m (found c.requires.of.0 c.requires.of.1) in
    let left = IsLeft-skip (CopiesWhole string_bytes) (CalledOn g.F.FnMut) c.args.text.now is_of (on_boundaries c.args.text.now) c.args.replace_with c.args.dst.now
    it.input it.last_match_end c.loop-m.copied c.loop-m.replace_with c.loop-m.dst inv.left m within found skipped in
    record {
      can_next = c.in-Some.ensures.goes.keeps;
      is_finite = tt;
      callable = inv.callable;
      same = c.in-Some.ensures.steps.0 ∙ inv.same;
      searched = rw moved (rw inv.searched refl);
      passed = rw moved (omega (arith, inv.passed, bounds));
      boundary = inv.boundary;
      left = rw (moved, ended) left;
    }

pub returns-in_err-push_str : goal.returns-in_err-push_str
returns-in_err-push_str g c =
    let inv = c.loop-m.invariant in
    let m = c.in-Some.m in
    let it = c.loop-m.m-iterator in
    let is_of = g.A.Automaton.is_of c.args.finds.automaton.now in
    let found : (p : Patterns) → is_of p → IsNextFind p it.input it.last_match_end (Some m) = λ p of. c.in-Some.ensures.steps.1.next p (rw inv.same of) in
    let within : it.input.end ≤ length it.input.haystack = rw inv.searched (omega arith) in
    let kept = on_boundaries-kept c.args.text.now m (sym c.is_on_boundaries.ensures.test ∙ c.if-not-is_on_boundaries.false) in
    let copied : string_bytes c.push_str.new.self ≡ string_bytes c.loop-m.dst = c.in_err-push_str.ensures.bytes in
    record {
      run = rw (refused c.from_residual.result c.from_residual.ensures.0)
          (Runs-refused_copy (CopiesWhole string_bytes) (CalledOn g.F.FnMut) c.args.text.now is_of (on_boundaries c.args.text.now) c.args.replace_with c.args.dst.now
          it.input it.last_match_end c.loop-m.copied c.loop-m.replace_with c.loop-m.dst inv.left m within found kept
          alloc_error c.push_str.new.self copied);
    }

pub returns-in_err-replace_with : goal.returns-in_err-replace_with
returns-in_err-replace_with g c =
    let inv = c.loop-m.invariant in
    let m = c.in-Some.m in
    let it = c.loop-m.m-iterator in
    let is_of = g.A.Automaton.is_of c.args.finds.automaton.now in
    let found : (p : Patterns) → is_of p → IsNextFind p it.input it.last_match_end (Some m) = λ p of. c.in-Some.ensures.steps.1.next p (rw inv.same of) in
    let within : it.input.end ≤ length it.input.haystack = rw inv.searched (omega arith) in
    let kept = on_boundaries-kept c.args.text.now m (sym c.is_on_boundaries.ensures.test ∙ c.if-not-is_on_boundaries.false) in
    let gap : string_bytes c.push_str.new.self ≡ string_bytes c.loop-m.dst ++ slice_range c.args.text.now c.loop-m.copied m.start = c.in_ok-push_str.ensures.bytes
    ∙ ap (λ (bytes : List ℕ). string_bytes c.loop-m.dst ++ bytes) (c.range.ensures.value ∙ ap (λ (k : ℕ). slice_range c.args.text.now c.loop-m.copied k) c.start-start.ensures.start) in
    let piece : c.range-found.result.now ≡ slice_range c.args.text.now m.start m.end = c.range-found.ensures.value ∙ rw (c.start-start.ensures.start, c.end-end.ensures.end) in
    let called : CalledOn g.F.FnMut c.loop-m.replace_with m (slice_range c.args.text.now m.start m.end) c.push_str.new.self c.replace_with.result c.replace_with.new.self c.replace_with.new.arg4 =
    record { found = _; bytes = _; lent = _; left = _; shows = (refl, piece, refl, refl); called = c.replace_with.ensures } in
    let err_called = subst (λ r. CalledOn g.F.FnMut c.loop-m.replace_with m (slice_range c.args.text.now m.start m.end) c.push_str.new.self r c.replace_with.new.self c.replace_with.new.arg4) c.in_err-replace_with.was called in
    record {
      run = rw (refused c.from_residual-in_err-replace_with.result c.from_residual-in_err-replace_with.ensures.0)
          (Runs-refused_call (CopiesWhole string_bytes) (CalledOn g.F.FnMut) c.args.text.now is_of (on_boundaries c.args.text.now) c.args.replace_with c.args.dst.now
          it.input it.last_match_end c.loop-m.copied c.loop-m.replace_with c.loop-m.dst inv.left m within found kept
          c.push_str.new.self gap c.replace_with.new.self c.replace_with.new.arg4 alloc_error err_called);
    }

pub returns-then-not-branch : goal.returns-then-not-branch
returns-then-not-branch g c =
    let inv = c.loop-m.invariant in
    let m = c.in-Some.m in
    let it = c.loop-m.m-iterator in
    let is_of = g.A.Automaton.is_of c.args.finds.automaton.now in
    let found : (p : Patterns) → is_of p → IsNextFind p it.input it.last_match_end (Some m) = λ p of. c.in-Some.ensures.steps.1.next p (rw inv.same of) in
    let within : it.input.end ≤ length it.input.haystack = rw inv.searched (omega arith) in
    let kept = on_boundaries-kept c.args.text.now m (sym c.is_on_boundaries.ensures.test ∙ c.if-not-is_on_boundaries.false) in
    let gap : string_bytes c.push_str.new.self ≡ string_bytes c.loop-m.dst ++ slice_range c.args.text.now c.loop-m.copied m.start = c.in_ok-push_str.ensures.bytes
    ∙ ap (λ (bytes : List ℕ). string_bytes c.loop-m.dst ++ bytes) (c.range.ensures.value ∙ ap (λ (k : ℕ). slice_range c.args.text.now c.loop-m.copied k) c.start-start.ensures.start) in
    let piece : c.range-found.result.now ≡ slice_range c.args.text.now m.start m.end = c.range-found.ensures.value ∙ rw (c.start-start.ensures.start, c.end-end.ensures.end) in
    let called : CalledOn g.F.FnMut c.loop-m.replace_with m (slice_range c.args.text.now m.start m.end) c.push_str.new.self c.replace_with.result c.replace_with.new.self c.replace_with.new.arg4 =
    record { found = _; bytes = _; lent = _; left = _; shows = (refl, piece, refl, refl); called = c.replace_with.ensures } in
    let false_called = subst (λ r. CalledOn g.F.FnMut c.loop-m.replace_with m (slice_range c.args.text.now m.start m.end) c.push_str.new.self r c.replace_with.new.self c.replace_with.new.arg4) (c.in_ok-replace_with.was ∙ ap Ok c.if-not-branch.true) called in
    let rest : c.range_from.result.now ≡ drop m.end c.args.text.now = c.range_from.ensures.value ∙ ap (λ (k : ℕ). drop k c.args.text.now) c.end-end.ensures.end in
    record {
      run = Runs-false (CopiesWhole string_bytes) (CalledOn g.F.FnMut) c.args.text.now is_of (on_boundaries c.args.text.now) c.args.replace_with c.args.dst.now
          it.input it.last_match_end c.loop-m.copied c.loop-m.replace_with c.loop-m.dst inv.left m within found kept
          c.push_str.new.self gap c.replace_with.new.self c.replace_with.new.arg4 false_called
          c.push_str-then-not-branch.result c.push_str-then-not-branch.new.self
          (subst (λ (bytes : List ℕ). CopiesWhole {E = AllocError} string_bytes c.replace_with.new.arg4 bytes c.push_str-then-not-branch.result c.push_str-then-not-branch.new.self) rest c.push_str-then-not-branch.ensures.bytes);
    }

pub loop-m-preserved : goal.loop-m-preserved
loop-m-preserved g c =
    let inv = c.loop-m.invariant in
    let m = c.in-Some.m in
    let it = c.loop-m.m-iterator in
    let is_of = g.A.Automaton.is_of c.args.finds.automaton.now in
    let found : (p : Patterns) → is_of p → IsNextFind p it.input it.last_match_end (Some m) = λ p of. c.in-Some.ensures.steps.1.next p (rw inv.same of) in
    let within : it.input.end ≤ length it.input.haystack = rw inv.searched (omega arith) in
    let kept = on_boundaries-kept c.args.text.now m (sym c.is_on_boundaries.ensures.test ∙ c.if-not-is_on_boundaries.false) in
    let gap : string_bytes c.push_str.new.self ≡ string_bytes c.loop-m.dst ++ slice_range c.args.text.now c.loop-m.copied m.start = c.in_ok-push_str.ensures.bytes
    ∙ ap (λ (bytes : List ℕ). string_bytes c.loop-m.dst ++ bytes) (c.range.ensures.value ∙ ap (λ (k : ℕ). slice_range c.args.text.now c.loop-m.copied k) c.start-start.ensures.start) in
    let piece : c.range-found.result.now ≡ slice_range c.args.text.now m.start m.end = c.range-found.ensures.value ∙ rw (c.start-start.ensures.start, c.end-end.ensures.end) in
    let called : CalledOn g.F.FnMut c.loop-m.replace_with m (slice_range c.args.text.now m.start m.end) c.push_str.new.self c.replace_with.result c.replace_with.new.self c.replace_with.new.arg4 =
    record { found = _; bytes = _; lent = _; left = _; shows = (refl, piece, refl, refl); called = c.replace_with.ensures } in
    let true_called = subst (λ r. CalledOn g.F.FnMut c.loop-m.replace_with m (slice_range c.args.text.now m.start m.end) c.push_str.new.self r c.replace_with.new.self c.replace_with.new.arg4) (c.in_ok-replace_with.was ∙ ap Ok c.if-not-branch.false) called in
    let moved : c.next.new.self.input ≡ record it.input { start = m.end } = c.in-Some.ensures.steps.1.goes_on in
    let ended : c.next.new.self.last_match_end ≡ Some m.end = c.in-Some.ensures.steps.1.ended in
    let left = IsLeft-true (CopiesWhole string_bytes) (CalledOn g.F.FnMut) c.args.text.now is_of (on_boundaries c.args.text.now) c.args.replace_with c.args.dst.now
    it.input it.last_match_end c.loop-m.copied c.loop-m.replace_with c.loop-m.dst inv.left m within found kept
    c.push_str.new.self gap c.replace_with.new.self c.replace_with.new.arg4 true_called in
    record {
      can_next = c.in-Some.ensures.goes.keeps;
      is_finite = tt;
      callable = search (rules, of_calls);
      same = c.in-Some.ensures.steps.0 ∙ inv.same;
      searched = rw moved (rw inv.searched refl);
      passed = rw (moved, c.end-end.ensures.end) (omega arith);
      boundary = rw c.end-end.ensures.end (c.is_on_boundaries.ensures.end c.if-not-is_on_boundaries.false);
      left = rw (moved, ended, c.end-end.ensures.end) left;
    }

pub returns : goal.returns
returns g c =
    let inv = c.loop-m.invariant in
    let it = c.loop-m.m-iterator in
    let is_of = g.A.Automaton.is_of c.args.finds.automaton.now in
    let found : (p : Patterns) → is_of p → IsNextFind p it.input it.last_match_end None = λ p of. c.in-None.ensures.steps.1.next p (rw inv.same of) in
    record {
      run = Runs-end (CopiesWhole string_bytes) (CalledOn g.F.FnMut) c.args.text.now is_of (on_boundaries c.args.text.now) c.args.replace_with c.args.dst.now
          it.input it.last_match_end c.loop-m.copied c.loop-m.replace_with c.loop-m.dst inv.left found refl
          c.push_str-2.result c.push_str-2.new.self
          (subst (λ (bytes : List ℕ). CopiesWhole {E = AllocError} string_bytes c.loop-m.dst bytes c.push_str-2.result c.push_str-2.new.self) c.range_from-2.ensures.value c.push_str-2.ensures.bytes);
    }
