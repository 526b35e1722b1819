-- The longest is tried first, and then the shorter ones, one after another.
use Rattle.std.proofs.Common.{◌∙◌, ◌≡◌, ap, arith, false, sym}
use Rattle.acgrep.specs.Alone.{begins_alone, ends_alone}
use Rattle.acgrep.proofs.AloneTried.{tried_alone, tried_next, tried_none}
use Rattle.acgrep.proofs.alone.alone_at.Goals as goal

pub loop-found-preserved : goal.loop-found-preserved
loop-found-preserved c =
    let line = c.args.line.now in
    let found = c.loop-found.found in
    let so_far = c.loop-found.invariant in
    let refused : ends_alone line found.end ≡ false = sym (c.loop-found-test.ensures ∙ ap (ends_alone line) c.end.ensures.end) in
    record {
      start = (rw c.in-Some.is at c.in_ok-other.ensures.start) ∙ so_far.start;
      ordered = rw c.in-Some.is at c.in_ok-other.ensures.ordered;
      within = omega (arith, (rw c.in-Some.is at c.in_ok-other.ensures.shorter), so_far.within);
      tried = λ p is kind longest.
          tried_next p line kind c.args.longest.start found _ (so_far.tried p is kind longest) refused
          (rw c.in-Some.is at c.in_ok-other.ensures.longest p is kind);
    }

pub returns-in-None-clause-alone : goal.returns-in-None-clause-alone
returns-in-None-clause-alone c = λ p is kind longest.
    let line = c.args.line.now in
    let found = c.loop-found.found in
    let refused : ends_alone line found.end ≡ false = sym (c.loop-found-test.ensures ∙ ap (ends_alone line) c.end.ensures.end) in
    tried_none p line kind c.args.longest.start found (c.loop-found.invariant.tried p is kind longest) refused
    (rw c.in-None.is at c.in_ok-other.ensures.longest p is kind)

pub returns-clause-alone : goal.returns-clause-alone
returns-clause-alone c = λ p is kind longest.
    let line = c.args.line.now in
    tried_alone p line kind c.args.longest.start c.loop-found.found (c.loop-found.invariant.tried p is kind longest)
    (sym (c.if-not-begins_alone.ensures ∙ ap (begins_alone line) c.start.ensures.start)) (sym (c.loop-found-test.ensures ∙ ap (ends_alone line) c.end.ensures.end))
