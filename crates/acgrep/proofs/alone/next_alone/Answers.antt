-- Nothing that stands alone is passed: what the search finds first is tried, and then what begins behind it.
use Rattle.acgrep.proofs.Common.{IsAnswer, IsBestOrNone, LeftmostLongest}
use Rattle.std.proofs.Common.{◌∙◌, None, Some, arith, length, sym}
use Rattle.aho_laws.specs.CutLaws.{span_search}
use Rattle.acgrep.specs.Alone.{IsAloneAt}
use Rattle.acgrep.proofs.AloneTried.{alone_found, alone_later, alone_none, begins_at, longest_there}
use Rattle.acgrep.proofs.alone.next_alone.Goals as goal

pub loop-longest-init : goal.loop-longest-init
loop-longest-init c = record {
  low = omega arith;
  high = c.requires.within;
  passed = λ p is kind. begins_at p c.args.line.now kind c.args.at;
}

pub returns-in-Some-2-clause-next : goal.returns-in-Some-2-clause-next
returns-in-Some-2-clause-next c = λ p is.
    let kind = sym (c.match_kind.ensures.patterns p is) ∙ c.in-LeftmostLongest.is in
    let line = c.args.line.now in
    let from = c.loop-longest.from in
    let longest = c.in-Some.longest in
    let best : IsAnswer p (span_search line from (length line)) (Some longest) = rw c.in-Some.is at c.in_ok-longest.ensures.found p is in
    let passed = c.loop-longest.invariant.passed p is kind in
    alone_found p line kind c.args.at from passed longest best c.loop-longest.invariant.low c.in-Some-2.found
    (rw c.in-Some-2.is at c.in_ok-found.ensures.alone p is kind (longest_there p line kind c.args.at from passed longest best))

pub loop-longest-preserved : goal.loop-longest-preserved
loop-longest-preserved c =
    let line = c.args.line.now in
    let from = c.loop-longest.from in
    let longest = c.in-Some.longest in
    let so_far = c.loop-longest.invariant in
    let start = c.start-from.ensures.start in
    record {
      low = omega (arith, so_far.low, (rw c.in-Some.is at c.in_ok-longest.ensures.behind), start);
      high = omega (arith, (rw c.in-Some.is at c.in_ok-longest.ensures.ordered), (rw c.in-Some.is at c.in_ok-longest.ensures.within), start);
      passed = λ p is kind other alone.
          let best : IsAnswer p (span_search line from (length line)) (Some longest) = rw c.in-Some.is at c.in_ok-longest.ensures.found p is in
          let passed = so_far.passed p is kind in
          let none : IsBestOrNone LeftmostLongest (IsAloneAt p line longest.start) None =
          rw c.in_default-3.is at c.in_ok-found.ensures.alone p is kind (longest_there p line kind c.args.at from passed longest best) in
          omega (arith, start, alone_later p line kind c.args.at from passed longest best none other alone);
    }

pub returns-clause-next : goal.returns-clause-next
returns-clause-next c = λ p is.
    let kind = sym (c.match_kind.ensures.patterns p is) ∙ c.in-LeftmostLongest.is in
    alone_none p c.args.line.now kind c.args.at c.loop-longest.from (c.loop-longest.invariant.passed p is kind) (rw c.in_default-2.is at c.in_ok-longest.ensures.found p is)
