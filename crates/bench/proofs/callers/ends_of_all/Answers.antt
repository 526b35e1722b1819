-- What came when the loop ended is all that the iterator gives.
use Rattle.std.proofs.Common.{◌∙◌, sym, ap, map}
use Rattle.std.proofs.iter.SoFar.{exit_by}
use Rattle.aho_core.specs.Overlapping.{all_occurrences}
use Rattle.aho_core.specs.Search.{Search}
use Rattle.bench.proofs.callers.ends_of_all.Goals as goal

pub loop-m-init-derived : goal.loop-m-init-derived
loop-m-init-derived c = rw c.into_iter-m-iterator.ensures.into_iter_gives (c.in-Ok.ensures.ready _ c.requires.of.1, tt)

pub returns : goal.returns
returns c =
    let last = rw c.in-None.is at c.next.ensures.steps in
    let calls = rw c.into_iter-m-iterator.ensures.into_iter_gives at c.loop-m.yielded_by in
    let all = exit_by _ (c.loop-m.yielded, calls) c.next.new.self last in
    record {
      ends = λ p of.
          c.loop-m.invariant
          ∙ ap (map (λ m. m.end))
          (sym all.3.0 ∙ c.in-Ok.ensures.lists p of all.0 all.0.seen all.1 all.2 ∙ ap (λ (s : Search). all_occurrences p s.haystack s.start s.end) c.new.ensures.whole);
    }
