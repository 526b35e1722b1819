use Rattle.std.proofs.Common.{arith, ℕ, ap, ◌∙◌, ◌-◌, ◌+◌, ◌≤◌, ◌≡◌, []}
use Rattle.std.specs.List.{range_with_len, flat_map}
use Rattle.aho_core.specs.Overlapping.{occurrences_ending}
use Rattle.aho_laws.proofs.Ranges.{places_step, places_end}
use Rattle.bench.proofs.listing.all.Goals as goal
use Rattle.bench.proofs.listing.all.Goals.{else-loop-end-test, then-loop-end-test+in_ok-push_ending+else-end-end-end}

pub loop-end-preserved : goal.loop-end-preserved
loop-end-preserved c =
    let at_or_after : c.args.span.start ≤ c.loop-end.end = omega arith in
    record {
      bound = omega arith;
      found =
          places_step (occurrences_ending c.args.patterns.now c.args.haystack.now c.args.span.start)
          c.args.span.start c.loop-end.end [] c.loop-end.found.items c.push_ending.new.found.items
          at_or_after c.loop-end.invariant.found c.in_ok-push_ending.ensures.pushed;
    }

pub returns : goal.returns
returns c =
    let f = occurrences_ending c.args.patterns.now c.args.haystack.now c.args.span.start in
    record {
      all =
          elim c.loop-end-test.branch [
            | else-loop-end-test w ↦
                let none_left : c.loop-end.end - c.args.span.start ≡ c.args.span.end + 1 - c.args.span.start = omega (arith, c.loop-end.invariant.bound, w.loop-end-test.false) in
                rw w.found-is (c.loop-end.invariant.found ∙ ap (λ (n : ℕ). flat_map f (range_with_len c.args.span.start n)) none_left)
            | then-loop-end-test+in_ok-push_ending+else-end-end-end w ↦
                let at_or_after : c.args.span.start ≤ c.loop-end.end = omega arith in
                let at_end : c.loop-end.end ≡ c.args.span.end = omega (arith, w.loop-end-test.true) in
                rw w.found-is
                (places_end f c.args.span.start c.loop-end.end c.args.span.end [] c.loop-end.found.items w.push_ending.new.found.items
                at_or_after at_end c.loop-end.invariant.found w.in_ok-push_ending.ensures.pushed)
          ];
    }
