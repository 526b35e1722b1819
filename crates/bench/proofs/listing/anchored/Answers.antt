use Rattle.std.proofs.Common.{arith, subst, sym, ◌∙◌}
use Rattle.bench.proofs.ListedEnds.{EndsWithin, all_occurrences-get_or}
use Rattle.bench.proofs.listing.anchored.Goals as goal

pub begins_some-requires : goal.begins_some-requires
begins_some-requires c =
    let ends : EndsWithin c.args.span.start c.args.span.end c.m-item.result =
    subst (EndsWithin c.args.span.start c.args.span.end) (sym c.m-item.is)
    (all_occurrences-get_or c.args.patterns.now c.args.haystack.now c.args.span.start c.args.span.end c.deref-m-items.result.now c.loop-m.m-index c.m-item.result
    c.requires.within (c.deref-m-items.ensures.value ∙ c.in_ok-listed.ensures.all) c.loop-m-test.true) in
    record { ordered = omega (arith, ends); within = omega (arith, ends) }
