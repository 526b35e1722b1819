-- The finds are what the iterator gives.
use Rattle.std.proofs.Common.{None, arith}
use Rattle.aho_core.specs.Search.{plain_search}
use Rattle.chromesquid_c.proofs.Listing.{few-finds}
use Rattle.chromesquid_c.proofs.list.list_finds.Goals as goal

pub returns : goal.returns
returns c = record {
  lists = λ p built.
      let run = c.list_all.ensures.lists in
      let are = c.find_iter.ensures.finds p built run.0 run.0.seen run.1 run.2 in
      let few = few-finds p (plain_search c.args.haystack.now) None run.0.items are in
      record { finds = run.0.items; are = are; room = run.3.1; count = omega (arith, few, run.3.0) };
}
