use Rattle.std.proofs.Common.{[]}
use Rattle.std.proofs.lemmas.List.{append-nil}
use Rattle.bench.proofs.listing.finds.Goals as goal

pub returns : goal.returns
returns c = record { finds = rw append-nil at (c.loop-m.invariant.finds [] c.in_default.ensures.next) }
