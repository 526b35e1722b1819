-- Each turn of the loop, and the way out of it.
use Rattle.aho_stream.proofs.pieces.search_skipping.Goals as goal

pub skip-requires-clause-after : goal.skip-requires-clause-after
skip-requires-clause-after g c =
    let inv = c.loop-walk.invariant in
    let (p, given, of, a) = c.requires.after in
    rw (inv.same_walk) (p, given, of, inv.after p given of a)
