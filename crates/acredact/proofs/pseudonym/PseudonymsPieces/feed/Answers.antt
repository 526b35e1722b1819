-- Where case is not ignored bytes are taken as they stand.
use Rattle.acredact.proofs.Common.{append_assoc, as_compared, ◌++◌}
use Rattle.std.proofs.lemmas.List.{map-id}
use Rattle.acredact.proofs.pseudonym.PseudonymsPieces.feed.Goals as goal

pub returns-else-self-clause-more : goal.returns-else-self-clause-more
returns-else-self-clause-more c = λ fed was.
    let s = c.args.self.now in
    let more = c.update.ensures (s.masks.inner ++ as_compared s.ignore_case fed) was in
    rw (c.if-self.false, map-id) (rw (c.if-self.false, map-id, append_assoc) at more)
