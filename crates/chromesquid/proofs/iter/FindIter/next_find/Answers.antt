use Rattle.chromesquid.proofs.Iterated.{fewer_after}
use Rattle.chromesquid.proofs.iter.FindIter.next_find.Goals as goal

pub returns-clause-fewer : goal.returns-clause-fewer
returns-clause-fewer c =
    let some = c.requires.some in
    fewer_after some.0 _ _ _ (c.answer.ensures.next some.0 some.1)
