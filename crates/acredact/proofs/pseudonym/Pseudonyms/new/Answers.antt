-- Both blocks are those of the key.
use Rattle.acredact.proofs.Common.{refl}
use Rattle.acredact.proofs.pseudonym.Pseudonyms.new.Goals as goal

pub returns : goal.returns
returns c = record { rule = rw (c.masks_of.ensures.inner, c.masks_of.ensures.outer) refl }
