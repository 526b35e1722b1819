-- The parts stand one behind another.
use Rattle.acredact.proofs.Common.{append_assoc, refl}
use Rattle.acredact.proofs.legend.put_long.Goals as goal

pub returns : goal.returns
returns c = record { put = simp (append_assoc, c.in_ok-extend_from_slice-2.ensures.items, c.in_ok-put_number.ensures.put, c.in_ok-extend_from_slice.ensures.items) refl }
