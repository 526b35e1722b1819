use Rattle.aho_prefilter.proofs.Held.{held_for-of, held_for-kind, IsPrefilterOf-kind}
use Rattle.aho_prefilter.proofs.HeldPacked.{held_or_packed-kind, held_or_packed-of}
use Rattle.aho_prefilter.proofs.HeldStrided.{quickest_for-kind, quickest_for-of}
use Rattle.aho_prefilter.proofs.laws.held_serves_each_kind.Goals as goal

pub returns : goal.returns
returns c = record { of = held_for-of; held = held_for-kind; of_packed = held_or_packed-of; held_packed = held_or_packed-kind; of_quickest = quickest_for-of; held_quickest = quickest_for-kind; served = IsPrefilterOf-kind }
