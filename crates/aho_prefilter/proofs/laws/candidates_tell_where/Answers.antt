use Rattle.aho_prefilter.proofs.Skips.{IsCandidate-nothing, IsCandidate-place}
use Rattle.aho_prefilter.proofs.laws.candidates_tell_where.Goals as goal

pub returns : goal.returns
returns c = record { place = IsCandidate-place; nothing = IsCandidate-nothing }
