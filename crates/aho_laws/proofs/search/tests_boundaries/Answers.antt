use Rattle.aho_laws.proofs.Boundaries.{boundary-tested}
use Rattle.aho_laws.proofs.search.tests_boundaries.Goals as goal

pub returns : goal.returns
returns c = record { boundary = boundary-tested }
