use Rattle.aho_laws.proofs.CoverKept.{begins-with_find, lies-in_run}
use Rattle.aho_laws.proofs.cover.runs_hold_whole_occurrences.Goals as goal

pub returns-clause-occurrences : goal.returns-clause-occurrences
returns-clause-occurrences c = lies-in_run

pub returns-clause-finds : goal.returns-clause-finds
returns-clause-finds c = begins-with_find
