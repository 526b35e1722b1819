use Rattle.std.proofs.Common.{None, arith}
use Rattle.aho_core.specs.ClosureRun.{CalledOn}
use Rattle.aho_core.specs.Replacement.{is_on_boundaries, on_boundaries}
use Rattle.aho_core.specs.Search.{plain_search}
use Rattle.aho_laws.specs.SearchLaws.{EndsBefore}
use Rattle.aho_laws.proofs.ClosureRuns.{ClosureRun-own}
use Rattle.aho_laws.proofs.Iterations.{finds-apart, finds-ordered}
use Rattle.aho_laws.proofs.Members.{listed-filter, member-of_filter}
use Rattle.aho_laws.proofs.search.appending_the_matched_text.Goals as goal

pub returns : goal.returns
returns g c = record {
  finds = λ bytes_of p text ms appends finds closure old new run.
      ClosureRun-own bytes_of (CalledOn g.F.FnMut) text appends (on_boundaries text ms) 0 closure old run.0 new
      (listed-filter EndsBefore (is_on_boundaries text) ms (finds-apart p ms (plain_search text) None finds)) (λ m in_ms. omega arith)
      (λ m in_ms. finds-ordered p ms (plain_search text) None finds m (member-of_filter (is_on_boundaries text) ms m in_ms).1) run.1;
}
