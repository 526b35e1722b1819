use Rattle.std.proofs.Common.{None, arith}
use Rattle.aho_core.specs.ClosureRun.{CalledOn}
use Rattle.aho_core.specs.Search.{plain_search}
use Rattle.aho_laws.proofs.ClosureRuns.{ClosureRun-own}
use Rattle.aho_laws.proofs.Iterations.{finds-apart, finds-ordered}
use Rattle.aho_laws.proofs.search.appending_the_matched_bytes.Goals as goal

pub returns-clause-ranges : goal.returns-clause-ranges
returns-clause-ranges g c = λ bytes_of haystack ms appends ranges closure old new run.
    ClosureRun-own bytes_of (CalledOn g.F.FnMut) haystack appends ms 0 closure old run.0 new ranges.apart (λ m in_ms. omega arith) ranges.ordered run.1

pub returns-clause-finds : goal.returns-clause-finds
returns-clause-finds g c = λ bytes_of p haystack ms appends finds closure old new run.
    ClosureRun-own bytes_of (CalledOn g.F.FnMut) haystack appends ms 0 closure old run.0 new
    (finds-apart p ms (plain_search haystack) None finds) (λ m in_ms. omega arith) (finds-ordered p ms (plain_search haystack) None finds) run.1
