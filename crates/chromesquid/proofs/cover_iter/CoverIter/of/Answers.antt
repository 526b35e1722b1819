use Rattle.std.proofs.Common.{refl}
use Rattle.std.specs.Iterator.{at_most}
use Rattle.aho_automaton.specs.CoverIters.{CanCover, GivesRun, runs_left as left_in}
use Rattle.aho_hybrid.specs.contracts.hybrid.HybridAutomaton.TheImpl.{ghosts as of_rows}
use Rattle.chromesquid.proofs.HeldIters.{runs_left, runs_right}
use Rattle.chromesquid.specs.contracts.automaton.AhoCorasickAutomaton.TheImpl.{ghosts as of_searcher}
use Rattle.chromesquid.proofs.cover_iter.CoverIter.of.Goals as goal

pub returns-in_ok-runs_by-in-Some-clause-runs : goal.returns-in_ok-runs_by-in-Some-clause-runs
returns-in_ok-runs_by-in-Some-clause-runs c =
    let call = c.in_ok-runs_by-in-Some in
    runs_right (GivesRun of_searcher) (GivesRun of_rows) (λ it. it.by) (CanCover of_searcher) (CanCover of_rows) (λ it. at_most (left_in it)) (λ it. at_most (left_in it)) c.args.searcher.now
    _ call.field-0 refl c.args.haystack.now call.ensures.runs

pub returns-in_ok-runs_by-in-None-clause-runs : goal.returns-in_ok-runs_by-in-None-clause-runs
returns-in_ok-runs_by-in-None-clause-runs c =
    let call = c.in_ok-runs_by-in-None in
    runs_left (GivesRun of_searcher) (GivesRun of_rows) (λ it. it.by) (CanCover of_searcher) (CanCover of_rows) (λ it. at_most (left_in it)) (λ it. at_most (left_in it)) c.args.searcher.now
    _ call.field-0 refl c.args.haystack.now call.ensures.runs
