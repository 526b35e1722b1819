use Rattle.chromesquid.proofs.HeldIters.{runs_for}
use Rattle.chromesquid.proofs.cover_iter.runs_by.Goals as goal

pub returns-clause-runs : goal.returns-clause-runs
returns-clause-runs g c =
    let stands = c.requires.stands in
    let call = c.try_cover_iter.ensures in
    runs_for _ _ _ c.args.searcher.now (g.A.Automaton.is_of c.args.automaton.now) stands.some stands.of c.args.haystack.now c.try_cover_iter.result call.ready call.runs call.first call.bound call.fused
