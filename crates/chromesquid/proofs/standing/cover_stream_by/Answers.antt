-- What is left, of the patterns that the searcher was built from.
use Rattle.std.proofs.Common.{◌∙◌, ap, sym}
use Rattle.std.specs.Prelude.{length}
use Rattle.chromesquid.proofs.Covered.{cover_begun_of, cover_near_of, covered_of, not_refused, refuses_as}
use Rattle.chromesquid.proofs.standing.cover_stream_by.Goals as goal

pub try_stream_cover_all-requires : goal.try_stream_cover_all-requires
try_stream_cover_all-requires g c =
    let stands = c.requires.stands in
    record {
      of = (stands.some.0, stands.of stands.some.0 stands.some.1);
      one_each = c.requires.one_each ∙ sym (ap length stands.lengths);
    }

pub returns-clause-covered : goal.returns-clause-covered
returns-clause-covered g c = λ p built.
    covered_of _ _ (g.A.Automaton.is_of c.args.automaton.now) p (c.requires.stands.of p built) _ _ _ _ _ _ c.try_stream_cover_all.ensures.leaves.covered

pub returns-clause-begun : goal.returns-clause-begun
returns-clause-begun g c = λ p built.
    cover_begun_of _ _ (g.A.Automaton.is_of c.args.automaton.now) p (c.requires.stands.of p built) _ _ _ _ _ _ c.try_stream_cover_all.ensures.leaves.begun

pub returns-clause-near : goal.returns-clause-near
returns-clause-near g c = λ p built.
    cover_near_of _ _ (g.A.Automaton.is_of c.args.automaton.now) p (c.requires.stands.of p built) _ _ _ _ _ _ c.try_stream_cover_all.ensures.leaves.near

pub returns-clause-limit : goal.returns-clause-limit
returns-clause-limit g c = c.try_stream_cover_all.ensures.leaves.limit

pub returns-clause-refuses : goal.returns-clause-refuses
returns-clause-refuses g c = refuses_as _ c.args.automaton.now c.args.searcher.now c.requires.stands _ c.try_stream_cover_all.ensures.refuses

pub returns-clause-answered : goal.returns-clause-answered
returns-clause-answered g c = λ reason can is.
    let refuses = refuses_as _ c.args.automaton.now c.args.searcher.now c.requires.stands _ c.try_stream_cover_all.ensures.refuses in
    not_refused c.args.searcher.now c.requires.stands.some can reason (refuses.only reason is)
