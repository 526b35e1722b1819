-- What is written is the redaction by these pieces, why it ends early is told, and the cover is then as before.
use Rattle.acredact.proofs.Redactions.{does_cover}
use Rattle.acredact.proofs.Suited.{covering_still}
use Rattle.acredact.proofs.ways.CoveringWay.redact.Goals as goal

pub cover_with-requires : goal.cover_with-requires
cover_with-requires g c = let r = c.requires.ready in record { of = (r.0.patterns, r.1.of); unbegun = r.1.unbegun }

pub returns-clause-done : goal.returns-clause-done
returns-clause-done g c = λ red by.
    let call = c.cover_with in
    does_cover g.R.Source g.W.Sink red by.covers (g.A.Automaton.is_of c.args.self.now.start.automaton.now) by.of
    (rw (g.met.A.Automaton.laws _ _ by.of).lengths_are at by.unbegun.no_empty) _ _ _ _ call.result _ _
    (rw (by.chosen, by.is) call.ensures.leaves) (rw (by.chosen, by.is) call.ensures.counted) call.ensures.errors call.ensures.only

pub returns-clause-still : goal.returns-clause-still
returns-clause-still g c = λ red by. covering_still g.A.Automaton _ _ _ _ _ _ red c.cover_with.ensures.same c.cover_with.ensures.rule c.cover_with.ensures.unbegun by
