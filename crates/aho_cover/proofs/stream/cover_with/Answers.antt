-- The next stream begins as this one did.
use Rattle.aho_cover.proofs.Begun.{unbegun-again}
use Rattle.aho_cover.proofs.stream.cover_with.Goals as goal

pub returns-clause-unbegun : goal.returns-clause-unbegun
returns-clause-unbegun g c =
    let anew = c.begin_anew.ensures in
    unbegun-again c.args.start.now.progress.words g.A.Automaton c.args.start.now.automaton.now c.args.start.now.progress c.cover_from-covered.new.progress c.begin_anew.new.self c.requires.unbegun c.cover_from-covered.ensures.room anew.buffer anew.none anew.whole anew.same_room anew.made
