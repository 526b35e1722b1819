-- All matches count.
use Rattle.std.proofs.Common.{Bool, sym, subst}
use Rattle.aho_cover.specs.Covers.{IsUnbegunWith}
use Rattle.aho_cover.proofs.stream.cover_made.Goals as goal

pub cover_with-requires-clause-unbegun : goal.cover_with-requires-clause-unbegun
cover_with-requires-clause-unbegun g c =
    let start = c.args.start.now in
    subst (λ (w : Bool). IsUnbegunWith w g.A.Automaton start.automaton.now start.progress) (sym c.requires.unbegun.chosen) c.requires.unbegun

pub returns-clause-leaves : goal.returns-clause-leaves
returns-clause-leaves g c = rw c.requires.unbegun.chosen at c.cover_with.ensures.leaves

pub returns-clause-counted : goal.returns-clause-counted
returns-clause-counted g c = rw c.requires.unbegun.chosen at c.cover_with.ensures.counted

pub returns-clause-unbegun : goal.returns-clause-unbegun
returns-clause-unbegun g c = rw c.requires.unbegun.chosen at c.cover_with.ensures.unbegun
