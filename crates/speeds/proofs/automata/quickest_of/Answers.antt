use Rattle.speeds.proofs.automata.quickest_of.Goals as goal

pub returns : goal.returns
returns c = record { of = c.quickest.ensures.of c.args.kind }
