use Rattle.compare.proofs.automata.compare_prefiltered_rows.Goals as goal

pub compare_calls-requires : goal.compare_calls-requires
compare_calls-requires c = record { of = (c.requires.of.0, c.in_ok-hybrid.ensures.of c.requires.of.0 c.requires.of.1 c.requires.of.2) }
