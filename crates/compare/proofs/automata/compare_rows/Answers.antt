use Rattle.compare.proofs.automata.compare_rows.Goals as goal

pub compare_two-requires : goal.compare_two-requires
compare_two-requires c = record {
  first = (c.requires.of.0, c.in_ok-hybrid.ensures.of c.requires.of.0 c.requires.of.1);
  second = c.requires.of;
}

pub compare_calls-requires : goal.compare_calls-requires
compare_calls-requires c = record { of = (c.requires.of.0, c.in_ok-hybrid.ensures.of c.requires.of.0 c.requires.of.1) }
