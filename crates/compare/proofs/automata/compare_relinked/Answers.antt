use Rattle.compare.proofs.automata.compare_relinked.Goals as goal

pub compare_two-requires : goal.compare_two-requires
compare_two-requires c = record {
  first = c.requires.of;
  second = (c.requires.of.0, c.in_ok-relinked.ensures.of c.requires.of.0 c.requires.of.1);
}

pub compare_calls-requires : goal.compare_calls-requires
compare_calls-requires c = record { of = (c.requires.of.0, c.in_ok-relinked.ensures.of c.requires.of.0 c.requires.of.1) }
