-- Both automata are of these words.
use Rattle.compare.specs.Words.{words_by}
use Rattle.compare.proofs.automata.compare_levels.Goals as goal

pub compare_two-requires : goal.compare_two-requires
compare_two-requires c =
    let p = words_by c.args.kind c.args.ignore_case c.args.words.now in
    record { first = (p, c.in_ok-plain.ensures.of tt); second = (p, c.requires.of) }

pub compare_calls-requires : goal.compare_calls-requires
compare_calls-requires c = record { of = (words_by c.args.kind c.args.ignore_case c.args.words.now, c.in_ok-plain.ensures.of tt) }

pub compare_calls-requires-2 : goal.compare_calls-requires-2
compare_calls-requires-2 c =
    record { of = (words_by c.args.kind c.args.ignore_case c.args.words.now, c.in_ok-skipping.ensures.of c.in_ok-prefilter.ensures.of) }
