-- The first pattern listed is one of the patterns, and no longer than what was read.
use Rattle.std.proofs.Common.{arith}
use Rattle.aho_automaton.proofs.Told.{first_listed}
use Rattle.aho_automaton.proofs.find.told_at.Goals as goal

pub pattern_len-len-requires : goal.pattern_len-len-requires
pattern_len-len-requires g c = record { within = (first_listed _ _ _ _ c.requires.fits c.match_pattern-pattern.ensures.pattern).0 }

pub overflow_sub-range : goal.overflow_sub-range
overflow_sub-range g c = omega (arith, (first_listed _ _ _ _ c.requires.fits c.match_pattern-pattern.ensures.pattern).1, c.pattern_len-len.ensures.len, c.requires.ordered)
