use Rattle.std.proofs.Common.{arith}
use Rattle.std.proofs.lemmas.Grind.{common_steps}
use Rattle.aho_core.specs.Trie.{pattern_word}
use Rattle.bench.proofs.Begins.{is_same_word-front, begins-longer}
use Rattle.bench.proofs.listing.begins_pattern.Goals as goal

pub returns-then-word-pattern : goal.returns-then-word-pattern
unfolding pattern_word
returns-then-word-pattern c = record {
  begins_pattern = rw (← c.pattern-pattern.ensures.pattern) (rw (← is_same_word-front c.args.patterns.now c.args.word.now c.pattern-pattern.result.now) c.is_same_word.ensures.is_same_word);
}

pub returns-else-word-pattern : goal.returns-else-word-pattern
unfolding pattern_word
returns-else-word-pattern c = record {
  begins_pattern = rw (← c.pattern-pattern.ensures.pattern) (rw (begins-longer c.args.patterns.now c.args.word.now c.pattern-pattern.result.now c.if-word-pattern.false) (grind (arith, common_steps)));
}
