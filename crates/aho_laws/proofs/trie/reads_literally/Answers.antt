use Rattle.aho_laws.proofs.LiteralReadings.{held-anchored, held-dead, held-longest, longest_node, longest_node-is}
use Rattle.aho_core.specs.Bytes.{folded_word}
use Rattle.aho_laws.proofs.trie.reads_literally.Goals as goal

pub returns-clause-some : goal.returns-clause-some
returns-clause-some c = λ p word. (longest_node p (folded_word p word), longest_node-is p (folded_word p word))

pub returns-clause-longest : goal.returns-clause-longest
returns-clause-longest c = λ p word node e. held-longest p word node e

pub returns-clause-dead : goal.returns-clause-dead
returns-clause-dead c = λ p word node h. held-dead p word node h

pub returns-clause-anchored : goal.returns-clause-anchored
returns-clause-anchored c = λ p byte word is. held-anchored p byte word is
