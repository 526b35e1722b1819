use Rattle.aho_core.specs.Bytes.{folded, folded_word}
use Rattle.aho_laws.proofs.LiteralLinks.{failure-dead, failure-longest}
use Rattle.aho_laws.proofs.trie.links_read_literally.Goals as goal

pub returns-clause-longest : goal.returns-clause-longest
returns-clause-longest c = λ p byte word link e. failure-longest p (folded p byte) (folded_word p word) link e

pub returns-clause-dead : goal.returns-clause-dead
returns-clause-dead c = λ p byte word node h. failure-dead p byte word node h
