use Rattle.aho_laws.proofs.LiteralLinks.{follows-exists, lookups-links}
use Rattle.aho_laws.proofs.trie.look_ups_read_literally.Goals as goal

pub returns-clause-one_more : goal.returns-clause-one_more
returns-clause-one_more c = λ p state byte links node follows. lookups-links p links state byte node follows

pub returns-clause-some : goal.returns-clause-some
returns-clause-some c = λ p state byte. follows-exists p state byte
