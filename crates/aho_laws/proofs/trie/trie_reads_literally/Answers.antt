use Rattle.aho_laws.proofs.Kept.{is_kept-reads, is_node-reads}
use Rattle.aho_laws.proofs.trie.trie_reads_literally.Goals as goal

pub returns-clause-nodes : goal.returns-clause-nodes
returns-clause-nodes c = λ p word. is_node-reads p word

pub returns-clause-left_out : goal.returns-clause-left_out
returns-clause-left_out c = λ p number. is_kept-reads p number
