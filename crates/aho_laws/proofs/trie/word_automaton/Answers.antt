use Rattle.aho_laws.proofs.LookUps.{lookups_bound}
use Rattle.aho_laws.proofs.WordAutomaton.{word_automaton}
use Rattle.aho_laws.proofs.trie.word_automaton.Goals as goal

pub returns-clause-laws : goal.returns-clause-laws
returns-clause-laws c = λ p. word_automaton p

pub returns-clause-look_ups : goal.returns-clause-look_ups
returns-clause-look_ups c = λ p. lookups_bound p
