use Rattle.std.proofs.Common.{ap}
use Rattle.aho_laws.proofs.EndingLists.{held-longest_first, held-member, held-patterns_ending}
use Rattle.aho_core.specs.Failure.{is_leftmost}
use Rattle.aho_laws.proofs.trie.lists_the_suffixes.Goals as goal

pub returns-clause-members : goal.returns-clause-members
returns-clause-members c = λ p word number is. held-member p (ap is_leftmost is) word number

pub returns-clause-longest_first : goal.returns-clause-longest_first
returns-clause-longest_first c = λ p word is. held-longest_first p (ap is_leftmost is) word

pub returns-clause-in_order : goal.returns-clause-in_order
returns-clause-in_order c = λ p word is. held-patterns_ending p (ap is_leftmost is) word
