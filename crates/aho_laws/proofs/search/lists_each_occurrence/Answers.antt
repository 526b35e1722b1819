use Rattle.aho_laws.proofs.Listings.{all_occurrences-has, all_occurrences-only, all_occurrences-listed, anchored_occurrences-has, anchored_occurrences-only, anchored_occurrences-listed}
use Rattle.aho_laws.proofs.search.lists_each_occurrence.Goals as goal

pub returns-clause-members : goal.returns-clause-members
returns-clause-members c = λ p haystack start end m within. (all_occurrences-only p haystack start end m within, all_occurrences-has p haystack start end m)

pub returns-clause-order : goal.returns-clause-order
returns-clause-order c = λ p haystack start end. all_occurrences-listed p haystack start end

pub returns-clause-anchored_members : goal.returns-clause-anchored_members
returns-clause-anchored_members c = λ p haystack start end m within. (
  anchored_occurrences-only p haystack start end m within,
  λ both. anchored_occurrences-has p haystack start end m both.0 both.1,
)

pub returns-clause-anchored_order : goal.returns-clause-anchored_order
returns-clause-anchored_order c = λ p haystack start end. anchored_occurrences-listed p haystack start end
