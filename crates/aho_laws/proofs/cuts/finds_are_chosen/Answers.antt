use Rattle.std.proofs.Common.{None, arith, sym, subst}
use Rattle.aho_core.specs.declared.search.MatchKind.{MatchKind}
use Rattle.aho_core.specs.Listing.{IsListedBy}
use Rattle.aho_core.specs.Order.{IsBefore}
use Rattle.aho_core.specs.Overlapping.{all_occurrences}
use Rattle.aho_laws.proofs.ClearCuts.{finds-chosen}
use Rattle.aho_laws.proofs.Listings.{all_occurrences-has, all_occurrences-only, all_occurrences-listed}
use Rattle.aho_laws.proofs.cuts.finds_are_chosen.Goals as goal

pub returns-clause-each_kind : goal.returns-clause-each_kind
returns-clause-each_kind c = λ p haystack start end list full within lists.
    finds-chosen p full list haystack start start end None (omega arith) lists.in_order
    (λ m in_list. all_occurrences-only p haystack start end m within ((lists.members m).0 in_list))
    (λ m occurs. (lists.members m).1 (all_occurrences-has p haystack start end m occurs))

pub returns-clause-standard : goal.returns-clause-standard
returns-clause-standard c = λ p haystack start end full within standard.
    finds-chosen p full (all_occurrences p haystack start end) haystack start start end None (omega arith)
    (subst (λ (kind : MatchKind). IsListedBy (IsBefore kind) (all_occurrences p haystack start end)) (sym standard) (all_occurrences-listed p haystack start end))
    (λ m in_list. all_occurrences-only p haystack start end m within in_list)
    (λ m occurs. all_occurrences-has p haystack start end m occurs)
