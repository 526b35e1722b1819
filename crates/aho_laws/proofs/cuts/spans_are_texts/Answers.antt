use Rattle.aho_laws.proofs.SpanLists.{all_occurrences-span}
use Rattle.aho_laws.proofs.SpanTexts.{finds-span}
use Rattle.aho_laws.proofs.cuts.spans_are_texts.Goals as goal

pub returns-clause-finds : goal.returns-clause-finds
returns-clause-finds c = λ p haystack start end ms full le within h. finds-span p haystack start end full ms le within h

pub returns-clause-lists : goal.returns-clause-lists
returns-clause-lists c = all_occurrences-span
