-- The numbers so far, and what is left.
use Rattle.acredact.proofs.Common.{drop, ◌++◌, ◌≡◌}
use Rattle.acredact.specs.Summaries.{listed, more_listed}
use Rattle.acredact.proofs.summary.put_list.Given as goal

abbrev pub invariant-loop-number : goal.invariant-loop-number
invariant-loop-number l = l.text.items ++ more_listed (drop l.number-index l.more) ≡ l.fn.text.items ++ listed l.counts
