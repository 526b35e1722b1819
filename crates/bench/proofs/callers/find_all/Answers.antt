-- The iterator may be called, and what is collected is all that it gives.
use Rattle.std.proofs.Common.{◌∙◌, ap}
use Rattle.std.proofs.lemmas.Result.{IfOk-weaker}
use Rattle.aho_core.specs.Overlapping.{all_occurrences}
use Rattle.aho_core.specs.Search.{Search}
use Rattle.bench.proofs.callers.find_all.Goals as goal

pub collect-requires-clause-can : goal.collect-requires-clause-can
collect-requires-clause-can c = c.in-Ok.ensures.ready _ c.requires.of.1

pub returns : goal.returns
returns c = record {
  all = λ p of.
      IfOk-weaker c.collect.result _ _
      (λ found ran. let all = ran tt in all.3.0 ∙ c.in-Ok.ensures.lists p of all.0 all.0.seen all.1 all.2 ∙ ap (λ (s : Search). all_occurrences p s.haystack s.start s.end) c.new.ensures.whole)
      c.collect.ensures.runs;
}
