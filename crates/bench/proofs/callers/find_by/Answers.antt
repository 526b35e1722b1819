-- The automaton with the prefilter finds what the patterns ask for.
use Rattle.std.proofs.Common.{subst}
use Rattle.std.specs.Prelude.{IfOk}
use Rattle.aho_core.specs.Answer.{IsAnswer}
use Rattle.aho_core.specs.Search.{Search}
use Rattle.bench.proofs.callers.find_by.Goals as goal

pub returns : goal.returns
returns c = record {
  found = λ p of held. subst (λ (s : Search). IfOk c.try_find.result (IsAnswer p s)) c.new.ensures.whole (c.try_find.ensures.found p (c.new-automaton.ensures.of p of held));
}
