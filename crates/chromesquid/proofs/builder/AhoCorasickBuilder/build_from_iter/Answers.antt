use Rattle.std.proofs.Common.{◌∙◌}
use Rattle.std.proofs.lemmas.Result.{IfErr-weaker}
use Rattle.std.specs.Prelude.{◌≡◌}
use Rattle.aho_build.specs.Automaton.{memory_for}
use Rattle.chromesquid.proofs.Builds.{both_ok, failure_of_collected, run_of_collected}
use Rattle.chromesquid.specs.Building.{HasTrie}
use Rattle.chromesquid.specs.Searcher.{IsBuiltFrom, memory_usage_of}
use Rattle.chromesquid.proofs.builder.AhoCorasickBuilder.build_from_iter.Goals as goal

pub returns-clause-runs : goal.returns-clause-runs
returns-clause-runs g c =
    run_of_collected g.I.Iterator.next_gives c.args.patterns c.args.self.now.settings IsBuiltFrom c.build.result c.as_slice.result.now c.in-Ok.patterns.items c.in-Ok.patterns.len
    c.as_slice.ensures.value (c.in-Ok.ensures.runs tt) c.build.ensures.of

pub returns-clause-memory : goal.returns-clause-memory
returns-clause-memory g c =
    run_of_collected g.I.Iterator.next_gives c.args.patterns c.args.self.now.settings
    (λ b p. IsBuiltFrom b p × (HasTrie b → memory_usage_of b ≡ memory_for c.args.self.now.settings p))
    c.build.result c.as_slice.result.now c.in-Ok.patterns.items c.in-Ok.patterns.len
    c.as_slice.ensures.value (c.in-Ok.ensures.runs tt) (both_ok c.build.result _ _ c.build.ensures.of c.build.ensures.memory)

pub returns-clause-refused : goal.returns-clause-refused
returns-clause-refused g c =
    IfErr-weaker c.build.result _ _
    (λ error failure.
    failure_of_collected g.I.Iterator.next_gives c.args.patterns c.args.self.now.settings c.as_slice.result.now c.in-Ok.ensures.ran.0 c.in-Ok.ensures.ran.1 (c.as_slice.ensures.value ∙ c.in-Ok.ensures.ran.2.0) error failure)
    c.build.ensures.refused
