use Rattle.std.proofs.Common.{subst}
use Rattle.std.specs.Prelude.{IfOk}
use Rattle.std.specs.Iterator.Runs.{WholeRun}
use Rattle.aho_build.specs.Items.{patterns_of}
use Rattle.chromesquid.specs.Building.{IsBuiltWithMemory}
use Rattle.chromesquid.specs.Searcher.{Building, IsBuiltFrom}
use Rattle.chromesquid.proofs.searcher.AhoCorasick.new_from_iter.Goals as goal

pub returns-clause-runs : goal.returns-clause-runs
returns-clause-runs g c =
    subst (λ (b : Building). IfOk c.build_from_iter.result (λ built. WholeRun g.I.Iterator.next_gives c.args.patterns (λ run. IsBuiltFrom built (patterns_of b.settings run.items))))
    c.new.ensures.new c.build_from_iter.ensures.runs

pub returns-clause-memory : goal.returns-clause-memory
returns-clause-memory g c =
    subst (λ (b : Building). IfOk c.build_from_iter.result (λ built. WholeRun g.I.Iterator.next_gives c.args.patterns (λ run. IsBuiltWithMemory b.settings run.items built)))
    c.new.ensures.new c.build_from_iter.ensures.memory
