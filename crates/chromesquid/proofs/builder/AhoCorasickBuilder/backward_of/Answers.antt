-- It is held as the settings ask.
use Rattle.std.proofs.Common.{◌≡◌, false, true}
use Rattle.aho_core.specs.declared.search.Anchored.TheVariants.{No}
use Rattle.aho_build.specs.Items.{patterns_of}
use Rattle.chromesquid.proofs.Held.{worth_of}
use Rattle.chromesquid.specs.Searcher.{allows}
use Rattle.chromesquid.proofs.builder.AhoCorasickBuilder.backward_of.Goals as goal

pub returns-clause-backward : goal.returns-clause-backward
returns-clause-backward c =
    rw (← c.self.view_is) (worth_of (c.self.inside.finds_all ≡ true) (c.self.inside.best_effort ≡ false) (allows c.self.inside.start_kind No ≡ true)
    (patterns_of c.self.inside.settings c.args.patterns.now) c.backward_of.result c.backward_of.ensures.worth)
