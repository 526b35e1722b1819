use Rattle.aho_backward.specs.Making.{unaided_settings}
use Rattle.aho_corasick.proofs.Callers.{of_slice}
use Rattle.aho_backward.proofs.Builds.{fails_for}
use Rattle.aho_backward.proofs.builder.automaton_of.Goals as goal

pub returns : goal.returns
returns c = record {
  of = of_slice _ (unaided_settings c.args.kind c.args.ignore_case) c.build.result c.args.patterns.now (cc) c.settings_of.ensures.settings c.build.ensures.built;
  refused = fails_for _ c.args.patterns.now (cc) c.args.kind c.args.ignore_case c.build.result c.settings_of.result c.settings_of.ensures.settings c.build.ensures.refused;
}
