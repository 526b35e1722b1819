use Rattle.bench.specs.Callers.{without_help}
use Rattle.aho_corasick.proofs.Callers.{of_slice}
use Rattle.bench.proofs.callers.helpless_automaton.Goals as goal

pub returns : goal.returns
returns c = record { of = of_slice _ without_help c.build.result c.args.patterns.now (cc) c.without_help.ensures.settings c.build.ensures.built }
