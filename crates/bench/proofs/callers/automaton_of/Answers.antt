use Rattle.bench.specs.Callers.{both_cases}
use Rattle.aho_corasick.proofs.Callers.{of_slice}
use Rattle.bench.proofs.callers.automaton_of.Goals as goal

pub returns : goal.returns
returns c = record { of = of_slice _ both_cases c.build.result c.args.patterns.now (cc) c.first_of_both_cases.ensures.settings c.build.ensures.built }
