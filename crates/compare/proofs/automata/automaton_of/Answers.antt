use Rattle.aho_corasick.proofs.Callers.{of_slice}
use Rattle.compare.proofs.automata.automaton_of.Goals as goal

pub returns : goal.returns
returns c = record { of = of_slice _ _ c.build.result c.args.words.now (cc) c.builder_of.ensures.settings c.build.ensures.built }
