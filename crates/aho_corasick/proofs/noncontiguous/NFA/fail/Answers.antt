use Rattle.std.proofs.Common.{subst, sym}
use Rattle.aho_build.specs.StateNames.{IsStateOf}
use Rattle.aho_corasick.specs.ReadOut.{link_of, word_of_state}
use Rattle.aho_corasick.proofs.ReadOut.{fail-word}
use Rattle.aho_corasick.proofs.noncontiguous.NFA.fail.Goals as goal

pub returns-clause-of_word : goal.returns-clause-of_word
returns-clause-of_word c p names by =
    subst (IsStateOf names (link_of p (word_of_state c.args.self.now names c.args.sid))) (sym c.fail.ensures.fail)
    (fail-word c.args.self.now.special p names c.args.self.now.table.states by.1 by.0.listed c.args.sid c.requires.within)
