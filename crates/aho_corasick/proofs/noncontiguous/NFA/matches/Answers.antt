use Rattle.std.proofs.Common.{◌∙◌}
use Rattle.aho_corasick.proofs.ReadOut.{matches-word}
use Rattle.aho_corasick.proofs.noncontiguous.NFA.matches.Goals as goal

pub returns-clause-of_word : goal.returns-clause-of_word
returns-clause-of_word c p names by =
    c.matches.ensures.listed ∙ matches-word c.args.self.now.special p names c.args.self.now.table.states by.1 by.0.listed c.args.sid c.requires.within
