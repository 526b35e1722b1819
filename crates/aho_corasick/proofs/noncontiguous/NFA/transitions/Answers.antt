use Rattle.std.proofs.Common.{subst, sym}
use Rattle.aho_corasick.specs.ReadOut.{LeadsAsWord}
use Rattle.aho_corasick.proofs.ReadOut.{transitions-word}
use Rattle.aho_corasick.proofs.noncontiguous.NFA.transitions.Goals as goal

pub returns-clause-of_word : goal.returns-clause-of_word
returns-clause-of_word c p names by =
    subst (LeadsAsWord c.args.self.now p names c.args.sid) (sym c.transitions.ensures.listed)
    (transitions-word c.args.self.now.special p names c.args.self.now.table.states by.1 by.0.listed c.args.sid c.requires.within)
