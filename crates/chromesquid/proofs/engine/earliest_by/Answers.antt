use Rattle.std.proofs.Common.{subst, ℕ}
use Rattle.aho_automaton.specs.Reading.{ReadsUpTo}
use Rattle.chromesquid.proofs.Built.{furthest_earliest}
use Rattle.chromesquid.proofs.engine.earliest_by.Goals as goal

pub returns-clause-no_further : goal.returns-clause-no_further
returns-clause-no_further g c = λ unanchored m is.
    subst (λ (k : ℕ). ReadsUpTo (g.T.Text.next c.args.text.now) (g.T.Text.next c.find_in.new.text) k) (furthest_earliest _ _ m) (c.find_in.ensures.reads.near unanchored m is)
