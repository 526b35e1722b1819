use Rattle.std.proofs.Common.{ℕ, subst}
use Rattle.std.specs.Prelude.{None}
use Rattle.aho_corasick.specs.ReadOut.{states_of}
use Rattle.acdraw.specs.Words.{Leads}
use Rattle.acdraw.proofs.Words.{none_up_to}
use Rattle.acdraw.proofs.picture.words.reached_of.Goals as goal

pub loop-index-preserved : goal.loop-index-preserved
loop-index-preserved c =
    none_up_to (states_of c.args.nfa.now) c.args.sid c.loop-index.index c.loop-index.invariant
    (subst (λ (n : ℕ). Leads (states_of c.args.nfa.now) n c.args.sid None) c.new_unchecked-from.ensures.value c.in_default.ensures.leads)
