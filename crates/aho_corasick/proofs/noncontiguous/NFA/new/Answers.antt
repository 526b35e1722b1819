use Rattle.std.proofs.Common.{◌≡◌, subst}
use Rattle.std.specs.Result.{IfErr, IfOk}
use Rattle.aho_build.specs.Dense.{AreDense}
use Rattle.aho_corasick.specs.ReadOut.{states_of, dense_rows_of}
use Rattle.aho_build.specs.Items.{IsFailure, OfAccepted}
use Rattle.aho_build.specs.Automaton.{memory_for}
use Rattle.aho_build.specs.Prefilters.{held_by}
use Rattle.aho_build.specs.declared.settings.Settings.{Settings}
use Rattle.aho_corasick.specs.contracts.noncontiguous.NFAAutomaton.TheImpl.{ghosts}
use Rattle.aho_corasick.proofs.noncontiguous.NFA.new.Goals as goal

pub returns : goal.returns
returns g c = record {
  built = subst
      (λ (s : Settings). IfOk c.build.result (λ nfa. OfAccepted g.I.Iterator.next_gives c.args.patterns s (ghosts.is_of nfa)))
      c.new.ensures.new c.build.ensures.built;
  held = subst
      (λ (s : Settings). IfOk c.build.result (λ nfa. OfAccepted g.I.Iterator.next_gives c.args.patterns s (λ p. ghosts.prefilter nfa ≡ held_by s p)))
      c.new.ensures.new c.build.ensures.held;
  sized = subst
      (λ (s : Settings). IfOk c.build.result (λ nfa. OfAccepted g.I.Iterator.next_gives c.args.patterns s (λ p. ghosts.memory nfa ≡ memory_for s p)))
      c.new.ensures.new c.build.ensures.sized;
  dense = subst
      (λ (s : Settings). IfOk c.build.result (λ nfa. AreDense s.dense_depth (states_of nfa) (dense_rows_of nfa)))
      c.new.ensures.new c.build.ensures.dense;
  refused = subst
      (λ (s : Settings). IfErr c.build.result (IsFailure g.I.Iterator.next_gives c.args.patterns s))
      c.new.ensures.new c.build.ensures.refused;
}
