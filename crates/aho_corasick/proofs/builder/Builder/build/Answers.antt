use Rattle.std.proofs.Common.{◌≡◌, ◌∙◌, List, sym, subst}
use Rattle.aho_table.specs.Table.{State}
use Rattle.aho_build.specs.Dense.{AreDense}
use Rattle.aho_corasick.specs.ReadOut.{states_of, dense_rows_of}
use Rattle.std.specs.Result.{IfErr}
use Rattle.aho_build.specs.Items.{patterns_of, IsFailure, OfAccepted}
use Rattle.aho_build.specs.Automaton.{memory_for}
use Rattle.aho_build.specs.Prefilters.{held_by}
use Rattle.aho_build.specs.declared.settings.Settings.{Settings}
use Rattle.aho_build.proofs.DenseSizes.{memory_for-sized}
use Rattle.aho_build.proofs.HeldPrefilters.{held_by-of}
use Rattle.aho_build.proofs.StoppedBuilds.{IfErr-given}
use Rattle.aho_corasick.specs.contracts.noncontiguous.NFAAutomaton.TheImpl.{ghosts}
use Rattle.aho_corasick.proofs.builder.Builder.build.Goals as goal

pub of_compiled-requires : goal.of_compiled-requires
of_compiled-requires g c =
    let built = c.in_ok-compiled.ensures.built in
    record { of = (patterns_of c.self.inside.settings built.0, built.2.automaton) }

pub returns-clause-built : goal.returns-clause-built
returns-clause-built g c =
    let built = c.in_ok-compiled.ensures.built in
    let p = patterns_of c.self.inside.settings built.0 in
    subst
    (λ (s : Settings). OfAccepted g.I.Iterator.next_gives c.args.patterns s (ghosts.is_of c.of_compiled.result))
    c.self.view_is (built.0, built.1, c.of_compiled.ensures.of p built.2.automaton (held_by-of c.self.inside.settings p _ built.2.prefilter) built.2.borders)

pub returns-clause-held : goal.returns-clause-held
returns-clause-held g c =
    let built = c.in_ok-compiled.ensures.built in
    subst
    (λ (s : Settings). OfAccepted g.I.Iterator.next_gives c.args.patterns s (λ p. ghosts.prefilter c.of_compiled.result ≡ held_by s p))
    c.self.view_is (built.0, built.1, c.of_compiled.ensures.held ∙ built.2.prefilter)

pub returns-clause-sized : goal.returns-clause-sized
returns-clause-sized g c =
    let built = c.in_ok-compiled.ensures.built in
    let settings = c.self.inside.settings in
    let p = patterns_of settings built.0 in
    let compiled = c.in_ok-compiled.compiled in
    subst
    (λ (s : Settings). OfAccepted g.I.Iterator.next_gives c.args.patterns s (λ p. ghosts.memory c.of_compiled.result ≡ memory_for s p))
    c.self.view_is (
      built.0,
      built.1,
      c.of_compiled.ensures.memory
          ∙ memory_for-sized settings p compiled.table compiled.pattern_lens.items compiled.prefilter built.2.automaton.sized built.2.dense_len built.2.automaton.lengths_are built.2.prefilter,
    )

pub returns-clause-dense : goal.returns-clause-dense
returns-clause-dense g c =
    let compiled = c.in_ok-compiled.compiled in
    let nfa = c.of_compiled.result in
    subst (λ (s : Settings). AreDense s.dense_depth (states_of nfa) (dense_rows_of nfa)) c.self.view_is
    (subst (λ (states : List State). AreDense c.self.inside.settings.dense_depth states (dense_rows_of nfa)) (sym c.of_compiled.ensures.states)
    (subst (AreDense c.self.inside.settings.dense_depth compiled.table.states) (sym c.of_compiled.ensures.dense) c.in_ok-compiled.ensures.built.2.rows))

pub returns-in_err-compiled-clause-refused : goal.returns-in_err-compiled-clause-refused
returns-in_err-compiled-clause-refused g c =
    subst
    (λ (s : Settings). IfErr c.from_residual.result (IsFailure g.I.Iterator.next_gives c.args.patterns s))
    c.self.view_is
    (IfErr-given (IsFailure g.I.Iterator.next_gives c.args.patterns c.self.inside.settings)
    c.from_residual.result c.in_err-compiled.field-0.0 c.from_residual.ensures.1 c.in_err-compiled.ensures.refused)
