use Rattle.aho_corasick.specs.Made.{TakesMemory}
use Rattle.aho_corasick.specs.contracts.noncontiguous.NFAAutomaton.TheImpl.{ghosts}
use Rattle.std.proofs.lemmas.Result.{IfErr-weaker, IfOk-weaker}
use Rattle.chromesquid.proofs.Builds.{failure_of_slice, of_slice}
use Rattle.chromesquid.proofs.builder.automaton_of.Goals as goal

pub returns : goal.returns
returns c =
    let settings = c.builder_of.result in
    let patterns = c.args.patterns.now in
    record {
      of = rw (← c.builder_of.ensures.same) (IfOk-weaker c.build.result _ _ (λ nfa built. (of_slice _ patterns (cc) settings (ghosts.is_of nfa) built).0) c.build.ensures.built);
      memory = rw (← c.builder_of.ensures.same) (IfOk-weaker c.build.result _ _ (λ nfa built. (of_slice _ patterns (cc) settings (TakesMemory ghosts settings nfa) built).0) c.build.ensures.sized);
      accepted = rw (← c.builder_of.ensures.same) (IfOk-weaker c.build.result _ _ (λ nfa built. (of_slice _ patterns (cc) settings (ghosts.is_of nfa) built).1) c.build.ensures.built);
      refused = rw (← c.builder_of.ensures.same) (IfErr-weaker c.build.result _ _ (λ error failure. failure_of_slice _ patterns (cc) settings error failure) c.build.ensures.refused);
    }
