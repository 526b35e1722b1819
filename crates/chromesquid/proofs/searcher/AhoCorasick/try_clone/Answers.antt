use Rattle.std.proofs.Common.{None, ap, subst, sym}
use Rattle.chromesquid.proofs.Built.{copy_is_of}
use Rattle.chromesquid.specs.Searcher.{IsBuiltFrom, Searcher}
use Rattle.chromesquid.specs.declared.kinds.StartKind.{StartKind}
use Rattle.chromesquid.proofs.searcher.AhoCorasick.try_clone.Goals as goal

pub of_automaton-requires : goal.of_automaton-requires
of_automaton-requires c =
    record {
      of = (
        c.built.ensures.some.0,
        subst (λ (k : StartKind). IsBuiltFrom (record { automaton = c.in_ok-automaton.automaton; start_kind = k; backward = None }) c.built.ensures.some.0) (ap (λ (s : Searcher). s.start_kind) (sym c.self.view_is))
            (copy_is_of c.automaton.result.now c.in_ok-automaton.automaton c.args.self.now (cc) c.in_ok-automaton.ensures.same c.built.ensures.some.0 c.built.ensures.some.1),
      );
    }
