-- What is made is of the patterns, and of the kind that is asked for.
use Rattle.std.proofs.Common.{◌∙◌, ap}
use Rattle.aho_build.specs.Items.{patterns_of}
use Rattle.chromesquid.proofs.Built.{built_as}
use Rattle.chromesquid.specs.contracts.engine.EngineAutomaton.TheImpl.{ghosts}
use Rattle.chromesquid.proofs.builder.AhoCorasickBuilder.build_from_noncontiguous.Goals as goal

pub of_automaton-requires : goal.of_automaton-requires
of_automaton-requires c =
    record { of = (patterns_of c.self.inside.settings c.args.patterns.now, built_as c.kind_for-kind.result c.self.inside.start_kind c.self.inside.kind c.in_ok-automaton.automaton c.in_ok-backward.backward _ c.kind_for-kind.ensures.kind c.in_ok-automaton.ensures.trie c.in_ok-automaton.ensures.of (rw (← c.self.view_is) at c.in_ok-backward.ensures.of)) }

pub returns-clause-of : goal.returns-clause-of
returns-clause-of c = rw (← c.self.view_is) (rw c.of_automaton.ensures.same (built_as c.kind_for-kind.result c.self.inside.start_kind c.self.inside.kind c.in_ok-automaton.automaton c.in_ok-backward.backward _ c.kind_for-kind.ensures.kind c.in_ok-automaton.ensures.trie c.in_ok-automaton.ensures.of (rw (← c.self.view_is) at c.in_ok-backward.ensures.of)))

pub returns-clause-kind : goal.returns-clause-kind
returns-clause-kind c = rw (← c.self.view_is) (rw c.of_automaton.ensures.same (rw (← c.kind_for-kind.ensures.kind) c.in_ok-automaton.ensures.kind))

pub returns-clause-trie : goal.returns-clause-trie
returns-clause-trie c =
    rw (← c.self.view_is) (λ same. rw c.of_automaton.ensures.same (c.in_ok-automaton.ensures.trie (c.kind_for-kind.ensures.kind ∙ same)))

pub returns-clause-backward : goal.returns-clause-backward
returns-clause-backward c = rw c.of_automaton.ensures.same c.in_ok-backward.ensures.backward

pub returns-clause-memory : goal.returns-clause-memory
returns-clause-memory c = rw c.of_automaton.ensures.same (λ trie. ap ghosts.memory (c.in_ok-automaton.ensures.same trie))
