-- The searcher is made of the automaton of the patterns.
use Rattle.std.proofs.Common.{◌∙◌, inl, subst, sym}
use Rattle.std.proofs.lemmas.Result.{IfErr-weaker, IfOk-weaker}
use Rattle.aho_build.specs.Items.{patterns_of}
use Rattle.chromesquid.specs.Backward.{HoldsIfWorth}
use Rattle.chromesquid.proofs.Built.{count-of_items, kind-of, lengths-of_items}
use Rattle.chromesquid.proofs.builder.AhoCorasickBuilder.build.Goals as goal

pub build_from_noncontiguous-requires : goal.build_from_noncontiguous-requires
build_from_noncontiguous-requires c = record { of = rw (← c.self.view_is) c.in_ok-nfa.ensures.of }

pub returns-clause-match_kind : goal.returns-clause-match_kind
returns-clause-match_kind c =
    IfOk-weaker c.build_from_noncontiguous.result _ _ (λ searcher built. kind-of _ searcher.automaton built.reads) c.build_from_noncontiguous.ensures.of

pub returns-clause-lengths : goal.returns-clause-lengths
returns-clause-lengths c =
    IfOk-weaker c.build_from_noncontiguous.result _ _ (λ searcher built. lengths-of_items c.args.self.now.settings c.args.patterns.now searcher built) c.build_from_noncontiguous.ensures.of

pub returns-clause-count : goal.returns-clause-count
returns-clause-count c =
    IfOk-weaker c.build_from_noncontiguous.result _ _ (λ searcher built. count-of_items c.args.self.now.settings c.args.patterns.now searcher built) c.build_from_noncontiguous.ensures.of

pub returns-clause-memory : goal.returns-clause-memory
returns-clause-memory c =
    rw (← c.self.view_is) (IfOk-weaker c.build_from_noncontiguous.result _ _ (λ searcher sized trie. sized trie ∙ c.in_ok-nfa.ensures.memory) c.build_from_noncontiguous.ensures.memory)

pub returns-clause-refused : goal.returns-clause-refused
returns-clause-refused c = IfErr-weaker c.build_from_noncontiguous.result _ _ (λ error same. inl same) c.build_from_noncontiguous.ensures.refused

pub returns-in-Some-clause-backward : goal.returns-in-Some-clause-backward
returns-in-Some-clause-backward c = λ finds effort allowed.
    subst (HoldsIfWorth (patterns_of c.args.self.now.settings c.args.patterns.now)) (sym c.in-Some.ensures.unasked) (c.in-Some.ensures.worth finds)

pub returns-in-Some-clause-lengths : goal.returns-in-Some-clause-lengths
returns-in-Some-clause-lengths c = lengths-of_items c.args.self.now.settings c.args.patterns.now c.in-Some.built c.in-Some.ensures.of

pub returns-in-Some-clause-count : goal.returns-in-Some-clause-count
returns-in-Some-clause-count c = count-of_items c.args.self.now.settings c.args.patterns.now c.in-Some.built c.in-Some.ensures.of
