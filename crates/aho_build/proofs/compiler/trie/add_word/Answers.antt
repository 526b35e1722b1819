use Rattle.std.proofs.Common.{◌∙◌, ℕ, subst, sym, get_or, rules, refl}
use Rattle.aho_build.specs.TrieGrowth.{HasChild, IsChildRefusal, IsWordRefusal}
use Rattle.aho_build.proofs.PatternEnds.{HasWalked-none, HasWalked-below, HasWalked-more, HasWalked-met, HasWalked-all}
use Rattle.aho_build.proofs.RefusedPattern.{IsPatternRefusal-child}
use Rattle.aho_build.proofs.StoppedBuilds.{IfErr-given}
use Rattle.aho_build.proofs.compiler.trie.add_word.Goals as goal

pub loop-index-init : goal.loop-index-init
loop-index-init c = record {
  walked = λ p number numbered holds.
      HasWalked-none p number c.args.settings.now c.args.pattern.now numbered c.unanchored_start-state.result c.args.table.now.states c.unanchored_start-state.ensures.start holds;
  limit = refl;
}

pub passes_match-requires : goal.passes_match-requires
passes_match-requires c =
    let some = c.requires.trie in
    record {
      added = HasWalked-below some.0 some.1.0 c.args.settings.now c.args.pattern.now some.1.1.0 c.loop-index.index c.loop-index.state c.loop-index.table.states
          (c.loop-index.invariant.walked some.0 some.1.0 some.1.1.0 some.1.1.1);
    }

pub child-requires : goal.child-requires
child-requires c =
    let some = c.requires.trie in
    let walked = c.loop-index.invariant.walked some.0 some.1.0 some.1.1.0 some.1.1.1 in
    record {
      added = HasWalked-below some.0 some.1.0 c.args.settings.now c.args.pattern.now some.1.1.0 c.loop-index.index c.loop-index.state c.loop-index.table.states walked;
    }

pub loop-index-preserved : goal.loop-index-preserved
loop-index-preserved c = record {
  walked = λ p number numbered holds.
      HasWalked-more p number c.args.settings.now c.args.pattern.now numbered c.loop-index.index c.loop-index.state c.in_ok-state.state c.loop-index.table.states c.child.new.table.states
      c.loop-index-test.true (search rules) (sym c.passes_match.ensures.passes ∙ c.if-passes_match.false)
      (subst (λ (n : ℕ). HasChild c.args.settings.now.ignore_case c.loop-index.state (get_or c.args.pattern.now c.loop-index.index 0) n c.loop-index.table.states c.child.new.table.states c.in_ok-state.state)
      c.new_unchecked-depth.ensures.value c.in_ok-state.ensures.child)
      (c.loop-index.invariant.walked p number numbered holds);
  limit = c.in_ok-state.ensures.limit ∙ c.loop-index.invariant.limit;
}

pub returns-then-passes_match-clause-ends : goal.returns-then-passes_match-clause-ends
returns-then-passes_match-clause-ends c =
    λ p number numbered holds.
    HasWalked-met p number c.args.settings.now c.args.pattern.now numbered c.loop-index.index c.loop-index.state c.loop-index.table.states
    c.loop-index-test.true (sym c.passes_match.ensures.passes ∙ c.if-passes_match.true) (c.loop-index.invariant.walked p number numbered holds)

pub returns-clause-ends : goal.returns-clause-ends
returns-clause-ends c =
    λ p number numbered holds.
    HasWalked-all p number c.args.settings.now c.args.pattern.now numbered c.loop-index.index c.loop-index.state c.loop-index.table.states
    c.loop-index-test.false (c.loop-index.invariant.walked p number numbered holds)

pub returns-in_err-state-clause-refused : goal.returns-in_err-state-clause-refused
returns-in_err-state-clause-refused c =
    let byte = get_or c.args.pattern.now c.loop-index.index 0 in
    let refused : IsChildRefusal c.args.settings.now.ignore_case c.args.table.now.limit c.loop-index.state byte c.loop-index.table.states c.in_err-state.field-0.0 =
    subst (λ (n : ℕ). IsChildRefusal c.args.settings.now.ignore_case n c.loop-index.state byte c.loop-index.table.states c.in_err-state.field-0.0) c.loop-index.invariant.limit c.in_err-state.ensures.refused in
    IfErr-given (IsWordRefusal c.args.settings.now c.args.pattern.now c.args.table.now.limit c.args.table.now.states) c.from_residual.result c.in_err-state.field-0.0 c.from_residual.ensures.1
    (λ p number numbered holds.
    IsPatternRefusal-child p number c.args.settings.now c.args.pattern.now numbered c.loop-index.index c.loop-index.state c.loop-index.table.states
    c.loop-index-test.true (search rules) (sym c.passes_match.ensures.passes ∙ c.if-passes_match.false) (c.loop-index.invariant.walked p number numbered holds)
    c.args.table.now.limit c.in_err-state.field-0.0 refused)
