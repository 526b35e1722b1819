use Rattle.std.proofs.Common.{◌+◌, ◌∙◌, List, ap, sym, length, arith}
use Rattle.aho_core.specs.Numbers.{greatest_index}
use Rattle.secret_rules.specs.declared.rule.Rule.{Rule}
use Rattle.secret_rules.proofs.Covered.{numbers-fit, patterns-counted}
use Rattle.secret_rules.proofs.line_cover.LineCover.new.Goals as goal

pub whole_number-whole-requires : goal.whole_number-whole-requires
whole_number-whole-requires g c = record {
  few = omega (
    arith,
    ap length c.as_slice.ensures.same,
    numbers-fit g.A.Automaton c.args.automaton c.pattern_count-patterns.result (length c.args.rules.now) greatest_index c.pattern_count-patterns.ensures.count c.pattern_count-patterns.ensures.none c.requires.few c.requires.few_rules,
  );
}

pub returns-clause-ready : goal.returns-clause-ready
returns-clause-ready g c =
    let patterns = c.pattern_count-patterns in
    record {
      searches = c.requires.searches;
      patterns = λ p searched. patterns-counted g.A.Automaton c.args.automaton patterns.result patterns.ensures.count patterns.ensures.none p (λ a of. (g.met.A.Automaton.laws a p of).lengths_are) searched;
      whole = c.whole_number-whole.ensures.number ∙ ap (λ (rs : List Rule). patterns.result + length rs) (c.as_slice.ensures.same ∙ sym c.in_ok-marker.ensures.rules);
    }
