use Rattle.std.proofs.Common.{sym, ap, ◌∙◌, Bool}
use Rattle.aho_prefilter.specs.Inside.{few_with_word}
use Rattle.aho_prefilter.specs.declared.prefilter.first_bytes.FirstBytes.{FirstBytes}
use Rattle.aho_prefilter.proofs.Few.{few_of-with_word}
use Rattle.aho_prefilter.proofs.prefilter.builder.PrefilterBuilder.add.Goals as goal

pub returns-clause-added : goal.returns-clause-added
returns-clause-added c = λ p taken. record {
  rule = taken.rule;
  whole = c.in_ok-whole.ensures.copied p taken;
  first_bytes =
      c.with_pattern-self.ensures.with_pattern
      ∙ ap (λ (rule : Bool). few_with_word rule c.args.self.now.first_bytes c.args.pattern.now) taken.rule
      ∙ ap (λ (bytes : FirstBytes). few_with_word p.ignore_case bytes c.args.pattern.now) taken.first_bytes
      ∙ sym (few_of-with_word p c.args.pattern.now);
}
