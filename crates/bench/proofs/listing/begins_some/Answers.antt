use Rattle.std.proofs.Common.{arith, length, sym, ◌∙◌, ℕ}
use Rattle.std.specs.Prelude.{slice_range}
use Rattle.aho_laws.proofs.Begins.{any-from}
use Rattle.aho_core.specs.Bytes.{folded_word}
use Rattle.aho_core.specs.Trie.{begins, pattern_word}
use Rattle.bench.proofs.Begins.{list_any-none}
use Rattle.bench.proofs.listing.begins_some.Goals as goal

pub returns-then-begins_pattern : goal.returns-then-begins_pattern
returns-then-begins_pattern c = record {
  begins_some =
      sym (any-from (λ (k : ℕ). begins (folded_word c.args.patterns.now (slice_range c.args.haystack.now c.args.at.start c.args.at.end)) (pattern_word c.args.patterns.now k)) 0 (length c.args.patterns.now.words) c.loop-number.number
      (omega arith) (omega arith) (sym c.begins_pattern.ensures.begins_pattern ∙ c.if-begins_pattern.true));
}

pub returns : goal.returns
returns c = record {
  begins_some =
      sym (list_any-none (λ (k : ℕ). begins (folded_word c.args.patterns.now (slice_range c.args.haystack.now c.args.at.start c.args.at.end)) (pattern_word c.args.patterns.now k)) (length c.args.patterns.now.words)
      (λ k below. c.loop-number.invariant k (omega arith)));
}
