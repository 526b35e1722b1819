use Rattle.std.proofs.Common.{◌≡◌, ◌<◌, ◌≤◌, Bool, true, false, List, ℕ, length, sym, ap, ◌∙◌, arith}
use Rattle.std.specs.Prelude.{◌||◌}
use Rattle.std.proofs.lemmas.Bool.{or_right}
use Rattle.std.proofs.lemmas.Bool.Decides.{nat_tests}
use Rattle.std.proofs.Math.Bool.{or-false}
use Rattle.aho_prefilter.specs.Packed.{packed_with}
use Rattle.aho_prefilter.specs.Prefilter.{has_short, is_short, with_word}
use Rattle.aho_prefilter.specs.declared.packed.Packed.{Packed}
use Rattle.aho_prefilter.proofs.HeldPacked.{has_short-with_word, length-with_word, packed_of-with_word}
use Rattle.aho_prefilter.proofs.prefilter.packed_builder.Fingerprints.add.Goals as goal

tested_short : (word : List ℕ) → length word < 2 → is_short word ≡ true
tested_short word less = grind (arith, nat_tests)

tested_long : (word : List ℕ) → 2 ≤ length word → is_short word ≡ false
tested_long word more = grind (arith, nat_tests)

pub returns-then-pattern-lt-SHORTEST : goal.returns-then-pattern-lt-SHORTEST
returns-then-pattern-lt-SHORTEST c = record {
  added = λ p kept.
      let word = c.args.pattern.now in
      let short : has_short (with_word p word) ≡ true = has_short-with_word p word ∙ or_right (has_short p) (is_short word) (tested_short word (omega (arith, c.if-pattern-lt-SHORTEST.true))) in
      record {
        rule = kept.rule;
        room = omega (arith, c.saturating_sub-self.ensures, kept.room, length-with_word p word);
        short = sym short;
        packed = λ none. let e : true ≡ false = sym short ∙ none in cc;
      };
}

pub returns : goal.returns
returns c = record {
  added = λ p kept.
      let word = c.args.pattern.now in
      let long = tested_long word (omega (arith, c.if-pattern-lt-SHORTEST.false)) in
      let same : has_short (with_word p word) ≡ has_short p = has_short-with_word p word ∙ ap (λ (b : Bool). has_short p || b) long ∙ or-false (has_short p) in
      record {
        rule = kept.rule;
        room = omega (arith, c.saturating_sub-self.ensures, kept.room, length-with_word p word);
        short = kept.short ∙ sym same;
        packed = λ none.
            c.add.ensures.added
            ∙ ap (λ (rule : Bool). packed_with rule c.args.self.now.packed word) kept.rule
            ∙ ap (λ (packed : Packed). packed_with p.ignore_case packed word) (kept.packed (sym same ∙ none))
            ∙ sym (packed_of-with_word p word);
      };
}
