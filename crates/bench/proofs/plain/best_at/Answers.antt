use Rattle.std.proofs.Common.{◌≡◌, ◌∙◌, sym, ap, arith, List, ℕ, true}
use Rattle.std.specs.Prelude.{slice_range}
use Rattle.aho_core.specs.Bytes.{is_same_word}
use Rattle.aho_core.specs.Patterns.{pattern_at}
use Rattle.bench.proofs.BestAtRange.{IsBest-at_range}
use Rattle.bench.proofs.plain.best_at.Goals as goal

pub returns-then-stands_at : goal.returns-then-stands_at
returns-then-stands_at c =
    let stands : is_same_word c.args.patterns.now (pattern_at c.args.patterns.now c.loop-number.number) (slice_range c.args.input.now.haystack c.args.at.start c.args.at.end) ≡ true =
    ap (λ (h : List ℕ). is_same_word c.args.patterns.now (pattern_at c.args.patterns.now c.loop-number.number) (slice_range h c.args.at.start c.args.at.end)) (sym c.haystack.ensures.haystack)
    ∙ sym c.stands_at.ensures.stands_at ∙ c.if-stands_at.true in
    record {
      best =
          IsBest-at_range c.args.patterns.now c.args.input.now c.args.at.start c.args.at.end c.loop-number.number
          c.match_at.result c.match_at.ensures.match_at (omega arith) c.requires.after_start c.requires.ordered c.requires.before_end (omega arith)
          (c.is_admitted.ensures.is_admitted.0 (cc)) stands c.loop-number.invariant;
    }
