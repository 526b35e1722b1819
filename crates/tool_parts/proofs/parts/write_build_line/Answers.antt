-- The parts make the line.
use Rattle.std.proofs.Common.{◌≡◌, ◌++◌, ℕ, List, codes, decimal, subst, sym, ap, ◌∙◌}
use Rattle.aho_core.specs.Texts.{build_error_text}
use Rattle.aho_core.specs.declared.error.BuildError.TheVariants.{StateIDOverflow, PatternIDOverflow, PatternTooLong}
use Rattle.tool_parts.specs.Telling.{TakesBytes}
use Rattle.tool_parts.proofs.Tellings.{line-of_four, line-of_six}
use Rattle.tool_parts.proofs.parts.write_build_line.Goals as goal

pub returns-in-StateIDOverflow : goal.returns-in-StateIDOverflow
returns-in-StateIDOverflow g c =
    let same : build_error_text (StateIDOverflow c.in-StateIDOverflow.max c.in-StateIDOverflow.requested) ≡ build_error_text c.args.error.now = ap build_error_text (sym c.in-StateIDOverflow.is) in
    record {
      written = subst (λ (l : List ℕ). TakesBytes g.S.Sink c.args.sink.now c.write_parts.new.sink l c.write_parts.result)
          (rw (c.digits_of.ensures.digits, c.digits_of-in-StateIDOverflow.ensures.digits) (line-of_four (codes "state identifier overflow: failed to create state ID from ") (decimal c.in-StateIDOverflow.requested) (codes ", which exceeds the max of ") (decimal c.in-StateIDOverflow.max) (codes "\n"))
          ∙ ap (λ (l : List ℕ). l ++ codes "\n") same)
          c.write_parts.ensures.written;
    }

pub returns-in-PatternIDOverflow : goal.returns-in-PatternIDOverflow
returns-in-PatternIDOverflow g c =
    let same : build_error_text (PatternIDOverflow c.in-PatternIDOverflow.max c.in-PatternIDOverflow.requested) ≡ build_error_text c.args.error.now = ap build_error_text (sym c.in-PatternIDOverflow.is) in
    record {
      written = subst (λ (l : List ℕ). TakesBytes g.S.Sink c.args.sink.now c.write_parts-in-PatternIDOverflow.new.sink l c.write_parts-in-PatternIDOverflow.result)
          (rw (c.digits_of-in-PatternIDOverflow.ensures.digits, c.digits_of-in-PatternIDOverflow-2.ensures.digits) (line-of_four (codes "pattern identifier overflow: failed to create pattern ID from ") (decimal c.in-PatternIDOverflow.requested) (codes ", which exceeds the max of ") (decimal c.in-PatternIDOverflow.max) (codes "\n"))
          ∙ ap (λ (l : List ℕ). l ++ codes "\n") same)
          c.write_parts-in-PatternIDOverflow.ensures.written;
    }

pub returns-in-PatternTooLong : goal.returns-in-PatternTooLong
returns-in-PatternTooLong g c =
    let same : build_error_text (PatternTooLong c.in-PatternTooLong.pattern c.in-PatternTooLong.len c.in-PatternTooLong.max) ≡ build_error_text c.args.error.now = ap build_error_text (sym c.in-PatternTooLong.is) in
    record {
      written = subst (λ (l : List ℕ). TakesBytes g.S.Sink c.args.sink.now c.write_parts-in-PatternTooLong.new.sink l c.write_parts-in-PatternTooLong.result)
          (rw (c.digits_of-in-PatternTooLong.ensures.digits, c.digits_of-in-PatternTooLong-2.ensures.digits, c.digits_of-in-PatternTooLong-3.ensures.digits, c.as_usize.ensures.value) (line-of_six (codes "pattern ") (decimal c.in-PatternTooLong.pattern) (codes " with length ") (decimal c.in-PatternTooLong.len) (codes " exceeds the maximum pattern length of ") (decimal c.in-PatternTooLong.max) (codes "\n"))
          ∙ ap (λ (l : List ℕ). l ++ codes "\n") same)
          c.write_parts-in-PatternTooLong.ensures.written;
    }
