-- The parts make the line.
use Rattle.std.proofs.Common.{◌≡◌, ◌++◌, ℕ, List, codes, subst, sym, ap, ◌∙◌}
use Rattle.aho_core.specs.Texts.{kind_name, match_error_text}
use Rattle.aho_core.specs.declared.error.MatchErrorKind.TheVariants.{UnsupportedStream, UnsupportedOverlapping, UnsupportedEmpty}
use Rattle.tool_parts.specs.Telling.{TakesBytes}
use Rattle.tool_parts.proofs.Tellings.{line-of_three}
use Rattle.tool_parts.proofs.parts.write_search_line.Goals as goal

pub returns-in-UnsupportedStream : goal.returns-in-UnsupportedStream
returns-in-UnsupportedStream g c =
    let same : match_error_text (UnsupportedStream c.in-UnsupportedStream.got) ≡ match_error_text c.args.error.now = ap match_error_text (sym c.in-UnsupportedStream.is ∙ c.kind.ensures.kind) in
    record {
      written = subst (λ (l : List ℕ). TakesBytes g.S.Sink c.args.sink.now c.write_parts-in-UnsupportedStream.new.sink l c.write_parts-in-UnsupportedStream.result)
          (rw c.name_of.ensures.name (line-of_three (codes "match kind ") (kind_name c.in-UnsupportedStream.got) (codes " does not support stream searching") (codes "\n"))
          ∙ ap (λ (l : List ℕ). l ++ codes "\n") same)
          c.write_parts-in-UnsupportedStream.ensures.written;
    }

pub returns-in-UnsupportedOverlapping : goal.returns-in-UnsupportedOverlapping
returns-in-UnsupportedOverlapping g c =
    let same : match_error_text (UnsupportedOverlapping c.in-UnsupportedOverlapping.got) ≡ match_error_text c.args.error.now = ap match_error_text (sym c.in-UnsupportedOverlapping.is ∙ c.kind.ensures.kind) in
    record {
      written = subst (λ (l : List ℕ). TakesBytes g.S.Sink c.args.sink.now c.write_parts-in-UnsupportedOverlapping.new.sink l c.write_parts-in-UnsupportedOverlapping.result)
          (rw c.name_of-in-UnsupportedOverlapping.ensures.name (line-of_three (codes "match kind ") (kind_name c.in-UnsupportedOverlapping.got) (codes " does not support overlapping searches") (codes "\n"))
          ∙ ap (λ (l : List ℕ). l ++ codes "\n") same)
          c.write_parts-in-UnsupportedOverlapping.ensures.written;
    }

pub returns-in-UnsupportedEmpty : goal.returns-in-UnsupportedEmpty
returns-in-UnsupportedEmpty g c =
    let same : match_error_text UnsupportedEmpty ≡ match_error_text c.args.error.now = ap match_error_text (sym c.in-UnsupportedEmpty.is ∙ c.kind.ensures.kind) in
    record {
      written = subst (λ (l : List ℕ). TakesBytes g.S.Sink c.args.sink.now c.write_parts-in-UnsupportedEmpty.new.sink l c.write_parts-in-UnsupportedEmpty.result)
          (ap (λ (l : List ℕ). l ++ codes "\n") same) c.write_parts-in-UnsupportedEmpty.ensures.written;
    }
