-- Both cases of the byte have their borders.
use Rattle.std.proofs.Common.{ℕ, Bool, ◌||◌, [], ◌∷◌, sym, ap, ◌∙◌}
use Rattle.aho_table.specs.Alphabet.{is_border, is_edge}
use Rattle.aho_build.specs.Dense.{is_parted_by}
use Rattle.aho_build.proofs.ByteBorders.{parted-letter}
use Rattle.aho_build.proofs.compiler.borders.set_byte.Goals as goal

pub returns-then-ignore_case : goal.returns-then-ignore_case
returns-then-ignore_case c =
    let other = c.opposite_ascii_case-other.result in
    record {
      borders = λ at below.
          c.set_range-then-ignore_case.ensures.borders at below
          ∙ ap (λ (b : Bool). b || is_edge other other at) (c.set_range.ensures.borders at below)
          ∙ ap (λ (n : ℕ). (is_border c.args.borders.now at || is_edge c.args.byte c.args.byte at) || is_edge n n at) c.opposite_ascii_case-other.ensures.opposite
          ∙ parted-letter (is_border c.args.borders.now at) c.args.byte at
          ∙ ap (λ (b : Bool). is_border c.args.borders.now at || is_parted_by b (c.args.byte ∷ []) at) (sym c.if-ignore_case.true);
    }
