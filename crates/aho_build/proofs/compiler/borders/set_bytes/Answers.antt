-- One byte more has its borders.
use Rattle.std.proofs.Common.{◌<◌, Bool, ◌||◌, [], ◌∷◌, get_or, length, ap, ◌∙◌, arith}
use Rattle.std.proofs.lemmas.List.{get_or_default}
use Rattle.aho_table.specs.Alphabet.{is_border}
use Rattle.aho_build.specs.Dense.{is_parted_by}
use Rattle.aho_build.proofs.ByteBorders.{parted-more}
use Rattle.aho_build.proofs.compiler.borders.set_bytes.Goals as goal

pub loop-byte-preserved : goal.loop-byte-preserved
loop-byte-preserved c =
    let word = c.args.word.now in
    let byte = get_or word c.loop-byte.byte-index 0 in
    let within : c.loop-byte.byte-index < length word = omega arith in
    λ at below.
    c.set_byte.ensures.borders at below
    ∙ ap (λ (b : Bool). b || is_parted_by c.args.ignore_case (byte ∷ []) at) (c.loop-byte.invariant at below)
    ∙ parted-more c.args.ignore_case (is_border c.args.borders.now at) word c.loop-byte.byte-index byte at within (get_or_default word c.loop-byte.byte-index 0 byte within)
