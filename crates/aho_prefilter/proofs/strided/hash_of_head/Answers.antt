use Rattle.std.proofs.Common.{◌+◌, ◌-◌, ap, ◌∙◌}
use Rattle.aho_prefilter.specs.Strided.{factor_for, number_of_bytes}
use Rattle.aho_prefilter.proofs.Hashes.{hash_of_head-words}
use Rattle.aho_prefilter.proofs.strided.hash_of_head.Goals as goal

pub returns : goal.returns
returns c =
    let count = c.min-count.ensures in
    record {
      hash = hash_of_head-words c.args.ignore_case c.args.head c.args.bytes.now c.args.at _ _ _ _
          (c.word_at.ensures.word c.args.ignore_case c.bits_kept-bits.ensures.kept)
          (c.factor_for.ensures.factor ∙ ap (λ n. factor_for 0xD6E8_FEB8_6659_FD93 n) count)
          (c.word_at-2.ensures.word c.args.ignore_case c.bits_kept-bits.ensures.kept ∙ ap (λ n. number_of_bytes c.args.ignore_case 8 c.args.bytes.now (c.args.at + (c.args.head - n))) count)
          (c.factor_for-2.ensures.factor ∙ ap (λ n. factor_for 0xA076_1D64_78BD_642F n) count);
    }
