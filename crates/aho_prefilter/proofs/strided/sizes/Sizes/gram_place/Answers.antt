use Rattle.std.proofs.Common.{◌≡◌, ◌*◌, ◌%◌, ◌^◌, Bool, ap, ◌∙◌, arith}
use Rattle.aho_prefilter.specs.Strided.{gram_hash, line_hash, place_by}
use Rattle.aho_prefilter.proofs.Hashes.{hash_at-factor}
use Rattle.aho_prefilter.proofs.strided.sizes.Sizes.gram_place.Goals as goal

pub returns-clause-place : goal.returns-clause-place
returns-clause-place c =
    let sizes = c.args.self in
    let bytes = c.args.bytes.now in
    let at = c.args.at in
    let is = c.word_at-word.ensures.word sizes.ignore_case c.bits_kept.ensures.kept in
    let word = c.word_at-word.result in
    let line : word * c.factor_for.result % 2 ^ 64 ≡ line_hash sizes bytes at = hash_at-factor sizes.ignore_case 0xA076_1D64_78BD_642F 3 bytes at word c.factor_for.result (omega arith) is c.factor_for.ensures.factor in
    let gram : word * c.factor_for-2.result % 2 ^ 64 ≡ gram_hash sizes bytes at = hash_at-factor sizes.ignore_case 0x9E37_79B9_7F4A_7C15 sizes.gram bytes at word c.factor_for-2.result c.requires.sized.gram is c.factor_for-2.ensures.factor in
    c.place_by.ensures.place
    ∙ ap (λ n. place_by c.args.lines c.args.words n (word * c.factor_for-2.result % 2 ^ 64)) line
    ∙ ap (λ n. place_by c.args.lines c.args.words (line_hash sizes bytes at) n) gram
    ∙ ap (λ (lines : Bool). place_by lines c.args.words (line_hash sizes bytes at) (gram_hash sizes bytes at)) c.requires.lines
