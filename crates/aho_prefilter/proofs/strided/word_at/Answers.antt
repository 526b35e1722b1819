use Rattle.std.proofs.Common.{◌≡◌, ◌+◌, ap, get_or, arith}
use Rattle.aho_prefilter.proofs.Caseless.{eight-kept}
use Rattle.aho_prefilter.proofs.strided.word_at.Goals as goal

pub returns : goal.returns
returns c =
    let bytes = c.args.bytes.now in
    let at = c.args.at in
    let small = c.type_inv.bytes in
    let place2 : get_or bytes (at + 2) 0 ≡ get_or bytes (at + 1 + 1) 0 = ap (λ n. get_or bytes n 0) (omega arith) in
    let place3 : get_or bytes (at + 3) 0 ≡ get_or bytes (at + 1 + 1 + 1) 0 = ap (λ n. get_or bytes n 0) (omega arith) in
    let place4 : get_or bytes (at + 4) 0 ≡ get_or bytes (at + 1 + 1 + 1 + 1) 0 = ap (λ n. get_or bytes n 0) (omega arith) in
    let place5 : get_or bytes (at + 5) 0 ≡ get_or bytes (at + 1 + 1 + 1 + 1 + 1) 0 = ap (λ n. get_or bytes n 0) (omega arith) in
    let place6 : get_or bytes (at + 6) 0 ≡ get_or bytes (at + 1 + 1 + 1 + 1 + 1 + 1) 0 = ap (λ n. get_or bytes n 0) (omega arith) in
    let place7 : get_or bytes (at + 7) 0 ≡ get_or bytes (at + 1 + 1 + 1 + 1 + 1 + 1 + 1) 0 = ap (λ n. get_or bytes n 0) (omega arith) in
    record {
      word = λ ignore_case kept.
          eight-kept (get_or bytes at 0) (get_or bytes (at + 1) 0) (get_or bytes (at + 1 + 1) 0) (get_or bytes (at + 1 + 1 + 1) 0) (get_or bytes (at + 1 + 1 + 1 + 1) 0) (get_or bytes (at + 1 + 1 + 1 + 1 + 1) 0) (get_or bytes (at + 1 + 1 + 1 + 1 + 1 + 1) 0) (get_or bytes (at + 1 + 1 + 1 + 1 + 1 + 1 + 1) 0)
          (small at).fits (small (at + 1)).fits (small (at + 1 + 1)).fits (small (at + 1 + 1 + 1)).fits (small (at + 1 + 1 + 1 + 1)).fits (small (at + 1 + 1 + 1 + 1 + 1)).fits (small (at + 1 + 1 + 1 + 1 + 1 + 1)).fits (small (at + 1 + 1 + 1 + 1 + 1 + 1 + 1)).fits
          ignore_case c.from_le_bytes-word.result c.args.bits (omega (arith, c.from_le_bytes-word.ensures, place2, place3, place4, place5, place6, place7)) kept;
    }
