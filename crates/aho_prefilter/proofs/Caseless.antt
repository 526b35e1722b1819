-- Bytes that are the same by the case rule are hashed alike, and eight of them at once.
use Rattle.std.proofs.Common.{◌≡◌, ℕ, ◌+◌, ◌-◌, ◌*◌, ◌^◌, ◌<◌, ◌≤◌, Bool, true, false, cond, refl, sym, ap, ◌∙◌, arith}
use Rattle.std.specs.Prelude.{◌&&◌, bit_and, nat_le}
use Rattle.std.proofs.lemmas.Bool.Decides.{nat_tests}
use Rattle.std.proofs.lemmas.Nat.{and_block, and_mask}
use Rattle.aho_core.specs.Bytes.{folded_by}
use Rattle.aho_prefilter.specs.Strided.{bits_kept, caseless}

-- an upper-case letter and its lower-case one differ in one bit
raised : (x : ℕ) → 65 ≤ x → x ≤ 90 → bit_and (x + 32) 0xDF ≡ bit_and x 0xDF
raised x low high =
    let rest = x - 64 in
    let small : rest < 2 ^ 5 = omega arith in
    let ones : 31 < 2 ^ 5 = omega arith in
    let upper : x ≡ 2 * 2 ^ 5 + rest = omega arith in
    let lower : x + 32 ≡ 3 * 2 ^ 5 + rest = omega arith in
    ap (λ n. bit_and n 0xDF) lower
    ∙ and_block 5 3 6 rest 31 small ones
    ∙ sym (and_block 5 2 6 rest 31 small ones)
    ∙ sym (ap (λ n. bit_and n 0xDF) upper)

folded-caseless : (x : ℕ) → bit_and (folded_by true x) 0xDF ≡ bit_and x 0xDF
folded-caseless x = by_test (nat_le 65 x && nat_le x 90) refl
  where
    by_test : (test : Bool) → (nat_le 65 x && nat_le x 90) ≡ test → bit_and (cond test (x + 32) x) 0xDF ≡ bit_and x 0xDF
    by_test true is = raised x (grind (arith, nat_tests, is)) (grind (arith, nat_tests, is))
    by_test false is = refl

pub caseless-same : (ignore_case : Bool) (x y : ℕ) → folded_by ignore_case x ≡ folded_by ignore_case y → caseless ignore_case x ≡ caseless ignore_case y
caseless-same false x y same = same
caseless-same true x y same = sym (folded-caseless x) ∙ ap (λ n. bit_and n 0xDF) same ∙ folded-caseless y

-- one byte more
more : (low rest bits value : ℕ) → low < 256 → bit_and rest bits ≡ value → bit_and (low + 256 * rest) (0xDF + 256 * bits) ≡ bit_and low 0xDF + 256 * value
more low rest bits value small is =
    let word : low + 256 * rest ≡ rest * 2 ^ 8 + low = omega arith in
    let mask : 0xDF + 256 * bits ≡ bits * 2 ^ 8 + 0xDF = omega arith in
    let ones : 0xDF < 2 ^ 8 = omega arith in
    let apart : bit_and (low + 256 * rest) (0xDF + 256 * bits) ≡ bit_and rest bits * 2 ^ 8 + bit_and low 0xDF =
    ap (λ n. bit_and n (0xDF + 256 * bits)) word ∙ ap (λ n. bit_and (rest * 2 ^ 8 + low) n) mask ∙ and_block 8 rest bits low 0xDF (omega arith) ones in
    omega (arith, apart, is)

-- eight bytes at once
module _ (a b c d e f g h : ℕ) (a_small : a < 256) (b_small : b < 256) (c_small : c < 256) (d_small : d < 256) (e_small : e < 256) (f_small : f < 256) (g_small : g < 256) (h_small : h < 256) where
  all : bit_and (a + 256 * (b + 256 * (c + 256 * (d + 256 * (e + 256 * (f + 256 * (g + 256 * (h + 256 * 0)))))))) 0xDFDF_DFDF_DFDF_DFDF ≡ bit_and a 0xDF + 256 * (bit_and b 0xDF + 256 * (bit_and c 0xDF + 256 * (bit_and d 0xDF + 256 * (bit_and e 0xDF + 256 * (bit_and f 0xDF + 256 * (bit_and g 0xDF + 256 * (bit_and h 0xDF + 256 * 0)))))))
  all = more a (b + 256 * (c + 256 * (d + 256 * (e + 256 * (f + 256 * (g + 256 * (h + 256 * 0))))))) 0xDFDFDFDFDFDFDF (bit_and b 0xDF + 256 * (bit_and c 0xDF + 256 * (bit_and d 0xDF + 256 * (bit_and e 0xDF + 256 * (bit_and f 0xDF + 256 * (bit_and g 0xDF + 256 * (bit_and h 0xDF + 256 * 0))))))) a_small (more b (c + 256 * (d + 256 * (e + 256 * (f + 256 * (g + 256 * (h + 256 * 0)))))) 0xDFDFDFDFDFDF (bit_and c 0xDF + 256 * (bit_and d 0xDF + 256 * (bit_and e 0xDF + 256 * (bit_and f 0xDF + 256 * (bit_and g 0xDF + 256 * (bit_and h 0xDF + 256 * 0)))))) b_small (more c (d + 256 * (e + 256 * (f + 256 * (g + 256 * (h + 256 * 0))))) 0xDFDFDFDFDF (bit_and d 0xDF + 256 * (bit_and e 0xDF + 256 * (bit_and f 0xDF + 256 * (bit_and g 0xDF + 256 * (bit_and h 0xDF + 256 * 0))))) c_small (more d (e + 256 * (f + 256 * (g + 256 * (h + 256 * 0)))) 0xDFDFDFDF (bit_and e 0xDF + 256 * (bit_and f 0xDF + 256 * (bit_and g 0xDF + 256 * (bit_and h 0xDF + 256 * 0)))) d_small (more e (f + 256 * (g + 256 * (h + 256 * 0))) 0xDFDFDF (bit_and f 0xDF + 256 * (bit_and g 0xDF + 256 * (bit_and h 0xDF + 256 * 0))) e_small (more f (g + 256 * (h + 256 * 0)) 0xDFDF (bit_and g 0xDF + 256 * (bit_and h 0xDF + 256 * 0)) f_small (more g (h + 256 * 0) 0xDF (bit_and h 0xDF + 256 * 0) g_small (more h 0 0 0 h_small refl)))))))

  pub eight-kept : (ignore_case : Bool) (word bits : ℕ) → word ≡ a + 256 * (b + 256 * (c + 256 * (d + 256 * (e + 256 * (f + 256 * (g + 256 * (h + 256 * 0))))))) → bits ≡ bits_kept ignore_case
      → bit_and word bits ≡ caseless ignore_case a + 256 * (caseless ignore_case b + 256 * (caseless ignore_case c + 256 * (caseless ignore_case d + 256 * (caseless ignore_case e + 256 * (caseless ignore_case f + 256 * (caseless ignore_case g + 256 * (caseless ignore_case h + 256 * 0)))))))
  eight-kept true word bits is kept = ap (λ n. bit_and n bits) is ∙ ap (λ n. bit_and (a + 256 * (b + 256 * (c + 256 * (d + 256 * (e + 256 * (f + 256 * (g + 256 * (h + 256 * 0)))))))) n) kept ∙ all
  eight-kept false word bits is kept =
      let small : word < 2 ^ 64 = omega arith in
      ap (λ n. bit_and word n) kept ∙ and_mask word 64 ∙ omega arith
