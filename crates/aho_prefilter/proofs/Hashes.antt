-- A hash of bytes is the same wherever the same bytes stand, and a whole word tells it.
use Rattle.std.proofs.Common.{◌≡◌, ℕ, ◌+◌, ◌-◌, ◌*◌, ◌%◌, ◌^◌, ◌<◌, ◌≤◌, zero, suc, Bool, List, get_or, refl, sym, ap, ◌∙◌, arith}
use Rattle.std.proofs.Math.Nat.{add-mul-mod_self_right, pow-suc}
use Rattle.std.proofs.lemmas.Nat.{mul-mod_second, pow-add}
use Rattle.aho_prefilter.specs.Strided.{caseless, factor_for, half_of, hash_at, hash_of_head, number_of_bytes}

-- so many bytes of one list from i on are hashed as those of another from j on
abbrev pub AreSame : Bool → ℕ → List ℕ → ℕ → List ℕ → ℕ → Type 0
AreSame rule count xs i ys j = (k : ℕ) → k < count → caseless rule (get_or xs (i + k) 0) ≡ caseless rule (get_or ys (j + k) 0)

pub number_of_bytes-same : (count : ℕ) (rule : Bool) (xs : List ℕ) (i : ℕ) (ys : List ℕ) (j : ℕ) → AreSame rule count xs i ys j → number_of_bytes rule count xs i ≡ number_of_bytes rule count ys j
number_of_bytes-same zero rule xs i ys j same = refl
number_of_bytes-same (suc count) rule xs i ys j same =
    let here : i + 0 ≡ i = omega arith in
    let there : j + 0 ≡ j = omega arith in
    let first : caseless rule (get_or xs i 0) ≡ caseless rule (get_or ys j 0) = ap (λ n. caseless rule (get_or xs n 0)) (sym here) ∙ same 0 (omega arith) ∙ ap (λ n. caseless rule (get_or ys n 0)) there in
    let rest : number_of_bytes rule count xs (i + 1) ≡ number_of_bytes rule count ys (j + 1) =
    number_of_bytes-same count rule xs (i + 1) ys (j + 1)
    (λ k below.
    let next : i + 1 + k ≡ i + (k + 1) = omega arith in
    let also : j + (k + 1) ≡ j + 1 + k = omega arith in
    ap (λ n. caseless rule (get_or xs n 0)) next ∙ same (k + 1) (omega arith) ∙ ap (λ n. caseless rule (get_or ys n 0)) also) in
    omega (arith, first, rest)

pub hash_at-same : (rule : Bool) (number count : ℕ) (xs : List ℕ) (i : ℕ) (ys : List ℕ) (j : ℕ) → AreSame rule count xs i ys j → hash_at rule number count xs i ≡ hash_at rule number count ys j
hash_at-same rule number count xs i ys j same = ap (λ n. n * factor_for number count % 2 ^ 64) (number_of_bytes-same count rule xs i ys j same)

-- the number of more bytes
number_of_bytes-more : (count : ℕ) (rule : Bool) (more all : ℕ) (bytes : List ℕ) (at : ℕ) → all ≡ count + more
    → number_of_bytes rule all bytes at ≡ number_of_bytes rule count bytes at + 256 ^ count * number_of_bytes rule more bytes (at + count)
number_of_bytes-more zero rule more all bytes at is =
    let whole : all ≡ more = omega arith in
    let moved : number_of_bytes rule more bytes at ≡ number_of_bytes rule more bytes (at + 0) = ap (λ n. number_of_bytes rule more bytes n) (omega arith) in
    omega (arith, ap (λ n. number_of_bytes rule n bytes at) whole, moved)
number_of_bytes-more (suc count) rule more all bytes at is =
    let rest = number_of_bytes-more count rule more (count + more) bytes (at + 1) refl in
    let moved : number_of_bytes rule more bytes (at + 1 + count) ≡ number_of_bytes rule more bytes (at + suc count) = ap (λ n. number_of_bytes rule more bytes n) (omega arith) in
    let whole : all ≡ suc (count + more) = omega arith in
    let product : 256 ^ suc count * number_of_bytes rule more bytes (at + suc count) ≡ 256 ^ count * 256 * number_of_bytes rule more bytes (at + suc count) =
    ap (λ n. n * number_of_bytes rule more bytes (at + suc count)) (pow-suc 256 count) in
    omega (arith, ap (λ n. number_of_bytes rule n bytes at) whole, rest, ap (λ n. 256 ^ count * n) moved, product)

-- the bytes behind those that a hash is of are multiplied away
pow-bytes : (count : ℕ) → 256 ^ count ≡ 2 ^ (8 * count)
pow-bytes zero = refl
pow-bytes (suc count) =
    let whole : 8 * count + 8 ≡ 8 * suc count = omega arith in
    pow-suc 256 count ∙ ap (λ n. n * 256) (pow-bytes count) ∙ sym (pow-add 2 (8 * count) 8) ∙ ap (λ n. 2 ^ n) whole

away : (count : ℕ) → count ≤ 8 → 256 ^ count * 2 ^ (64 - 8 * count) ≡ 2 ^ 64
away count few =
    let whole : 8 * count + (64 - 8 * count) ≡ 64 = omega arith in
    ap (λ n. n * 2 ^ (64 - 8 * count)) (pow-bytes count)
    ∙ sym (pow-add 2 (8 * count) (64 - 8 * count))
    ∙ ap (λ n. 2 ^ n) whole

-- a product of such a number
product-more : (low high part shift number whole : ℕ) → part * shift ≡ whole → (low + part * high) * (number * shift) ≡ low * (number * shift) + high * number * whole
product-more low high part shift number whole is = omega (arith, ap (λ n. high * number * n) is)

pub hash_at-word : (rule : Bool) (number count : ℕ) (bytes : List ℕ) (at : ℕ) → count ≤ 8 → number_of_bytes rule 8 bytes at * factor_for number count % 2 ^ 64 ≡ hash_at rule number count bytes at
hash_at-word rule number count bytes at few =
    let low = number_of_bytes rule count bytes at in
    let high = number_of_bytes rule (8 - count) bytes (at + count) in
    let shift = 2 ^ (64 - 8 * count) in
    let word : number_of_bytes rule 8 bytes at ≡ low + 256 ^ count * high = number_of_bytes-more count rule (8 - count) 8 bytes at (omega arith) in
    mul-mod_second (number_of_bytes rule 8 bytes at) (number * shift) (2 ^ 64)
    ∙ ap (λ n. n * (number * shift) % 2 ^ 64) word
    ∙ ap (λ n. n % 2 ^ 64) (product-more low high (256 ^ count) shift number (2 ^ 64) (away count few))
    ∙ add-mul-mod_self_right (low * (number * shift)) (high * number) (2 ^ 64)
    ∙ sym (mul-mod_second low (number * shift) (2 ^ 64))

-- the hash of a head, by its two words
pub hash_of_head-words : (rule : Bool) (head : ℕ) (bytes : List ℕ) (at first low last high : ℕ)
    → first ≡ number_of_bytes rule 8 bytes at → low ≡ factor_for 0xD6E8_FEB8_6659_FD93 (half_of head)
    → last ≡ number_of_bytes rule 8 bytes (at + (head - half_of head)) → high ≡ factor_for 0xA076_1D64_78BD_642F (half_of head)
    → (first * low % 2 ^ 64 + last * high % 2 ^ 64) % 2 ^ 64 ≡ hash_of_head rule head bytes at
hash_of_head-words rule head bytes at first low last high first_is low_is last_is high_is =
    let front : first * low % 2 ^ 64 ≡ hash_at rule 0xD6E8_FEB8_6659_FD93 (half_of head) bytes at =
    ap (λ n. n * low % 2 ^ 64) first_is ∙ ap (λ n. number_of_bytes rule 8 bytes at * n % 2 ^ 64) low_is ∙ hash_at-word rule 0xD6E8_FEB8_6659_FD93 (half_of head) bytes at (omega arith) in
    let back : last * high % 2 ^ 64 ≡ hash_at rule 0xA076_1D64_78BD_642F (half_of head) bytes (at + (head - half_of head)) =
    ap (λ n. n * high % 2 ^ 64) last_is ∙ ap (λ n. number_of_bytes rule 8 bytes (at + (head - half_of head)) * n % 2 ^ 64) high_is ∙ hash_at-word rule 0xA076_1D64_78BD_642F (half_of head) bytes (at + (head - half_of head)) (omega arith) in
    ap (λ n. (n + last * high % 2 ^ 64) % 2 ^ 64) front ∙ ap (λ n. (hash_at rule 0xD6E8_FEB8_6659_FD93 (half_of head) bytes at + n) % 2 ^ 64) back

-- and a hash of its first bytes, by one word
pub hash_at-factor : (rule : Bool) (number count : ℕ) (bytes : List ℕ) (at word factor : ℕ) → count ≤ 8 → word ≡ number_of_bytes rule 8 bytes at → factor ≡ factor_for number count
    → word * factor % 2 ^ 64 ≡ hash_at rule number count bytes at
hash_at-factor rule number count bytes at word factor short word_is factor_is =
    ap (λ n. n * factor % 2 ^ 64) word_is
    ∙ ap (λ n. number_of_bytes rule 8 bytes at * n % 2 ^ 64) factor_is
    ∙ hash_at-word rule number count bytes at short
