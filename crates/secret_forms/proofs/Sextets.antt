-- The characters of base64, six bits each: which bytes decide which.
use Rattle.std.proofs.Common.{◌≡◌, ℕ, zero, suc, ◌+◌, ◌-◌, ◌*◌, ◌/◌, ◌%◌, ◌<◌, ◌≤◌, List, ◌++◌, length, take, drop, get_or, slice_index, refl, sym, ap, ◌∙◌, arith}
use Rattle.std.proofs.lemmas.List.{length-take-le, take-append-drop, drop-drop, get_or-take, get_or-drop, get_or-append_right, get_or_past, length-drop, ext_get_or}
use Rattle.base64.specs.Rfc4648.{encode_symbols, unpadded_len}
use Rattle.base64.proofs.Encoding.{encode_symbols-drop_group, encode_symbols-drop_two, encode_symbols-drop_one}
use Rattle.base64.proofs.RoundTrip.{length-encode_symbols, encode_split}

-- the bits of a character of the group whose first byte is at a place
abbrev pub piece : (m : List ℕ) (at r : ℕ) → ℕ
piece m at zero = slice_index m at / 4
piece m at (suc zero) = slice_index m at % 4 * 16 + slice_index m (at + 1) / 16
piece m at (suc (suc zero)) = slice_index m (at + 1) % 16 * 4 + slice_index m (at + 2) / 64
piece m at (suc (suc (suc r))) = slice_index m (at + 2) % 64

-- the bits of a character
abbrev pub sextet : List ℕ → ℕ → ℕ
sextet m j = piece m (3 * (j / 4)) (j % 4)

at_group : (t m : List ℕ) (i r : ℕ) → i + 3 ≤ length m → r < 4 → slice_index (encode_symbols t (drop i m)) r ≡ slice_index t (piece m i r)
at_group t m i zero fits h = rw (encode_symbols-drop_group t m i fits) refl
at_group t m i (suc zero) fits h = rw (encode_symbols-drop_group t m i fits) refl
at_group t m i (suc (suc zero)) fits h = rw (encode_symbols-drop_group t m i fits) refl
at_group t m i (suc (suc (suc zero))) fits h = rw (encode_symbols-drop_group t m i fits) refl
at_group t m i (suc (suc (suc (suc r)))) fits h = absurd (omega (arith, h))

at_two : (t m : List ℕ) (i r : ℕ) → i + 2 ≡ length m → r < 3 → slice_index (encode_symbols t (drop i m)) r ≡ slice_index t (piece m i r)
at_two t m i zero fits h = rw (encode_symbols-drop_two t m i fits) refl
at_two t m i (suc zero) fits h = rw (encode_symbols-drop_two t m i fits) refl
at_two t m i (suc (suc zero)) fits h =
    let past : get_or m (i + 2) 0 ≡ 0 = get_or_past m (i + 2) 0 (omega arith) in
    let same : slice_index m (i + 1) % 16 * 4 ≡ slice_index m (i + 1) % 16 * 4 + slice_index m (i + 2) / 64 = omega (arith, past) in
    rw (encode_symbols-drop_two t m i fits) (ap (slice_index t) same)
at_two t m i (suc (suc (suc r))) fits h = absurd (omega (arith, h))

at_one : (t m : List ℕ) (i r : ℕ) → i + 1 ≡ length m → r < 2 → slice_index (encode_symbols t (drop i m)) r ≡ slice_index t (piece m i r)
at_one t m i zero fits h = rw (encode_symbols-drop_one t m i fits) refl
at_one t m i (suc zero) fits h =
    let past : get_or m (i + 1) 0 ≡ 0 = get_or_past m (i + 1) 0 (omega arith) in
    let same : slice_index m i % 4 * 16 ≡ slice_index m i % 4 * 16 + slice_index m (i + 1) / 16 = omega (arith, past) in
    rw (encode_symbols-drop_one t m i fits) (ap (slice_index t) same)
at_one t m i (suc (suc r)) fits h = absurd (omega (arith, h))

-- a character of a group, by how many bytes are left
at_left : (t m : List ℕ) (i left r : ℕ) → i + left ≡ length m → r < 4 → 3 * r < 4 * left + 2 → 3 * r + 1 ≤ 4 * left
    → slice_index (encode_symbols t (drop i m)) r ≡ slice_index t (piece m i r)
at_left t m i zero r e h within more = absurd (omega (arith, more))
at_left t m i (suc zero) r e h within more = at_one t m i r (omega (arith, e)) (omega (arith, more))
at_left t m i (suc (suc zero)) r e h within more = at_two t m i r (omega (arith, e)) (omega (arith, more))
at_left t m i (suc (suc (suc left))) r e h within more = at_group t m i r (omega (arith, e)) h

-- each character is the symbol of its bits
pub symbol_at : (t m : List ℕ) (j : ℕ) → j < length (encode_symbols t m) → slice_index (encode_symbols t m) j ≡ slice_index t (sextet m j)
symbol_at t m j within =
    let g = j / 4 in
    let r = j % 4 in
    let len = length-encode_symbols t m in
    let short : 3 * g ≤ length m = omega (arith, len, within) in
    let split = encode_split t m (3 * g) (omega arith) short in
    let front : length (encode_symbols t (take (3 * g) m)) ≡ 4 * g =
    length-encode_symbols t (take (3 * g) m) ∙ ap unpadded_len (length-take-le (3 * g) m short) ∙ omega arith in
    let there = get_or-append_right (encode_symbols t (take (3 * g) m)) (encode_symbols t (drop (3 * g) m)) (4 * g) j 0 front (omega arith) in
    let rest : j - 4 * g ≡ r = omega arith in
    ap (λ (l : List ℕ). slice_index l j) split ∙ there ∙ ap (slice_index (encode_symbols t (drop (3 * g) m))) rest
    ∙ at_left t m (3 * g) (length m - 3 * g) r (omega (arith, short)) (omega arith) (omega (arith, len, within)) (omega (arith, len, within))

-- bytes that agree from `low` up to `high` make the characters the same that hold no bit of another
piece_inner : (m w : List ℕ) (low high g r : ℕ) → ((i : ℕ) → low ≤ i → i < high → slice_index m i ≡ slice_index w i)
    → 8 * low ≤ 24 * g + 6 * r → 24 * g + 6 * r + 6 ≤ 8 * high → r < 4 → piece m (3 * g) r ≡ piece w (3 * g) r
piece_inner m w low high g zero agree h1 h2 h = rw (agree (3 * g) (omega (arith, h1)) (omega (arith, h2))) refl
piece_inner m w low high g (suc zero) agree h1 h2 h =
    rw (agree (3 * g) (omega (arith, h1)) (omega (arith, h2)), agree (3 * g + 1) (omega (arith, h1)) (omega (arith, h2))) refl
piece_inner m w low high g (suc (suc zero)) agree h1 h2 h =
    rw (agree (3 * g + 1) (omega (arith, h1)) (omega (arith, h2)), agree (3 * g + 2) (omega (arith, h1)) (omega (arith, h2))) refl
piece_inner m w low high g (suc (suc (suc r))) agree h1 h2 h =
    rw (agree (3 * g + 2) (omega (arith, h1, h)) (omega (arith, h2, h))) refl

pub sextet_inner : (m w : List ℕ) (low high j : ℕ) → ((i : ℕ) → low ≤ i → i < high → slice_index m i ≡ slice_index w i)
    → 8 * low ≤ 6 * j → 6 * j + 6 ≤ 8 * high → sextet m j ≡ sextet w j
sextet_inner m w low high j agree h1 h2 = piece_inner m w low high (j / 4) (j % 4) agree (omega (arith, h1)) (omega (arith, h2)) (omega arith)

-- a list that agrees with another from a place up to a place holds that part of it there
pub window : (xs ys : List ℕ) (a b : ℕ) → a ≤ b → b ≤ length xs → b ≤ length ys
    → ((j : ℕ) → a ≤ j → j < b → slice_index xs j ≡ slice_index ys j) → xs ≡ take a xs ++ (take (b - a) (drop a ys) ++ drop b xs)
window xs ys a b ordered in_xs in_ys agree =
    let n = b - a in
    let long : (l : List ℕ) → b ≤ length l → length (take n (drop a l)) ≡ n = λ l fits.
    length-take-le n (drop a l) (rw length-drop (omega (arith, fits, ordered))) in
    let at : (l : List ℕ) (i : ℕ) → i < n → get_or (take n (drop a l)) i 0 ≡ get_or l (a + i) 0 = λ l i h.
    get_or-take n (drop a l) i 0 h ∙ get_or-drop a l i 0 in
    let same : take n (drop a xs) ≡ take n (drop a ys) = ext_get_or 0 _ _ (long xs in_xs ∙ sym (long ys in_ys))
    (λ i h. let below : i < n = omega (arith, h, long xs in_xs) in
    at xs i below ∙ agree (a + i) (omega arith) (omega (arith, below, ordered)) ∙ sym (at ys i below)) in
    let to_b : a + n ≡ b = omega (arith, ordered) in
    let rest : drop n (drop a xs) ≡ drop b xs = drop-drop n a xs ∙ ap (λ (k : ℕ). drop k xs) to_b in
    let parts : drop a xs ≡ take n (drop a ys) ++ drop b xs =
    sym (take-append-drop n (drop a xs)) ∙ ap (λ (l : List ℕ). l ++ drop n (drop a xs)) same ∙ ap (λ (l : List ℕ). take n (drop a ys) ++ l) rest in
    sym (take-append-drop a xs) ∙ ap (λ (l : List ℕ). take a xs ++ l) parts
