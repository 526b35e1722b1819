-- Each character that holds a bit of a secret within base64 lies in an occurrence of a pattern of its shift.
use Rattle.std.proofs.Common.{◌≡◌, ℕ, zero, suc, ◌+◌, ◌-◌, ◌*◌, ◌/◌, ◌%◌, ◌<◌, ◌≤◌, Bool, List, [], ◌∷◌, ◌++◌, length, take, drop, get_or, slice_index, refl, sym, ap, ◌∙◌, subst, arith, inl, inr, ◌⊎◌, replicate, cond}
use Rattle.std.specs.Prelude.{Contains}
use Rattle.std.proofs.lemmas.Bool.{cases_lt}
use Rattle.std.proofs.lemmas.List.{append_assoc, length-append, length-take-le, length-drop, get_or-append_right, get_or_append_left, take-append-le, drop-append-le}
use Rattle.base64.specs.declared.engine.general_purpose.GeneralPurpose.{GeneralPurpose}
use Rattle.base64.specs.GeneralPurpose.{encode_of}
use Rattle.base64.specs.Rfc4648.{encode, encode_symbols, unpadded_len, padding_len}
use Rattle.base64.proofs.RoundTrip.{length-encode_symbols, encode_split}
use Rattle.secret_forms.specs.Base64.{secret_within, trimmed, front_of, back_of, rest_of, values_ahead, values_behind, byte_behind, core_of, with_ahead, with_behind}
use Rattle.secret_forms.specs.Law.{HidesBits, IsHidden}
use Rattle.secret_forms.proofs.Hiding.{IsHidden-within}
use Rattle.secret_forms.proofs.Sextets.{sextet, sextet_inner, symbol_at, window}

-- the patterns of each shift are there
pub record HasShifts (patterns : List (List ℕ)) (engine : GeneralPurpose) (secret : List ℕ) : Type 0 where
  pub core : Contains patterns (core_of engine secret 0)
  pub ahead : (shift bits : ℕ) → 1 ≤ shift → shift ≤ 2 → bits < values_ahead shift → Contains patterns (with_ahead engine secret shift bits)
  pub behind : (shift bits : ℕ) → shift ≤ 2 → bits < values_behind (rest_of shift secret) → Contains patterns (with_behind engine secret shift bits)

-- behind as many bytes the bytes of the secret stand at the same places
agree : (x y s v w : List ℕ) (k i : ℕ) → length x ≡ k → length y ≡ k → k ≤ i → i < k + length s
    → slice_index (x ++ (s ++ v)) i ≡ slice_index (y ++ (s ++ w)) i
agree x y s v w k i lx ly low high =
    let within : i - k < length s = omega (arith, low, high) in
    let at : (x v : List ℕ) → length x ≡ k → get_or (x ++ (s ++ v)) i 0 ≡ get_or s (i - k) 0 = λ x v lx.
    get_or-append_right x (s ++ v) k i 0 lx low ∙ get_or_append_left s v 0 (i - k) within in
    at x v lx ∙ sym (at y w ly)

-- the first byte behind the secret
next_byte : (x s v : List ℕ) (k i : ℕ) → length x ≡ k → i ≡ k + length s → slice_index (x ++ (s ++ v)) i ≡ slice_index v 0
next_byte x s v k i lx e =
    let none : i - k - length s ≡ 0 = omega (arith, e) in
    get_or-append_right x (s ++ v) k i 0 lx (omega (arith, e))
    ∙ get_or-append_right s v (length s) (i - k) 0 refl (omega (arith, e)) ∙ ap (λ (n : ℕ). get_or v n 0) none

-- of the bytes ahead, the bits in the first character of the secret
abbrev pub bits_ahead : ℕ → List ℕ → ℕ
bits_ahead zero u = 0
bits_ahead (suc zero) u = slice_index u 0 % 4
bits_ahead (suc (suc k)) u = slice_index u 1 % 16

length_ahead : (k h : ℕ) → k ≤ 2 → length (drop (2 - k) (0 ∷ h ∷ [])) ≡ k
length_ahead k h small = length-drop (2 - k) (0 ∷ h ∷ []) ∙ omega (arith, small)

-- a character that begins no later than the secret ends has the same bits
same_ahead : (k : ℕ) (u s v : List ℕ) → length u ≡ k → 1 ≤ length s → k ≤ 2 → (j : ℕ) → k ≤ j → 6 * j + 6 ≤ 8 * (k + length s)
    → sextet (u ++ (s ++ v)) j ≡ sextet (secret_within k (bits_ahead k u) s []) j
same_ahead zero u s v lu some small j low high =
    sextet_inner (u ++ (s ++ v)) (secret_within 0 0 s []) 0 (0 + length s) j
    (λ i l h. agree u [] s v [] 0 i lu refl l h) (omega arith) high
same_ahead (suc zero) u s v lu some small zero low high = absurd (omega (arith, low))
same_ahead (suc zero) u s v lu some small (suc zero) low high =
    let h = slice_index u 0 % 4 in
    let first : slice_index (u ++ (s ++ v)) 0 ≡ slice_index u 0 = get_or_append_left u (s ++ v) 0 0 (omega (arith, lu)) in
    let second : slice_index (u ++ (s ++ v)) 1 ≡ slice_index (h ∷ (s ++ [])) 1 = agree u (h ∷ []) s v [] 1 1 lu refl (omega arith) (omega (arith, some)) in
    rw (first, second) (omega arith)
same_ahead (suc zero) u s v lu some small (suc (suc j)) low high =
    sextet_inner (u ++ (s ++ v)) (secret_within 1 (bits_ahead 1 u) s []) 1 (1 + length s) (suc (suc j))
    (λ i l h. agree u (bits_ahead 1 u ∷ []) s v [] 1 i lu refl l h) (omega arith) high
same_ahead (suc (suc zero)) u s v lu some small zero low high = absurd (omega (arith, low))
same_ahead (suc (suc zero)) u s v lu some small (suc zero) low high = absurd (omega (arith, low))
same_ahead (suc (suc zero)) u s v lu some small (suc (suc zero)) low high =
    let h = slice_index u 1 % 16 in
    let first : slice_index (u ++ (s ++ v)) 1 ≡ slice_index u 1 = get_or_append_left u (s ++ v) 0 1 (omega (arith, lu)) in
    let second : slice_index (u ++ (s ++ v)) 2 ≡ slice_index (0 ∷ h ∷ (s ++ [])) 2 = agree u (0 ∷ h ∷ []) s v [] 2 2 lu refl (omega arith) (omega (arith, some)) in
    rw (first, second) (omega arith)
same_ahead (suc (suc zero)) u s v lu some small (suc (suc (suc j))) low high =
    sextet_inner (u ++ (s ++ v)) (secret_within 2 (bits_ahead 2 u) s []) 2 (2 + length s) (suc (suc (suc j)))
    (λ i l h. agree u (0 ∷ bits_ahead 2 u ∷ []) s v [] 2 i lu refl l h) (omega arith) high
same_ahead (suc (suc (suc k))) u s v lu some small j low high = absurd (omega (arith, small))

-- the character in which the secret ends before others' bits: one byte or two of its group are the secret's, or stand ahead of it
last_of_one : (m w : List ℕ) (g j : ℕ) → j ≡ 4 * g + 1 → slice_index m (3 * g) ≡ slice_index w (3 * g)
    → slice_index m (3 * g + 1) / 16 ≡ slice_index w (3 * g + 1) / 16 → sextet m j ≡ sextet w j
last_of_one m w g j e own other =
    let eg : j / 4 ≡ g = omega (arith, e) in
    let er : j % 4 ≡ 1 = omega (arith, e) in
    rw (eg, er, own, other) refl

last_of_two : (m w : List ℕ) (g j : ℕ) → j ≡ 4 * g + 2 → slice_index m (3 * g + 1) ≡ slice_index w (3 * g + 1)
    → slice_index m (3 * g + 2) / 64 ≡ slice_index w (3 * g + 2) / 64 → sextet m j ≡ sextet w j
last_of_two m w g j e own other =
    let eg : j / 4 ≡ g = omega (arith, e) in
    let er : j % 4 ≡ 2 = omega (arith, e) in
    rw (eg, er, own, other) refl

-- of the first byte behind, the bits in the last character of the secret
abbrev pub bits_behind : ℕ → ℕ → ℕ
bits_behind zero b = 0
bits_behind (suc zero) b = b / 16
bits_behind (suc (suc r)) b = b / 64

bits_behind-small : (r b : ℕ) → 1 ≤ r → r ≤ 2 → b < 256 → bits_behind r b < values_behind r
bits_behind-small zero b low high small = absurd (omega (arith, low))
bits_behind-small (suc zero) b low high small = omega (arith, small)
bits_behind-small (suc (suc zero)) b low high small = omega (arith, small)
bits_behind-small (suc (suc (suc r))) b low high small = absurd (omega (arith, high))

same_last : (r : ℕ) (u y s v : List ℕ) (k j : ℕ) → length u ≡ k → length y ≡ k → 1 ≤ length s → r ≡ (k + length s) % 3 → 1 ≤ r → j ≡ 4 * (k + length s) / 3
    → sextet (u ++ (s ++ v)) j ≡ sextet (y ++ (s ++ byte_behind r (bits_behind r (slice_index v 0)) ∷ [])) j
same_last zero u y s v k j lu ly some er low ej = absurd (omega (arith, low))
same_last (suc zero) u y s v k j lu ly some er low ej =
    let b = slice_index v 0 in
    let w : List ℕ = b / 16 * 16 ∷ [] in
    let g = (k + length s) / 3 in
    let last : 3 * g + 1 ≡ k + length s = omega (arith, er) in
    let own = agree u y s v w k (3 * g) lu ly (omega (arith, last, some)) (omega (arith, last)) in
    let here = next_byte u s v k (3 * g + 1) lu last in
    let there = next_byte y s w k (3 * g + 1) ly last in
    last_of_one (u ++ (s ++ v)) (y ++ (s ++ w)) g j (omega (arith, ej, last)) own (rw (here, there) (omega arith))
same_last (suc (suc zero)) u y s v k j lu ly some er low ej =
    let b = slice_index v 0 in
    let w : List ℕ = b / 64 * 64 ∷ [] in
    let g = (k + length s) / 3 in
    let last : 3 * g + 2 ≡ k + length s = omega (arith, er) in
    let own = agree u y s v w k (3 * g + 1) lu ly (omega (arith, last, some)) (omega (arith, last)) in
    let here = next_byte u s v k (3 * g + 2) lu last in
    let there = next_byte y s w k (3 * g + 2) ly last in
    last_of_two (u ++ (s ++ v)) (y ++ (s ++ w)) g j (omega (arith, ej, last)) own (rw (here, there) (omega arith))
same_last (suc (suc (suc r))) u y s v k j lu ly some er low ej = absurd (omega (arith, er))

-- where the characters end that hold no bits but the secret's and those ahead of it
end_of : (r x : ℕ) → r ≡ x % 3 → unpadded_len x - back_of r ≡ 4 * x / 3
end_of zero x e = omega (arith, e)
end_of (suc zero) x e = omega (arith, e)
end_of (suc (suc zero)) x e = omega (arith, e)
end_of (suc (suc (suc r))) x e = absurd (omega (arith, e))

-- a part of an encoding that agrees with what stands in a text
hidden_by : (patterns : List (List ℕ)) (t m w : List ℕ) (a b j : ℕ) → Contains patterns (take (b - a) (drop a (encode_symbols t w)))
    → a ≤ j → j < b → b ≤ unpadded_len (length m) → b ≤ unpadded_len (length w)
    → ((i : ℕ) → a ≤ i → i < b → sextet m i ≡ sextet w i) → IsHidden patterns (encode_symbols t m) j
hidden_by patterns t m w a b j held low high in_m in_w same =
    let x = encode_symbols t m in
    let y = encode_symbols t w in
    let lx = length-encode_symbols t m in
    let ly = length-encode_symbols t w in
    let in_x : b ≤ length x = rw lx in_m in
    let in_y : b ≤ length y = rw ly in_w in
    let agrees = λ (i : ℕ) (l : a ≤ i) (h : i < b).
    symbol_at t m i (omega (arith, h, in_x)) ∙ ap (slice_index t) (same i l h) ∙ sym (symbol_at t w i (omega (arith, h, in_y))) in
    let begun = length-take-le a x (omega (arith, low, high, in_x)) in
    let long = length-take-le (b - a) (drop a y) (rw length-drop (omega (arith, in_y))) in
    record {
      pattern = take (b - a) (drop a y);
      ahead = take a x;
      behind = drop b x;
      listed = held;
      occurs = window x y a b (omega (arith, low, high)) in_x in_y agrees;
      after_start = rw begun low;
      before_end = rw (begun, long) (omega (arith, low, high));
    }

-- the part that is a pattern, by where it ends
part_is : (patterns : List (List ℕ)) (t text w : List ℕ) (front back b : ℕ) → text ≡ encode_symbols t w → unpadded_len (length w) - back ≡ b
    → Contains patterns (trimmed front back text) → Contains patterns (take (b - front) (drop front (encode_symbols t w)))
part_is patterns t text w front back b et eb held =
    let Held : ℕ → List ℕ → Type 0 = λ n l. Contains patterns (take (n - back - front) (drop front l)) in
    let now : Held (length (encode_symbols t w)) (encode_symbols t w) = rw et at held in
    rw (length-encode_symbols t w, eb) at now

pub length_within : (k h : ℕ) (s v : List ℕ) → k ≤ 2 → length (secret_within k h s v) ≡ k + (length s + length v)
length_within k h s v small =
    length-append (drop (2 - k) (0 ∷ h ∷ [])) (s ++ v) ∙ ap (λ (n : ℕ). n + length (s ++ v)) (length_ahead k h small)
    ∙ ap (λ (n : ℕ). k + n) (length-append s v)

length_between : (u s v : List ℕ) (k : ℕ) → length u ≡ k → length (u ++ (s ++ v)) ≡ k + (length s + length v)
length_between u s v k lu =
    length-append u (s ++ v) ∙ ap (λ (n : ℕ). n + length (s ++ v)) lu ∙ ap (λ (n : ℕ). k + n) (length-append s v)

-- the pattern that begins with the bits ahead
ahead_held : (patterns : List (List ℕ)) (engine : GeneralPurpose) (s u : List ℕ) (k : ℕ) → HasShifts patterns engine s → k ≤ 2
    → Contains patterns (with_ahead engine s k (bits_ahead k u))
ahead_held patterns engine s u zero has small = has.core
ahead_held patterns engine s u (suc zero) has small = has.ahead 1 (bits_ahead 1 u) (omega arith) small (omega arith)
ahead_held patterns engine s u (suc (suc zero)) has small = has.ahead 2 (bits_ahead 2 u) (omega arith) small (omega arith)
ahead_held patterns engine s u (suc (suc (suc k))) has small = absurd (omega (arith, small))

-- a character that holds a bit of the secret and none of what follows
hidden_ahead : (patterns : List (List ℕ)) (engine : GeneralPurpose) (t u s v : List ℕ) (k j : ℕ) → ((m : List ℕ) → encode_of engine m ≡ encode_symbols t m)
    → HasShifts patterns engine s → length u ≡ k → k ≤ 2 → 1 ≤ length s → 8 * k < 6 * (j + 1) → 6 * j + 6 ≤ 8 * (k + length s)
    → IsHidden patterns (encode_symbols t (u ++ (s ++ v))) j
hidden_ahead patterns engine t u s v k j plain has lu small some low high =
    let n = k + length s in
    let w = secret_within k (bits_ahead k u) s [] in
    let b = 4 * n / 3 in
    let lm = length_between u s v k lu in
    let lw : length w ≡ n = length_within k (bits_ahead k u) s [] small ∙ omega arith in
    let ends : unpadded_len (length w) - back_of (rest_of k s) ≡ b = ap (λ (x : ℕ). unpadded_len x - back_of (rest_of k s)) lw ∙ end_of (rest_of k s) n refl in
    let held = part_is patterns t (encode_of engine w) w k (back_of (rest_of k s)) b (plain w) ends (ahead_held patterns engine s u k has small) in
    hidden_by patterns t (u ++ (s ++ v)) w k b j held (omega (arith, low, small)) (omega (arith, high))
    (rw lm (omega arith)) (rw lw (omega arith))
    (λ i l h. same_ahead k u s v lu some small i l (omega (arith, h)))

-- a character that holds a bit of the secret and one of what follows, or of the zeros at the end
hidden_behind : (patterns : List (List ℕ)) (engine : GeneralPurpose) (t u s v : List ℕ) (k j : ℕ) → ((m : List ℕ) → encode_of engine m ≡ encode_symbols t m)
    → HasShifts patterns engine s → length u ≡ k → k ≤ 2 → 1 ≤ length s → slice_index v 0 < 256 → 8 * (k + length s) < 6 * j + 6 → 6 * j < 8 * (k + length s)
    → IsHidden patterns (encode_symbols t (u ++ (s ++ v))) j
hidden_behind patterns engine t u s v k j plain has lu small some byte low high =
    let n = k + length s in
    let r = rest_of k s in
    let part : 1 ≤ r = omega (arith, low, high) in
    let bits = bits_behind r (slice_index v 0) in
    let next : List ℕ = byte_behind r bits ∷ [] in
    let w = secret_within k 0 s next in
    let b = 4 * n / 3 + 1 in
    let lm = length_between u s v k lu in
    let lw : length w ≡ n + 1 = length_within k 0 s next small ∙ omega arith in
    let ends : unpadded_len (length w) - 1 ≡ b = rw lw (omega arith) in
    let value = bits_behind-small r (slice_index v 0) part (omega arith) byte in
    let held = part_is patterns t (encode_of engine w) w (front_of k) 1 b (plain w) ends (has.behind k bits small value) in
    let same = λ (i : ℕ) (l : front_of k ≤ i) (h : i < b). by_end i l h (cases_lt (8 * n) (6 * i + 6)) in
    hidden_by patterns t (u ++ (s ++ v)) w (front_of k) b j held (omega (arith, low, some)) (omega (arith, high))
    (rw lm (omega (arith, part))) (rw lw (omega arith)) same
  where
    by_end : (i : ℕ) → front_of k ≤ i → i < 4 * (k + length s) / 3 + 1 → (8 * (k + length s) < 6 * i + 6) ⊎ (6 * i + 6 ≤ 8 * (k + length s))
        → sextet (u ++ (s ++ v)) i ≡ sextet (secret_within k 0 s (byte_behind (rest_of k s) (bits_behind (rest_of k s) (slice_index v 0)) ∷ [])) i
    by_end i l h (inl over) =
        same_last (rest_of k s) u (drop (2 - k) (0 ∷ 0 ∷ [])) s v k i lu (length_ahead k 0 small) some refl (omega (arith, low, high)) (omega (arith, h, over))
    by_end i l h (inr within) =
        sextet_inner (u ++ (s ++ v)) (secret_within k 0 s (byte_behind (rest_of k s) (bits_behind (rest_of k s) (slice_index v 0)) ∷ [])) k (k + length s) i
        (λ p a z. agree u (drop (2 - k) (0 ∷ 0 ∷ [])) s v (byte_behind (rest_of k s) (bits_behind (rest_of k s) (slice_index v 0)) ∷ []) k p lu (length_ahead k 0 small) a z)
        (omega (arith, l)) within

hidden_in_group : (patterns : List (List ℕ)) (engine : GeneralPurpose) (t u s v : List ℕ) (k j : ℕ) → ((m : List ℕ) → encode_of engine m ≡ encode_symbols t m)
    → HasShifts patterns engine s → length u ≡ k → k ≤ 2 → 1 ≤ length s → slice_index v 0 < 256 → 8 * k < 6 * (j + 1) → 6 * j < 8 * (k + length s)
    → (8 * (k + length s) < 6 * j + 6) ⊎ (6 * j + 6 ≤ 8 * (k + length s)) → IsHidden patterns (encode_symbols t (u ++ (s ++ v))) j
hidden_in_group patterns engine t u s v k j plain has lu small some byte low high (inl over) = hidden_behind patterns engine t u s v k j plain has lu small some byte over high
hidden_in_group patterns engine t u s v k j plain has lu small some byte low high (inr within) = hidden_ahead patterns engine t u s v k j plain has lu small some low within

-- the law, with padding or without
pub HidesBits-base64 : (patterns : List (List ℕ)) (engine : GeneralPurpose) (t s : List ℕ) (pad : ℕ) (padding : Bool) → ((m : List ℕ) → encode_of engine m ≡ encode_symbols t m)
    → HasShifts patterns engine s → 1 ≤ length s → HidesBits 6 (encode t pad padding) patterns s
HidesBits-base64 patterns engine t s pad padding plain has some before after ahead behind place bytes holds =
    let q = length before / 3 in
    let k = length before % 3 in
    let rest = drop (3 * q) before in
    let whole = before ++ (s ++ after) in
    let group = encode_symbols t (rest ++ (s ++ after)) in
    let front = encode_symbols t (take (3 * q) before) in
    let pads = cond padding (replicate (padding_len (length whole)) pad) [] in
    let fits : 3 * q ≤ length before = omega arith in
    let lw = length-append before (s ++ after) in
    let split : encode_symbols t whole ≡ front ++ group =
    encode_split t whole (3 * q) (omega arith) (rw lw (omega (arith, fits)))
    ∙ ap (λ (l : List ℕ). encode_symbols t l ++ encode_symbols t (drop (3 * q) whole)) (take-append-le (3 * q) before (s ++ after) fits)
    ∙ ap (λ (l : List ℕ). front ++ encode_symbols t l) (drop-append-le (3 * q) before (s ++ after) fits) in
    let long : length front ≡ 4 * q = length-encode_symbols t (take (3 * q) before) ∙ ap unpadded_len (length-take-le (3 * q) before fits) ∙ omega arith in
    let lr : length rest ≡ k = length-drop (3 * q) before ∙ omega arith in
    let j = place - 4 * q in
    let inner = hidden_in_group patterns engine t rest s after k j plain has lr (omega arith) some (bytes 0)
    (omega (arith, holds.after_start)) (omega (arith, holds.after_start, holds.before_end)) (cases_lt (8 * (k + length s)) (6 * j + 6)) in
    let outer = IsHidden-within patterns group front pads j inner in
    let at : length front + j ≡ place = rw long (omega (arith, holds.after_start)) in
    let text : encode t pad padding whole ≡ front ++ (group ++ pads) = ap (λ (l : List ℕ). l ++ pads) split ∙ append_assoc front group pads in
    let There : List ℕ → Type 0 = λ l. IsHidden patterns l place in
    let Here : ℕ → Type 0 = λ n. IsHidden patterns (front ++ (group ++ pads)) n in
    IsHidden-within patterns (encode t pad padding whole) ahead behind place (subst There (sym text) (subst Here at outer))
