-- Lines up to the first that holds a zero byte, and those from it on.
use Rattle.acgrep.proofs.Common.{Nowhere, and_from, and_parts, cases_Bool, eq-eqb, eqb-true, true≢false}
use Rattle.std.proofs.Common.{◌++◌, ◌+◌, ◌-◌, ◌<◌, ◌==◌, ◌∙◌, ◌∷◌, ◌≡◌, ◌≤◌, ◌⊎◌, Bool, List, Some, [], ap, arith, drop, false, inl, inr, length, length-drop, refl, subst, suc, sym, take, take-append-drop, take-take, true, zero, ℕ}
use Rattle.std.proofs.Math.Seq.{take-length}
use Rattle.std.proofs.lemmas.Bool.{and_right, false_from_ne_true, not_from_false}
use Rattle.std.specs.Prelude.{if◌then◌else◌, not}
use Rattle.acgrep.specs.Binary.{binary_lines, is_text, text_lines}
use Rattle.acgrep.specs.Guarded.{IsFirstBinary, IsZeroLine}
use Rattle.acgrep.specs.Lines.{IsEnding, joined_to, lines}
use Rattle.acgrep.specs.Written.{EachLine, SomeLine}
use Rattle.acgrep.proofs.Around.{behind_newline, front_newline, newline_behind}
use Rattle.acgrep.proofs.FirstLines.{lines_joined}
use Rattle.acgrep.proofs.LineLists.{drop_zero}

-- bytes without a zero byte
pub text_joined : (xs ys : List ℕ) → is_text xs ≡ true → is_text ys ≡ true → is_text (xs ++ ys) ≡ true
text_joined [] ys one other = other
text_joined (byte ∷ xs) ys one other =
    let (here, rest) = and_parts (not (byte == 0)) (is_text xs) one in
    and_from (not (byte == 0)) (is_text (xs ++ ys)) here (text_joined xs ys rest other)

pub text_parts : (xs ys : List ℕ) → is_text (xs ++ ys) ≡ true → (is_text xs ≡ true) × (is_text ys ≡ true)
text_parts [] ys all = (refl, all)
text_parts (byte ∷ xs) ys all =
    let (here, rest) = and_parts (not (byte == 0)) (is_text (xs ++ ys)) all in
    let (front, back) = text_parts xs ys rest in
    (and_from (not (byte == 0)) (is_text xs) here front, back)

-- none up to a place
text_nowhere : (xs : List ℕ) (n : ℕ) → n ≤ length xs → Nowhere (IsEnding 0 xs) 0 n → is_text (take n xs) ≡ true
text_nowhere xs zero within none = refl
text_nowhere [] (suc n) within none = absurd (omega (arith, within))
text_nowhere (byte ∷ xs) (suc n) within none =
    and_from (not (byte == 0)) (is_text (take n xs)) (not_from_false (byte == 0) (false_from_ne_true (byte == 0) (λ here. none 0 (omega arith) (omega arith) here)))
    (text_nowhere xs n (omega (arith, within)) (λ k low high is. none (suc k) (omega arith) (omega (arith, high)) is))

module _ (ending : ℕ) where
  each_joined : (byte : ℕ) (ls : List (List ℕ)) → not (byte == 0) ≡ true → EachLine (λ (line : List ℕ). is_text line ≡ true) ls → EachLine (λ (line : List ℕ). is_text line ≡ true) (joined_to byte ls)
  each_joined byte [] here each = (and_from (not (byte == 0)) true here refl, tt)
  each_joined byte (first ∷ rest) here (one, others) = (and_from (not (byte == 0)) (is_text first) here one, others)

  -- then no line holds one
  each_text : (bytes : List ℕ) → is_text bytes ≡ true → EachLine (λ (line : List ℕ). is_text line ≡ true) (lines ending bytes)
  each_text [] is = tt
  each_text (byte ∷ rest) is =
      let (here, others) = and_parts (not (byte == 0)) (is_text rest) is in
      let IH = each_text rest others in
      elim (cases_Bool (byte == ending)) [
        | inl ends ↦ rw ends (refl, IH)
        | inr other ↦ subst (EachLine (λ (line : List ℕ). is_text line ≡ true)) (sym (lines_joined ending byte rest other)) (each_joined byte (lines ending rest) here IH)
      ]

  behind_each : (ls ms : List (List ℕ)) → EachLine (λ (line : List ℕ). is_text line ≡ true) ls → (text_lines (ls ++ ms) ≡ ls ++ text_lines ms) × (binary_lines (ls ++ ms) ≡ binary_lines ms)
  behind_each [] ms each = (refl, refl)
  behind_each (line ∷ ls) ms (one, others) =
      let (text, binary) = behind_each ls ms others in
      rw one (ap (λ (l : List (List ℕ)). line ∷ l) text, binary)

  -- lines of such bytes come first
  pub text_behind : (bytes : List ℕ) (ms : List (List ℕ)) → is_text bytes ≡ true → text_lines (lines ending bytes ++ ms) ≡ lines ending bytes ++ text_lines ms
  text_behind bytes ms is = (behind_each (lines ending bytes) ms (each_text bytes is)).0

  pub binary_behind : (bytes : List ℕ) (ms : List (List ℕ)) → is_text bytes ≡ true → binary_lines (lines ending bytes ++ ms) ≡ binary_lines ms
  binary_behind bytes ms is = (behind_each (lines ending bytes) ms (each_text bytes is)).1

  joined_binary : (byte : ℕ) (ls : List (List ℕ)) → IsFirstBinary ls → IsFirstBinary (joined_to byte ls)
  joined_binary byte [] is = absurd is
  joined_binary byte (first ∷ rest) is = and_right (not (byte == 0)) (is_text first) is

  zero_joined : (byte : ℕ) (ls : List (List ℕ)) → (byte == 0) ≡ true → IsFirstBinary (joined_to byte ls)
  zero_joined byte [] none = rw none refl
  zero_joined byte (first ∷ rest) none = rw none refl

  -- a zero byte in the first line
  zero_first : (ending == 0) ≡ false → (xs : List ℕ) (at : ℕ) → at < length xs → IsEnding 0 xs at → Nowhere (IsEnding ending xs) 0 at → (more : List ℕ) → IsFirstBinary (lines ending (xs ++ more))
  zero_first other [] at within here none more = absurd (omega (arith, within))
  zero_first other (byte ∷ xs) zero within here none more =
      let ends : (byte == ending) ≡ false = false_from_ne_true (byte == ending) (λ same.
      true≢false (sym (eq-eqb ending 0 (sym (eqb-true byte ending same) ∙ eqb-true byte 0 here)) ∙ other)) in
      subst IsFirstBinary (sym (lines_joined ending byte (xs ++ more) ends)) (zero_joined byte (lines ending (xs ++ more)) here)
  zero_first other (byte ∷ xs) (suc at) within here none more =
      let ends : (byte == ending) ≡ false = false_from_ne_true (byte == ending) (λ same. none 0 (omega arith) (omega arith) same) in
      subst IsFirstBinary (sym (lines_joined ending byte (xs ++ more) ends)) (joined_binary byte (lines ending (xs ++ more))
      (zero_first other xs at (omega (arith, within)) here (λ k low high is. none (suc k) (omega arith) (omega (arith, high)) is) more))

  -- no zero byte came
  pub zero_none : (bytes : List ℕ) (before : ℕ) → is_text (take before bytes) ≡ true → Nowhere (IsEnding 0 (drop before bytes)) 0 (length (drop before bytes)) → is_text bytes ≡ true
  zero_none bytes before front none =
      let back : is_text (take (length (drop before bytes)) (drop before bytes)) ≡ true = text_nowhere (drop before bytes) (length (drop before bytes)) (omega arith) none in
      subst (λ (l : List ℕ). is_text l ≡ true) (take-append-drop before bytes)
      (text_joined (take before bytes) (drop before bytes) front (subst (λ (l : List ℕ). is_text l ≡ true) (take-length (drop before bytes)) back))

  -- the first of them stands there, and its line begins behind the last that ends before it
  pub zero_some : (bytes : List ℕ) (before at start : ℕ) → before ≤ length bytes → at < length (drop before bytes) → is_text (take before bytes) ≡ true → IsEnding 0 (drop before bytes) at
      → Nowhere (IsEnding 0 (drop before bytes)) 0 at → start ≤ before + at → Nowhere (IsEnding ending (take (before + at) bytes)) start (before + at) → IsZeroLine ending bytes (Some start)
  zero_some bytes before at start low within front here none early one =
      let long : length (drop before bytes) + before ≡ length bytes = omega (arith, length-drop before bytes, low) in
      let back : is_text (take at (drop before bytes)) ≡ true = text_nowhere (drop before bytes) at (omega (arith, within)) none in
      let all : is_text (take (before + at) bytes) ≡ true = subst (λ (l : List ℕ). is_text l ≡ true) (sym (take_more before at bytes low))
      (text_joined (take before bytes) (take at (drop before bytes)) front back) in
      let short : take start (take (before + at) bytes) ≡ take start bytes = take-take start (before + at) bytes early in
      let place : start + (before + at - start) ≡ before + at = omega (arith, early) in (
        subst (λ (l : List ℕ). is_text l ≡ true) short
            (text_parts (take start (take (before + at) bytes)) (drop start (take (before + at) bytes)) (subst (λ (l : List ℕ). is_text l ≡ true) (sym (take-append-drop start (take (before + at) bytes))) all)).0,
        λ other more. zero_first other (drop start bytes) (before + at - start) (omega (arith, length-drop start bytes, within, long, early))
            (behind_newline 0 bytes start (before + at - start) (subst (IsEnding 0 bytes) (sym place) (newline_behind 0 bytes before at here)))
            (λ k least most is. one (start + k) (omega arith) (omega (arith, most, early)) (front_newline ending bytes (before + at) (start + k) (omega (arith, most, early)) (newline_behind ending bytes start k is))) more,
      )
    where
      take_more : (n m : ℕ) (xs : List ℕ) → n ≤ length xs → take (n + m) xs ≡ take n xs ++ take m (drop n xs)
      take_more zero m xs within = ap (λ (k : ℕ). take k xs) (omega arith) ∙ ap (take m) (sym (drop_zero xs))
      take_more (suc n) m [] within = absurd (omega (arith, within))
      take_more (suc n) m (x ∷ xs) within =
          let more : suc n + m ≡ suc (n + m) = omega arith in
          ap (λ (k : ℕ). take k (x ∷ xs)) more ∙ ap (λ (l : List ℕ). x ∷ l) (take_more n m xs (omega (arith, within)))

-- the first line with a zero byte begins some lines
pub first_parts : (ls : List (List ℕ)) → IsFirstBinary ls → (text_lines ls ≡ []) × (binary_lines ls ≡ ls) × SomeLine (λ (line : List ℕ). is_text line ≡ false) ls
first_parts [] is = absurd is
first_parts (line ∷ rest) is = (rw is refl, rw is refl, inl is)

-- what holds of some of the first lines or of the others holds of some line
pub some_part : (P : List ℕ → Type 0) (ls : List (List ℕ)) → SomeLine P (text_lines ls) ⊎ SomeLine P (binary_lines ls) → SomeLine P ls
some_part P [] which = elim which [ inl some ↦ absurd some | inr some ↦ absurd some ]
some_part P (line ∷ rest) which =
    let Parts = λ (b : Bool). SomeLine P (if b then line ∷ text_lines rest else []) ⊎ SomeLine P (if b then binary_lines rest else line ∷ rest) in
    elim (cases_Bool (is_text line)) [
      | inl is ↦ elim (subst Parts is which) [ inl (inl one) ↦ inl one | inl (inr later) ↦ inr (some_part P rest (inl later)) | inr others ↦ inr (some_part P rest (inr others)) ]
      | inr other ↦ elim (subst Parts other which) [ inl none ↦ absurd none | inr some ↦ some ]
    ]
