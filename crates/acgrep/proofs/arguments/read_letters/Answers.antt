-- A digit more, or a letter that turns something on.
use Rattle.acgrep.proofs.Common.{Flags, common_steps}
use Rattle.std.proofs.Common.{◌++◌, ◌-◌, ◌∙◌, ◌∷◌, ◌≡◌, List, None, Option, Some, [], ap, append_assoc, arith, false, length, refl, rules, sym, take, true, ℕ}
use Rattle.std.proofs.Math.Seq.{take-append_seam}
use Rattle.std.proofs.lemmas.List.{length-append}
use Rattle.std.specs.Char.{is_ascii_digit}
use Rattle.acgrep.specs.Arguments.{ReadSoFar, Said, letter_by, letters_by, letters_from, said, switch_by, switched, valued_letter, with_digits}
use Rattle.acgrep.specs.Mistakes.{digits_value_of, if_none, wrong_digits, wrong_from_digits, wrong_letter, wrong_letters}
use Rattle.acgrep.specs.declared.all_options.Switch.{Switch}
use Rattle.acgrep.proofs.arguments.read_letters.Goals as goal

digit_more : (digits : List ℕ) (letter : ℕ) (rest from : List ℕ) → from ≡ digits ++ (letter ∷ rest) → take (length from - length rest) from ≡ digits ++ (letter ∷ [])
digit_more digits letter rest from is =
    let all = digits ++ (letter ∷ []) in
    let cut : from ≡ all ++ rest = is ∙ sym (append_assoc digits (letter ∷ []) rest) in
    let len : length from - length rest ≡ length all = omega (arith, ap length cut, length-append all rest) in
    ap (λ (n : ℕ). take n from) len ∙ ap (take (length all)) cut ∙ take-append_seam all rest

pub loop-letter-preserved-then-is_ascii_digit : goal.loop-letter-preserved-then-is_ascii_digit
loop-letter-preserved-then-is_ascii_digit c =
    let letter = c.in-Some.letter.now in
    let behind = c.in-Some.behind.now in
    let digits = c.loop-letter.digits.now in
    let s = said c.loop-letter.given in
    let cut : c.loop-letter.rest.now ≡ letter ∷ behind = search rules in
    let whole = c.loop-letter.invariant.whole ∙ ap (λ (l : List ℕ). digits ++ l) cut in
    let more = digit_more digits letter behind c.loop-letter.from.now whole in
    let is : is_ascii_digit letter ≡ true = sym c.is_ascii_digit.ensures.value ∙ c.if-is_ascii_digit.true in
    let read : letters_from digits (letter ∷ behind) s ≡ letters_from (digits ++ (letter ∷ [])) behind s = rw is refl in
    let mistake : wrong_from_digits digits (letter ∷ behind) ≡ wrong_from_digits (digits ++ (letter ∷ [])) behind = rw is refl in
    record {
      whole = whole ∙ sym (append_assoc digits (letter ∷ []) behind) ∙ ap (λ (l : List ℕ). l ++ behind) (sym more);
      read = ap (λ (l : List ℕ). letters_from l behind s) more ∙ sym read ∙ ap (λ (l : List ℕ). letters_from digits l s) (sym cut) ∙ c.loop-letter.invariant.read;
      mistake = ap (λ (l : List ℕ). wrong_from_digits l behind) more ∙ sym mistake ∙ ap (wrong_from_digits digits) (sym cut) ∙ c.loop-letter.invariant.mistake;
    }

-- a letter behind digits that write a number
letter_behind : (digits : List ℕ) (letter : ℕ) (rest : List ℕ) (s s' : Said) → is_ascii_digit letter ≡ false → with_digits digits s ≡ Some s'
    → letters_from digits (letter ∷ rest) s ≡ letter_by letter rest (letters_by rest) s'
letter_behind digits letter rest s s' other is = rw (other, is) refl

wrong_behind : (digits : List ℕ) (letter : ℕ) (rest : List ℕ) → is_ascii_digit letter ≡ false → ((others : List (List ℕ)) → if_none (digits_value_of digits) (wrong_digits digits) others ≡ others)
    → wrong_from_digits digits (letter ∷ rest) ≡ wrong_letter letter rest (wrong_letters rest)
wrong_behind digits letter rest other right = rw other (right _)

-- one that turns something on
letter_switch : (letter : ℕ) (rest : List ℕ) (follow : Said → Option ReadSoFar) (s : Said) (switch : Switch) → (letter ≡ 101 → ⊥) → (letter ≡ 102 → ⊥) → valued_letter letter ≡ None
    → switch_by letter ≡ Some switch → letter_by letter rest follow s ≡ follow (record s { flags = switched switch s.flags })
letter_switch letter rest follow s switch no_text no_file plain is = grind (arith, common_steps)

wrong_switch : (letter : ℕ) (rest : List ℕ) (others : List (List ℕ)) (switch : Switch) → (letter ≡ 101 → ⊥) → (letter ≡ 102 → ⊥) → valued_letter letter ≡ None → switch_by letter ≡ Some switch
    → wrong_letter letter rest others ≡ others
wrong_switch letter rest others switch no_text no_file plain is = grind (arith, common_steps)

pub loop-letter-preserved : goal.loop-letter-preserved
loop-letter-preserved c =
    let letter = c.in-Some.letter.now in
    let behind = c.in-Some.behind.now in
    let digits = c.loop-letter.digits.now in
    let s = said c.loop-letter.given in
    let s' = said c.read_digits.new.given in
    let switch = c.in-Some-switch_of.switch in
    let cut : c.loop-letter.rest.now ≡ letter ∷ behind = search rules in
    let other : is_ascii_digit letter ≡ false = sym c.is_ascii_digit.ensures.value ∙ c.if-is_ascii_digit.false in
    let plain : valued_letter letter ≡ None = sym c.valued_letter.ensures.option ∙ c.in_default-valued_letter.is in
    let turns : switch_by letter ≡ Some switch = sym c.switch_of.ensures.switch ∙ c.in-Some-switch_of.is in
    record {
      whole = refl;
      read = ap (λ (flags : Flags). letters_by behind (record s' { flags = flags })) c.switched-given.ensures.switched
          ∙ sym (ap (λ (l : List ℕ). letters_from digits l s) cut ∙ letter_behind digits letter behind s s' other c.in_default-read_digits.ensures.read
          ∙ letter_switch letter behind (letters_by behind) s' switch c.if-letter-eq101.false c.if-letter-eq102.false plain turns) ∙ c.loop-letter.invariant.read;
      mistake = sym (ap (wrong_from_digits digits) cut ∙ wrong_behind digits letter behind other c.in_default-read_digits.ensures.right
          ∙ wrong_switch letter behind (wrong_letters behind) switch c.if-letter-eq101.false c.if-letter-eq102.false plain turns) ∙ c.loop-letter.invariant.mistake;
    }
