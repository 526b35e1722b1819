-- How a text is read: by what it begins with, and by the first place of a byte.
use Rattle.acredact.proofs.Common.{All-head, All-tail, Err, Given, List, None, Some, [], ap, by_letters, false, nat_eq, ne_eqb, refl, same_Some, slice_get, ℕ, ◌++◌, ◌∷◌, ◌≡◌}
use Rattle.std.proofs.lemmas.Bool.{eq-eqb}
use Rattle.std.proofs.Common.{◌==◌}
use Rattle.std.specs.Prelude.{◌≢◌}
use Rattle.acredact.specs.Forms.{split_first}
use Rattle.acredact.specs.Mistakes.{letter_line}
use Rattle.acredact.specs.Tables.{IsWithout}

-- the first place of a byte parts a text, or there is none
pub parted_at : (sign : ℕ) (front rest : List ℕ) → IsWithout sign front → split_first sign (front ++ (sign ∷ rest)) ≡ Some (front, rest)
parted_at sign [] rest without = rw (eq-eqb sign sign refl) refl
parted_at sign (byte ∷ front) rest without =
    rw (All-head (λ b. nat_eq b sign ≡ false) byte front without, parted_at sign front rest (All-tail (λ b. nat_eq b sign ≡ false) byte front without)) refl

pub parted_none : (sign : ℕ) (text : List ℕ) → IsWithout sign text → split_first sign text ≡ None
parted_none sign [] without = refl
parted_none sign (byte ∷ text) without =
    rw (All-head (λ b. nat_eq b sign ≡ false) byte text without, parted_none sign text (All-tail (λ b. nat_eq b sign ≡ false) byte text without)) refl

-- one byte in front of others, or another
first_not : (wanted first : ℕ) (rest : List ℕ) → ((others : List ℕ) → (first ∷ rest) ≢ wanted ∷ others) → (first == wanted) ≡ false
first_not wanted first rest lacks = ne_eqb first wanted (λ (is : first ≡ wanted). lacks rest (ap (λ (n : ℕ). n ∷ rest) is))

-- a letter that no option has
pub no_letter : (letters : List ℕ) (letter : ℕ) (items : List Given) → slice_get letters 0 ≡ Some letter → ((rest : List ℕ) → letters ≢ 105 ∷ rest) → ((rest : List ℕ) → letters ≢ 119 ∷ rest)
    → ((rest : List ℕ) → letters ≢ 101 ∷ rest) → ((rest : List ℕ) → letters ≢ 102 ∷ rest) → ((rest : List ℕ) → letters ≢ 116 ∷ rest) → by_letters letters items ≡ Err (letter_line letter)
no_letter [] letter items is lacks_i lacks_w lacks_e lacks_f lacks_t = absurd (cc)
no_letter (first ∷ behind) letter items is lacks_i lacks_w lacks_e lacks_f lacks_t =
    rw (first_not 105 first behind lacks_i, first_not 119 first behind lacks_w, first_not 101 first behind lacks_e, first_not 102 first behind lacks_f, first_not 116 first behind lacks_t)
    (ap (λ (byte : ℕ). Err (letter_line byte)) (same_Some first letter is))
