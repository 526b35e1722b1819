-- What is written of a secret by an encoder that looks at the byte before each stands together, but for the marks before it.
use Rattle.std.proofs.Common.{◌≡◌, ℕ, ◌+◌, ◌≤◌, List, [], ◌∷◌, ◌++◌, length, None, Option, Some, refl, ap, ◌∙◌, arith}
use Rattle.std.specs.Prelude.{Contains}
use Rattle.std.proofs.lemmas.List.{append_assoc, length-append}
use Rattle.secret_forms.specs.Joined.{HidesJoined, alone_byte, joined_word, joined_from, marks_before}
use Rattle.secret_forms.specs.Law.{IsHidden}
use Rattle.secret_forms.specs.declared.joined_form.Joining.{Joining}
use Rattle.secret_forms.proofs.Hiding.{IsHidden-within}

-- the last byte
abbrev last_of : Option ℕ → List ℕ → Option ℕ
last_of first [] = first
last_of first (b ∷ bs) = last_of (Some b) bs

joined-append : (j : Joining) (first : Option ℕ) (xs ys : List ℕ)
    → joined_from j first (xs ++ ys) ≡ joined_from j first xs ++ joined_from j (last_of first xs) ys
joined-append j first [] ys = refl
joined-append j first (x ∷ xs) ys =
    ap (λ (r : List ℕ). marks_before j first x ++ (alone_byte j x ++ r)) (joined-append j (Some x) xs ys) ∙ simp append_assoc refl

-- of a secret with others ahead: these, marks, and the secret's own
parted : (j : Joining) (first : Option ℕ) (before : List ℕ) (s : ℕ) (rest : List ℕ)
    → joined_from j first (before ++ (s ∷ rest)) ≡ (joined_from j first before ++ marks_before j (last_of first before) s) ++ joined_word j (s ∷ rest)
parted j first before s rest = joined-append j first before (s ∷ rest) ∙ simp append_assoc refl

pub HidesJoined-listed : (j : Joining) (patterns : List (List ℕ)) (secret : List ℕ) → 1 ≤ length secret → Contains patterns (joined_word j secret)
    → HidesJoined patterns secret j
HidesJoined-listed j patterns [] some held first before after ahead behind place low high = absurd (omega (arith, some))
HidesJoined-listed j patterns (s ∷ rest) some held first before after ahead behind place low high =
    let front = joined_from j first before ++ marks_before j (last_of first before) s in
    let own = joined_word j (s ∷ rest) in
    let others = joined_from j (last_of None (s ∷ rest)) after in
    let size : length (joined_from j first (before ++ (s ∷ rest))) ≡ length front + length own = ap length (parted j first before s rest) ∙ length-append front own in
    let whole : joined_from j first (before ++ ((s ∷ rest) ++ after)) ≡ front ++ (own ++ others) =
    parted j first before s (rest ++ after) ∙ ap (λ (r : List ℕ). front ++ r) (joined-append j None (s ∷ rest) after) in
    let inner : IsHidden patterns (joined_from j first (before ++ ((s ∷ rest) ++ after))) place = record {
      pattern = own;
      ahead = front;
      behind = others;
      listed = held;
      occurs = whole;
      after_start = omega (arith, low, size);
      before_end = omega (arith, high, size);
    } in
    IsHidden-within patterns (joined_from j first (before ++ ((s ∷ rest) ++ after))) ahead behind place inner
