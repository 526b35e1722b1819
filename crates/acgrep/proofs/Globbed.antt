-- How a name is read along a glob.
use Rattle.acgrep.proofs.Common.{and_parts, common_steps, drop-drop, or_right, take_rest}
use Rattle.std.proofs.Common.{◌+◌, ◌-◌, ◌∙◌, ◌∷◌, ◌≡◌, ◌≤◌, Bool, List, [], ap, arith, drop, inl, inr, length, length-drop, refl, subst, suc, sym, take, true, zero, ℕ}
use Rattle.std.proofs.lemmas.Bool.{ne_eqb, or_cases}
use Rattle.acgrep.specs.Globs.{IsCut, any_suffix, closes_at, closing, fits, item_len, one_fits, part_len, stands_for}
use Rattle.acgrep.proofs.LineLists.{drop_zero}

-- what belongs to a part before is passed
pub fits_skip : (k : ℕ) (glob name : List ℕ) → fits k glob name ≡ fits 0 (drop k glob) name
fits_skip (suc k) (first ∷ behind) name = fits_skip k behind name
fits_skip _ _ name = refl

pub closes_skip : (k passed : ℕ) (items : List ℕ) → closes_at passed k items ≡ closes_at (passed + k) 0 (drop k items)
closes_skip zero passed [] = refl
closes_skip zero passed (first ∷ behind) = ap (λ (n : ℕ). closes_at n 0 (first ∷ behind)) (omega arith)
closes_skip (suc k) passed [] = refl
closes_skip (suc k) passed (first ∷ behind) = closes_skip k (passed + 1) behind ∙ ap (λ (n : ℕ). closes_at n 0 (drop k behind)) (omega arith)

-- a suffix of what is left is one of the whole
pub any_here : (holds : List ℕ → Bool) (word : List ℕ) → holds word ≡ true → any_suffix holds word ≡ true
any_here holds [] is = is
any_here holds (byte ∷ rest) is = rw is refl

pub any_later : (holds : List ℕ → Bool) (k : ℕ) (word : List ℕ) → any_suffix holds (drop k word) ≡ true → any_suffix holds word ≡ true
any_later holds (suc k) (byte ∷ rest) is = or_right (holds (byte ∷ rest)) (any_suffix holds rest) (any_later holds k rest is)
any_later holds _ _ is = is

pub any_where : (holds : List ℕ → Bool) (word : List ℕ) → any_suffix holds word ≡ true → (k : ℕ) × (holds (drop k word) ≡ true)
any_where holds [] is = (0, is)
any_where holds (byte ∷ rest) is = elim (or_cases (holds (byte ∷ rest)) (any_suffix holds rest) is) [
  | inl here ↦ (0, here)
  | inr later ↦ let (k, there) = any_where holds rest later in (suc k, there)
]

pub both_ways : (a b : Bool) → (a ≡ true → b ≡ true) → (b ≡ true → a ≡ true) → a ≡ b
both_ways a b one other = grind (arith, common_steps)

drop_more : (i j : ℕ) (word : List ℕ) → drop (suc i) (drop j word) ≡ drop i (drop (suc j) word)
drop_more i j word = drop-drop (suc i) j word ∙ ap (λ (n : ℕ). drop n word) (omega arith) ∙ sym (drop-drop i (suc j) word)

drop_drop : (i j : ℕ) (word : List ℕ) → drop i (drop j word) ≡ drop j (drop i word)
drop_drop i j word = drop-drop i j word ∙ ap (λ (n : ℕ). drop n word) (omega arith) ∙ sym (drop-drop j i word)

-- where a glob fits up to a star, what is left of both decides
pub cut_same : (glob name rest left : List ℕ) → IsCut glob name rest left → any_suffix (fits 0 glob) name ≡ any_suffix (fits 0 rest) left
cut_same glob name rest left cut = both_ways _ _ on back
  where
    on : any_suffix (fits 0 glob) name ≡ true → any_suffix (fits 0 rest) left ≡ true
    on is =
        let (k, there) = any_where (fits 0 glob) name is in
        let behind : any_suffix (fits 0 rest) (drop k left) ≡ true =
        subst (λ (l : List ℕ). any_suffix (fits 0 rest) l ≡ true) (drop_drop cut.count k name ∙ ap (drop k) (sym cut.cut)) (cut.on (drop k name) there) in
        any_later (fits 0 rest) k left behind

    back : any_suffix (fits 0 rest) left ≡ true → any_suffix (fits 0 glob) name ≡ true
    back is = any_here (fits 0 glob) name (cut.back is)

-- a name was read along a glob so far
pub record IsRead (glob name rest left : List ℕ) : Type 0 where
  pub count : ℕ
  pub cut : left ≡ drop count name
  pub shorter : length rest ≤ length glob
  pub within : length left ≤ length name
  pub back : fits 0 rest left ≡ true → fits 0 glob name ≡ true
  pub on : (word : List ℕ) → fits 0 glob word ≡ true → fits 0 rest (drop count word) ≡ true

one_behind : (stands : ℕ → Bool) (others : List ℕ → Bool) (word : List ℕ) → one_fits stands others word ≡ true → others (drop 1 word) ≡ true
one_behind stands others [] is = absurd (cc)
one_behind stands others (byte ∷ rest) is = ap others (drop_zero rest) ∙ (and_parts (stands byte) (others rest) is).1

-- a part more
pub read_more : (glob name : List ℕ) (first : ℕ) (behind : List ℕ) (byte : ℕ) (other : List ℕ) → (first ≡ 42 → ⊥) → stands_for first behind byte ≡ true
    → IsRead glob name (first ∷ behind) (byte ∷ other) → IsRead glob name (drop (part_len first behind) behind) other
read_more glob name first behind byte other unlike stands read = let plain = ne_eqb first 42 unlike in record {
  count = suc read.count;
  cut = sym (drop_zero other) ∙ ap (drop 1) read.cut ∙ drop_more 0 read.count name ∙ drop_zero (drop (suc read.count) name);
  shorter = omega (arith, read.shorter, length-drop (part_len first behind) behind);
  within = omega (arith, read.within);
  back = λ is. read.back (rw plain (rw stands (fits_skip (part_len first behind) behind other ∙ is)));
  on = λ word is. ap (fits 0 (drop (part_len first behind) behind)) (sym (drop_more 0 read.count word ∙ drop_zero (drop (suc read.count) word)))
      ∙ sym (fits_skip (part_len first behind) behind (drop 1 (drop read.count word))) ∙ one_behind (stands_for first behind) (fits (part_len first behind) behind) (drop read.count word) (rw plain at (read.on word is));
}

-- an item more of a set was passed
pub closes_first : (first : ℕ) (behind : List ℕ) (len : ℕ) → len ≡ item_len first behind → closing (first ∷ behind) ≡ closes_at (1 + len) 0 (take (length behind - len) (drop len behind))
closes_first first behind len is =
    closes_skip (item_len first behind) 1 behind ∙ ap (λ (n : ℕ). closes_at (1 + n) 0 (drop n behind)) (sym is) ∙ ap (closes_at (1 + len) 0) (sym (take_rest behind len))

pub closes_more : (passed first : ℕ) (behind : List ℕ) (len : ℕ) → (first ≡ 93 → ⊥) → len ≡ item_len first behind
    → closes_at passed 0 (first ∷ behind) ≡ closes_at (passed + (1 + len)) 0 (take (length behind - len) (drop len behind))
closes_more passed first behind len other is =
    rw (ne_eqb first 93 other) (closes_skip (item_len first behind) (passed + 1) behind ∙ ap (λ (n : ℕ). closes_at (passed + 1 + n) 0 (drop n behind)) (sym is)
    ∙ ap (λ (n : ℕ). closes_at n 0 (drop len behind)) (omega arith) ∙ ap (closes_at (passed + (1 + len)) 0) (sym (take_rest behind len)))

pub passed_first : (behind : List ℕ) (len : ℕ) → len ≤ length behind → 1 + len + length (take (length behind - len) (drop len behind)) ≡ 1 + length behind
passed_first behind len within = grind (arith, common_steps)
