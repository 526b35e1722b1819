-- Names as they stand in messages, byte after byte, and messages part after part.
use Rattle.std.proofs.Common.{◌≡◌, ℕ, ◌-◌, ◌≤◌, Bool, true, false, List, [], ◌∷◌, ◌++◌, length, take, drop, refl, sym, ap, ◌∙◌, append-nil, append_assoc, arith}
use Rattle.std.specs.Prelude.{◌/◌, ◌%◌, if◌then◌else◌, codes, slice_index}
use Rattle.std.proofs.lemmas.List.{take_rest}
use Rattle.rule_files.specs.Messages.{upper_hex, shown_byte, is_unshown, as_shown}

-- one byte more
pub shown_next : (all done rest : List ℕ) → 1 ≤ length rest → all ≡ done ++ as_shown rest → all ≡ (done ++ shown_byte (slice_index rest 0)) ++ as_shown (take (length rest - 1) (drop 1 rest))
shown_next all done [] some is = absurd (omega (arith, some))
shown_next all done (b ∷ rest) some is =
    is ∙ sym (append_assoc done (shown_byte b) (as_shown rest)) ∙ ap (λ l. (done ++ shown_byte b) ++ as_shown l) (sym (take_rest (b ∷ rest) 1))

-- a byte that is none is as_shown as it is
plain_byte : (byte : ℕ) → is_unshown byte ≡ false → shown_byte byte ≡ byte ∷ []
plain_byte byte none = by (codes "\\x" ++ (upper_hex (byte / 16) ∷ upper_hex (byte % 16) ∷ [])) (is_unshown byte) none
  where
    by : (escape : List ℕ) (control : Bool) → control ≡ false → (if control then escape else byte ∷ []) ≡ byte ∷ []
    by escape true is = let clash : true ≡ false = is in absurd (cc)
    by escape false is = refl

pub plain_next : (all name done rest : List ℕ) → 1 ≤ length rest → (name ≡ done ++ rest) × (all ≡ done ++ as_shown rest) → is_unshown (slice_index rest 0) ≡ false
    → (name ≡ (done ++ (slice_index rest 0 ∷ [])) ++ take (length rest - 1) (drop 1 rest)) × (all ≡ (done ++ (slice_index rest 0 ∷ [])) ++ as_shown (take (length rest - 1) (drop 1 rest)))
plain_next all name done [] some both none = absurd (omega (arith, some))
plain_next all name done (b ∷ rest) some (is, shows) none = (
  is ∙ sym (append_assoc done (b ∷ []) rest) ∙ ap (λ l. (done ++ (b ∷ [])) ++ l) (sym (take_rest (b ∷ rest) 1)),
  shows ∙ ap (λ l. done ++ (l ++ as_shown rest)) (plain_byte b none) ∙ sym (append_assoc done (b ∷ []) (as_shown rest)) ∙ ap (λ l. (done ++ (b ∷ [])) ++ as_shown l) (sym (take_rest (b ∷ rest) 1)),
)

-- a message that is written in five parts
pub five_parts : (p s n c l cause end : List ℕ) → (((((p ++ (s ++ [])) ++ n) ++ (c ++ [])) ++ l) ++ (cause ++ (end ++ []))) ≡ (p ++ (s ++ ((n ++ c) ++ l))) ++ (cause ++ end)
five_parts p s n c l cause end =
    ap (λ x. ((((p ++ x) ++ n) ++ (c ++ [])) ++ l) ++ (cause ++ (end ++ []))) (append-nil s)
    ∙ ap (λ x. ((((p ++ s) ++ n) ++ x) ++ l) ++ (cause ++ (end ++ []))) (append-nil c)
    ∙ ap (λ x. ((((p ++ s) ++ n) ++ c) ++ l) ++ (cause ++ x)) (append-nil end)
    ∙ ap (λ x. x ++ (cause ++ end))
    (append_assoc ((p ++ s) ++ n) c l ∙ append_assoc (p ++ s) n (c ++ l) ∙ append_assoc p s (n ++ (c ++ l)) ∙ ap (λ x. p ++ (s ++ x)) (sym (append_assoc n c l)))

-- and one that is written in seven
pub seven_parts : (p s f r n c why end : List ℕ)
    → (((((((p ++ (s ++ [])) ++ f) ++ (r ++ [])) ++ n) ++ (c ++ [])) ++ why) ++ (end ++ [])) ≡ p ++ (s ++ (f ++ (r ++ (n ++ (c ++ (why ++ end))))))
seven_parts p s f r n c why end =
    ap (λ x. ((((((p ++ x) ++ f) ++ (r ++ [])) ++ n) ++ (c ++ [])) ++ why) ++ (end ++ [])) (append-nil s)
    ∙ ap (λ x. ((((((p ++ s) ++ f) ++ x) ++ n) ++ (c ++ [])) ++ why) ++ (end ++ [])) (append-nil r)
    ∙ ap (λ x. ((((((p ++ s) ++ f) ++ r) ++ n) ++ x) ++ why) ++ (end ++ [])) (append-nil c)
    ∙ ap (λ x. ((((((p ++ s) ++ f) ++ r) ++ n) ++ c) ++ why) ++ x) (append-nil end)
    ∙ append_assoc (((((p ++ s) ++ f) ++ r) ++ n) ++ c) why end
    ∙ append_assoc ((((p ++ s) ++ f) ++ r) ++ n) c (why ++ end)
    ∙ append_assoc (((p ++ s) ++ f) ++ r) n (c ++ (why ++ end))
    ∙ append_assoc ((p ++ s) ++ f) r (n ++ (c ++ (why ++ end)))
    ∙ append_assoc (p ++ s) f (r ++ (n ++ (c ++ (why ++ end))))
    ∙ append_assoc p s (f ++ (r ++ (n ++ (c ++ (why ++ end)))))
