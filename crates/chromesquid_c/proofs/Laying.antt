-- Patterns one behind the other: where they end, and that they fit.
use Rattle.std.proofs.Common.{◌≡◌, ◌∙◌, ◌+◌, ◌≤◌, ◌<◌, ℕ, suc, List, [], ◌∷◌, ◌++◌, length, drop, take, get_or, subst, refl, sym, ap, length-append, arith}
use Rattle.std.specs.List.{concat}
use Rattle.std.proofs.lemmas.List.Folds.{concat-append}
use Rattle.std.proofs.lemmas.List.{append-nil}
use Rattle.std.specs.Prelude.{All, Vec}
use Rattle.std.proofs.lemmas.List.{map-append, take_more}
use Rattle.secret_forms.specs.Forms.{HidesForm, forms_patterns}
use Rattle.secret_forms.specs.Patterns.{added_all, pattern_bytes}
use Rattle.secret_forms.specs.declared.form.Form.{Form}
use Rattle.chromesquid_c.specs.Matches.{written_over}
use Rattle.chromesquid_c.specs.SecretForms.{ends_from, ends_of, forms_in, patterns_by_bits}
use Rattle.chromesquid_c.proofs.Written.{written-fits}

-- there are as many ends as patterns
pub length-ends : (at : ℕ) (patterns : List (List ℕ)) → length (ends_from at patterns) ≡ length patterns
length-ends at [] = refl
length-ends at (pattern ∷ patterns) = ap (λ (n : ℕ). suc n) (length-ends (at + length pattern) patterns)

-- one more ends where all end
ends-more : (at : ℕ) (patterns : List (List ℕ)) (pattern : List ℕ)
    → ends_from at (patterns ++ pattern ∷ []) ≡ ends_from at patterns ++ (at + length (concat (patterns ++ pattern ∷ []))) ∷ []
ends-more at [] pattern = ap (λ (n : ℕ). n ∷ []) (omega (arith, length-append pattern []))
ends-more at (first ∷ patterns) pattern =
    ap (λ (l : List ℕ). (at + length first) ∷ l)
    (ends-more (at + length first) patterns pattern
    ∙ ap (λ (n : ℕ). ends_from (at + length first) patterns ++ n ∷ []) (omega (arith, length-append first (concat (patterns ++ pattern ∷ [])))))

-- the bytes with one more pattern behind them
pub laid-more : (patterns : List (List ℕ)) (pattern bytes bytes' : List ℕ) → bytes ≡ concat patterns → bytes' ≡ bytes ++ pattern → bytes' ≡ concat (patterns ++ pattern ∷ [])
laid-more patterns pattern bytes bytes' was now = now ∙ ap (λ (l : List ℕ). l ++ pattern) was ∙ sym (concat-append patterns (pattern ∷ []) ∙ ap (λ (l : List ℕ). concat patterns ++ l) (append-nil pattern))

-- and the ends with its own
pub ends-laid-more : (patterns : List (List ℕ)) (pattern ends ends' : List ℕ) (end : ℕ) → ends ≡ ends_of patterns → end ≡ length (concat (patterns ++ pattern ∷ []))
    → ends' ≡ ends ++ end ∷ [] → ends' ≡ ends_of (patterns ++ pattern ∷ [])
ends-laid-more patterns pattern ends ends' end was place now =
    let here : end ≡ 0 + length (concat (patterns ++ pattern ∷ [])) = omega (arith, place) in
    now ∙ ap (λ (l : List ℕ). l ++ end ∷ []) was ∙ ap (λ (n : ℕ). ends_from 0 patterns ++ n ∷ []) here ∙ sym (ends-more 0 patterns pattern)

-- what fits was copied before the rest of the room
pub put-fits : (room items copied : List ℕ) (count : ℕ) → copied ≡ items → count ≡ length items → count ≤ length room → copied ++ drop count room ≡ written_over room items
put-fits room items copied count same counted fits = rw same (rw counted (written-fits room items (omega (arith, counted, fits))))

-- one more pattern was taken
pub taken-more : {Z : Type 0} (patterns : List (Vec ℕ Z)) (i : ℕ) (d one : Vec ℕ Z) → i < length patterns → one ≡ get_or patterns i d
    → pattern_bytes (take (i + 1) patterns) ≡ pattern_bytes (take i patterns) ++ one.items ∷ []
taken-more {Z} patterns i d one inside is =
    ap (λ (l : List (Vec ℕ Z)). pattern_bytes l) (take_more patterns i d inside)
    ∙ map-append (λ (m : Vec ℕ Z). m.items) (take i patterns) (get_or patterns i d ∷ [])
    ∙ ap (λ (m : Vec ℕ Z). pattern_bytes (take i patterns) ++ m.items ∷ []) (sym is)

-- what hides the forms in a list hides those of the bits
pub law-in : (bits : ℕ) (secret : List ℕ) (listed : List Form) (made : List (List ℕ)) → listed ≡ forms_in bits → made ≡ added_all [] (forms_patterns listed secret)
    → All (HidesForm made secret) listed → All (HidesForm (patterns_by_bits bits secret) secret) (forms_in bits)
law-in bits secret listed made set value law =
    subst (λ (l : List Form). All (HidesForm (added_all [] (forms_patterns l secret)) secret) l) set
    (subst (λ (ps : List (List ℕ)). All (HidesForm ps secret) listed) value law)
