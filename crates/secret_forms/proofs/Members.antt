-- What lists of patterns hold.
use Rattle.std.proofs.Common.{◌≡◌, ℕ, zero, suc, ◌+◌, ◌<◌, Bool, true, false, cond, List, [], ◌∷◌, ◌++◌, length, get_or, refl, sym, ap, ◌∙◌, subst, arith, map, Vec}
use Rattle.std.specs.Prelude.{Contains, OnOk, Result, Ok, Err}
use Rattle.std.specs.List.{list_any}
use Rattle.std.specs.Str.{bytes_eq}
use Rattle.std.proofs.lemmas.Bool.Decides.{Decides-eqb}
use Rattle.std.proofs.lemmas.Slice.Eq.{slice_eq-Decides}
use Rattle.std.proofs.lemmas.List.Folds.{Any-from_list_any}
use Rattle.std.proofs.lemmas.List.Elements.{Contains-append_left, Contains-push}
use Rattle.std.specs.List.{range_with_len}
use Rattle.std.proofs.lemmas.List.{map-append}
use Rattle.std.proofs.lemmas.List.FromFn.{map-range_with_len_more}
use Rattle.std.proofs.lemmas.List.Sums.{fold-append}
use Rattle.secret_forms.specs.Patterns.{is_pattern_of, added, added_all, pattern_bytes}

-- who is found is there
Contains-found : (ps : List (List ℕ)) (p : List ℕ) → is_pattern_of ps p ≡ true → Contains ps p
Contains-found ps p found =
    let some = Any-from_list_any (λ q. bytes_eq q p) ps found in
    let same : some.1 ≡ p = (slice_eq-Decides Decides-eqb some.1 p _ refl).0 some.4 in
    subst (Contains ps) same (some.0, some.2, some.3)

-- a pattern that is added is there
pub Contains-added_new : (ps : List (List ℕ)) (p : List ℕ) → Contains (added ps p) p
unfolding added
Contains-added_new ps p = by_test (is_pattern_of ps p) refl where
  by_test : (b : Bool) → is_pattern_of ps p ≡ b → Contains (cond b ps (ps ++ p ∷ [])) p
  by_test true found = Contains-found ps p found
  by_test false found = Contains-push ps p

-- what was there stays
pub Contains-added_old : (ps : List (List ℕ)) (p x : List ℕ) → Contains ps x → Contains (added ps p) x
unfolding added
Contains-added_old ps p x held = by_test (is_pattern_of ps p) where
  by_test : (b : Bool) → Contains (cond b ps (ps ++ p ∷ [])) x
  by_test true = held
  by_test false = Contains-append_left ps (p ∷ []) x held

pub Contains-added_all_old : (more ps : List (List ℕ)) (x : List ℕ) → Contains ps x → Contains (added_all ps more) x
Contains-added_all_old [] ps x held = held
Contains-added_all_old (p ∷ more) ps x held = Contains-added_all_old more (added ps p) x (Contains-added_old ps p x held)

added_all_at : (more ps : List (List ℕ)) (x : List ℕ) (k : ℕ) → k < length more → get_or more k x ≡ x → Contains (added_all ps more) x
added_all_at [] ps x k below at = absurd (omega (arith, below))
added_all_at (p ∷ more) ps x zero below at = Contains-added_all_old more (added ps p) x (subst (Contains (added ps p)) at (Contains-added_new ps p))
added_all_at (p ∷ more) ps x (suc k) below at = added_all_at more (added ps p) x k (omega (arith, below)) at

-- of the others each is there
pub Contains-added_all_new : (more ps : List (List ℕ)) (x : List ℕ) → Contains more x → Contains (added_all ps more) x
Contains-added_all_new more ps x held = added_all_at more ps x held.0 held.1 held.2

-- a test of the bytes of each pattern
any_of_bytes : {Z : Type 0} (p : List ℕ) (vs : List (Vec ℕ Z)) → list_any (λ v. bytes_eq v.items p) vs ≡ is_pattern_of (pattern_bytes vs) p
any_of_bytes p [] = refl
any_of_bytes p (v ∷ vs) = rw (any_of_bytes p vs) refl

-- a pattern that is found is not added
pub pushed_held : {Z : Type 0} (vs seen : List (Vec ℕ Z)) (p given : List ℕ) (r : Bool) → seen ≡ vs → given ≡ p
    → r ≡ list_any (λ v. bytes_eq v.items given) seen → r ≡ true → pattern_bytes vs ≡ added (pattern_bytes vs) p
unfolding added
pushed_held vs seen p given r es eg is found =
    let t : is_pattern_of (pattern_bytes vs) p ≡ true = sym (any_of_bytes p vs) ∙ sym (rw (es, eg) at is) ∙ found in
    rw t refl

-- a pattern that is not found stands behind the others
pub pushed_fresh : {Z : Type 0} (vs seen new : List (Vec ℕ Z)) (v : Vec ℕ Z) (given : List ℕ) (r : Bool) → seen ≡ vs → given ≡ v.items
    → r ≡ list_any (λ u. bytes_eq u.items given) seen → r ≡ false → new ≡ vs ++ v ∷ [] → pattern_bytes new ≡ added (pattern_bytes vs) v.items
unfolding added
pushed_fresh vs seen new v given r es eg is lacks en =
    let t : is_pattern_of (pattern_bytes vs) v.items ≡ false = sym (any_of_bytes v.items vs) ∙ sym (rw (es, eg) at is) ∙ lacks in
    rw (t, en) (map-append (λ u. u.items) vs (v ∷ []))

-- one pattern more of a row
pub added_all_more : (f : ℕ → List ℕ) (ps : List (List ℕ)) (n : ℕ) (old new : List (List ℕ))
    → old ≡ added_all ps (map f (range_with_len 0 n)) → new ≡ added old (f n) → new ≡ added_all ps (map f (range_with_len 0 (n + 1)))
added_all_more f ps n old new eo en =
    let row = map f (range_with_len 0 n) in
    let more : map f (range_with_len 0 (n + 1)) ≡ row ++ f n ∷ [] = map-range_with_len_more f 0 n n (omega arith) in
    en ∙ ap (λ (o : List (List ℕ)). added o (f n)) eo ∙ sym (ap (added_all ps) more ∙ fold-append added ps row (f n ∷ []))

-- some patterns and then others
pub added_all_both : (ps one two xs ys : List (List ℕ)) → one ≡ added_all ps xs → two ≡ added_all one ys → two ≡ added_all ps (xs ++ ys)
added_all_both ps one two xs ys e1 e2 = e2 ∙ ap (λ (o : List (List ℕ)). added_all o ys) e1 ∙ sym (fold-append added ps xs ys)

-- what holds of an `Ok`
pub OnOk-then : {T E : Type 0} (r : Result T E) (P Q : Type 0) → (P → Q) → OnOk r P → OnOk r Q
OnOk-then (Ok x) P Q then holds = then holds
OnOk-then (Err e) P Q then holds = tt
