-- The patterns of each shift are among those of their alphabet.
use Rattle.std.proofs.Common.{ℕ, zero, suc, ◌<◌, ◌≤◌, List, [], ◌∷◌, ◌++◌, refl, arith, map}
use Rattle.std.specs.Prelude.{Contains}
use Rattle.std.specs.List.{range_with_len}
use Rattle.std.proofs.lemmas.List.Elements.{Contains-append_left, Contains-append_right}
use Rattle.std.proofs.lemmas.List.FromFn.{length-map-range_with_len, get_or-map-range_with_len}
use Rattle.base64.specs.declared.engine.general_purpose.GeneralPurpose.{GeneralPurpose}
use Rattle.secret_forms.specs.Base64.{rest_of, values_ahead, values_behind, core_of, with_ahead, with_behind, all_ahead, all_behind, shift_patterns, alphabet_patterns}
use Rattle.secret_forms.proofs.Base64Law.{HasShifts}

-- a row of patterns has that of each value
in_row : (f : ℕ → List ℕ) (n i : ℕ) → i < n → Contains (map f (range_with_len 0 n)) (f i)
in_row f n i h = (i, rw (length-map-range_with_len f 0 n) h, get_or-map-range_with_len f 0 n i i (f i) h (omega arith))

core_in : (e : GeneralPurpose) (s : List ℕ) (k : ℕ) → Contains (shift_patterns e s k) (core_of e s k)
unfolding shift_patterns
core_in e s k = Contains-append_left (core_of e s k ∷ []) (all_ahead e s k ++ all_behind e s k) (core_of e s k) (0, omega arith, refl)

ahead_in : (e : GeneralPurpose) (s : List ℕ) (k i : ℕ) → i < values_ahead k → Contains (shift_patterns e s k) (with_ahead e s k i)
unfolding shift_patterns
ahead_in e s k i h =
    let row = in_row (with_ahead e s k) (values_ahead k) i h in
    let both = Contains-append_left (all_ahead e s k) (all_behind e s k) (with_ahead e s k i) row in
    Contains-append_right (core_of e s k ∷ []) (all_ahead e s k ++ all_behind e s k) (with_ahead e s k i) both

behind_in : (e : GeneralPurpose) (s : List ℕ) (k i : ℕ) → i < values_behind (rest_of k s) → Contains (shift_patterns e s k) (with_behind e s k i)
unfolding shift_patterns
behind_in e s k i h =
    let row = in_row (with_behind e s k) (values_behind (rest_of k s)) i h in
    let both = Contains-append_right (all_ahead e s k) (all_behind e s k) (with_behind e s k i) row in
    Contains-append_right (core_of e s k ∷ []) (all_ahead e s k ++ all_behind e s k) (with_behind e s k i) both

in_alphabet : (e : GeneralPurpose) (s x : List ℕ) (k : ℕ) → k ≤ 2 → Contains (shift_patterns e s k) x → Contains (alphabet_patterns e s) x
in_alphabet e s x zero small held = Contains-append_left (shift_patterns e s 0) (shift_patterns e s 1 ++ shift_patterns e s 2) x held
in_alphabet e s x (suc zero) small held =
    Contains-append_right (shift_patterns e s 0) (shift_patterns e s 1 ++ shift_patterns e s 2) x
    (Contains-append_left (shift_patterns e s 1) (shift_patterns e s 2) x held)
in_alphabet e s x (suc (suc zero)) small held =
    Contains-append_right (shift_patterns e s 0) (shift_patterns e s 1 ++ shift_patterns e s 2) x
    (Contains-append_right (shift_patterns e s 1) (shift_patterns e s 2) x held)
in_alphabet e s x (suc (suc (suc k))) small held = absurd (omega (arith, small))

-- patterns that hold an alphabet's have each shift
pub HasShifts-alphabet : (patterns : List (List ℕ)) (e : GeneralPurpose) (s : List ℕ)
    → ((x : List ℕ) → Contains (alphabet_patterns e s) x → Contains patterns x) → HasShifts patterns e s
HasShifts-alphabet patterns e s more = record {
  core = more _ (in_alphabet e s (core_of e s 0) 0 (omega arith) (core_in e s 0));
  ahead = λ k i some small h. more _ (in_alphabet e s (with_ahead e s k i) k small (ahead_in e s k i h));
  behind = λ k i small h. more _ (in_alphabet e s (with_behind e s k i) k small (behind_in e s k i h));
}
