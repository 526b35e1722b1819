-- Each byte is two digits of its own: the digits of a secret stand together wherever it stands.
use Rattle.std.proofs.Common.{◌≡◌, ℕ, List, [], ◌∷◌, ◌++◌, refl, ap, ◌∙◌, arith}
use Rattle.std.specs.Prelude.{Contains}
use Rattle.hex.specs.Hex.{encode_with}
use Rattle.hex.proofs.HexLemmas.{length-encode_with}
use Rattle.secret_forms.specs.Law.{HidesBits, IsHidden}
use Rattle.secret_forms.proofs.Hiding.{IsHidden-within}

encode_with-append : (t xs ys : List ℕ) → encode_with t (xs ++ ys) ≡ encode_with t xs ++ encode_with t ys
unfolding encode_with
encode_with-append t [] ys = refl
encode_with-append t (x ∷ xs) ys = rw (encode_with-append t xs ys) refl

pub HidesBits-hex : (t : List ℕ) (patterns : List (List ℕ)) (secret : List ℕ) → Contains patterns (encode_with t secret)
    → HidesBits 4 (encode_with t) patterns secret
HidesBits-hex t patterns secret held before after ahead behind place bytes holds =
    let lb = length-encode_with t before in
    let ls = length-encode_with t secret in
    let whole : encode_with t (before ++ (secret ++ after)) ≡ encode_with t before ++ (encode_with t secret ++ encode_with t after) =
    encode_with-append t before (secret ++ after) ∙ ap (λ (r : List ℕ). encode_with t before ++ r) (encode_with-append t secret after) in
    let inner : IsHidden patterns (encode_with t (before ++ (secret ++ after))) place = record {
      pattern = encode_with t secret;
      ahead = encode_with t before;
      behind = encode_with t after;
      listed = held;
      occurs = whole;
      after_start = rw lb (omega (arith, holds.after_start));
      before_end = rw (lb, ls) (omega (arith, holds.before_end));
    } in
    IsHidden-within patterns (encode_with t (before ++ (secret ++ after))) ahead behind place inner
