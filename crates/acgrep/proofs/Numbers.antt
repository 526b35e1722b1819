-- What `parse` says of digits, by what they mean.
use Rattle.acgrep.proofs.Common.{and_from, and_parts, cases_Bool, get_or, lt-ltb, ltb-true}
use Rattle.std.proofs.Common.{◌<◌, ◌^◌, ◌≡◌, List, None, Some, ap, inl, inr, length, refl, true, ℕ}
use Rattle.std.proofs.lemmas.Fmt.{IsAscii-from_digits}
use Rattle.std.proofs.lemmas.Str.{IsUtf8-from_ascii}
use Rattle.std.proofs.lemmas.Str.Parse.{IsNumeralModel, numerals_by_value, parse_plain, tells_all_ascii_digits}
use Rattle.std.specs.Prelude.{◌≢◌, Err, Ok, nat_lt, ⊤}
use Rattle.std.specs.Str.{IsUtf8, all_ascii_digits}
use Rattle.std.specs.Str.Parse.{ParsesUnsigned, digits_value}
use Rattle.acgrep.specs.Arguments.{is_number, number_by}

numerals : IsNumeralModel (λ ds. all_ascii_digits ds ≡ true) (digits_value 10)
numerals = numerals_by_value (λ ds. all_ascii_digits ds ≡ true) tells_all_ascii_digits

-- what the test says
is_number_parts : (ds : List ℕ) → is_number ds ≡ true → (all_ascii_digits ds ≡ true) × (0 < length ds) × (digits_value 10 ds < 2 ^ 64)
is_number_parts ds is =
    let all = and_parts _ _ is in
    let range = and_parts _ _ all.1 in
    (all.0, ltb-true 0 (length ds) range.0, ltb-true (digits_value 10 ds) (2 ^ 64) range.1)

is_number_from : (ds : List ℕ) → all_ascii_digits ds ≡ true → 0 < length ds → digits_value 10 ds < 2 ^ 64 → is_number ds ≡ true
is_number_from ds digits some low =
    and_from (all_ascii_digits ds) _ digits (and_from (nat_lt 0 (length ds)) _ (lt-ltb 0 (length ds) some) (lt-ltb (digits_value 10 ds) (2 ^ 64) low))

-- what is read is the number
pub number_read : (ds : List ℕ) (n : ℕ) → ParsesUnsigned {E = ⊤} 64 10 ds (Ok n) → get_or ds 0 0 ≢ 43 → Some n ≡ number_by ds
number_read ds n read plain =
    let is = parse_plain numerals {E = ⊤} 64 ds (Ok n) read plain in
    rw (is_number_from ds is.0.0 is.0.1 is.0.2) (ap Some is.1)

-- and what is refused is none
pub number_refused : {E : Type 0} (ds : List ℕ) (e : E) → ParsesUnsigned 64 10 ds (Err e) → get_or ds 0 0 ≢ 43 → None ≡ number_by ds
number_refused ds e refused plain =
    elim (cases_Bool (is_number ds)) [
      | inl is ↦ absurd (parse_plain numerals 64 ds (Err e) refused plain (is_number_parts ds is))
      | inr not ↦ rw not refl
    ]

-- bytes that are not UTF-8 write none
pub number_lacking : (ds : List ℕ) → (IsUtf8 ds → ⊥) → None ≡ number_by ds
number_lacking ds lacks =
    elim (cases_Bool (is_number ds)) [
      | inl is ↦ absurd (lacks (IsUtf8-from_ascii ds (IsAscii-from_digits ds (numerals.to ds (is_number_parts ds is).0))))
      | inr not ↦ rw not refl
    ]
