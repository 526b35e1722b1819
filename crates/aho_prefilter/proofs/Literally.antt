-- The first bytes, said literally: the bytes that are the same as the first one of a pattern, each once.
use Rattle.std.proofs.Common.{◌≡◌, ◌≢◌, ℕ, ◌+◌, ◌<◌, zero, suc, inl, inr, Bool, true, false, cond, List, [], ◌∷◌, ◌++◌, length, refl, sym, ap, ◌∙◌, arith, length-append}
use Rattle.std.specs.Prelude.{◌⊎◌, ◌↔◌, slice_index, slice_index_or}
use Rattle.std.specs.List.{Contains, flat_map, fold}
use Rattle.std.proofs.lemmas.Bool.{cases_lt}
use Rattle.std.proofs.lemmas.Bool.Decides.{nat_tests}
use Rattle.std.proofs.Math.Seq.{get_or-append_seam}
use Rattle.std.proofs.lemmas.List.{get_or_append_left}
use Rattle.std.proofs.lemmas.List.Elements.{Contains-append_cases}
use Rattle.aho_core.specs.Bytes.{folded_by, opposite}
use Rattle.aho_core.specs.Patterns.{Patterns, pattern_at}
use Rattle.aho_prefilter.specs.FirstBytes.{IsFirstOf, begins_by, cases_of, first_bytes, has_byte, with_byte}
use Rattle.aho_prefilter.proofs.Held.{cases_of-has, first_bytes-has}

-- the byte and its other case are the same
opposite-folded : (x : ℕ) → folded_by true x ≡ folded_by true (opposite x)
opposite-folded x = grind (arith, nat_tests)

cases_of-only : (ignore_case : Bool) (x byte : ℕ) → Contains (cases_of ignore_case x) byte → folded_by ignore_case x ≡ folded_by ignore_case byte
cases_of-only false x byte (zero, below, e) = e
cases_of-only false x byte (suc k, below, e) = absurd (omega arith)
cases_of-only true x byte (zero, below, e) = ap (folded_by true) e
cases_of-only true x byte (suc zero, below, e) = opposite-folded x ∙ ap (folded_by true) e
cases_of-only true x byte (suc (suc k), below, e) = absurd (omega arith)

-- a byte that was added was there or is the new one
with_byte-only : (bytes : List ℕ) (byte other : ℕ) → Contains (with_byte bytes byte) other → Contains bytes other ⊎ (byte ≡ other)
unfolding with_byte
with_byte-only bytes byte other has = by_test (has_byte bytes byte) has
  where
    last : (x y : ℕ) → Contains (x ∷ []) y → x ≡ y
    last x y (zero, below, e) = e
    last x y (suc k, below, e) = absurd (omega arith)

    by_test : (there : Bool) → Contains (cond there bytes (bytes ++ byte ∷ [])) other → Contains bytes other ⊎ (byte ≡ other)
    by_test true is = inl is
    by_test false is = elim (Contains-append_cases bytes (byte ∷ []) other is) [ inl old ↦ inl old | inr new ↦ inr (last byte other new) ]

fold-only : (xs bytes : List ℕ) (byte : ℕ) → Contains (fold with_byte bytes xs) byte → Contains bytes byte ⊎ Contains xs byte
fold-only [] bytes byte has = inl has
fold-only (x ∷ xs) bytes byte has =
    elim (fold-only xs (with_byte bytes x) byte has) [
      | inl there ↦ elim (with_byte-only bytes x byte there) [ inl old ↦ inl old | inr new ↦ inr (0, omega arith, new) ]
      | inr (k, below, e) ↦ inr (suc k, omega arith, e)
    ]

-- a byte of some word's, by its number
flat_map-only : (f : List ℕ → List ℕ) (words : List (List ℕ)) (byte : ℕ) → Contains (flat_map f words) byte → (k : ℕ) × (k < length words) × Contains (f (slice_index_or words k [])) byte
flat_map-only f [] byte (k, below, e) = absurd (omega arith)
flat_map-only f (word ∷ words) byte has =
    elim (Contains-append_cases (f word) (flat_map f words) byte has) [
      | inl first ↦ (0, omega arith, first)
      | inr rest ↦ let later = flat_map-only f words byte rest in (suc later.0, omega (arith, later.1), later.2)
    ]

begins_by-only : (ignore_case : Bool) (word : List ℕ) (byte : ℕ) → Contains (begins_by ignore_case word) byte → (0 < length word) × (folded_by ignore_case (slice_index word 0) ≡ folded_by ignore_case byte)
begins_by-only ignore_case [] byte (k, below, e) = absurd (omega arith)
begins_by-only ignore_case (x ∷ word) byte has = (omega arith, cases_of-only ignore_case x byte has)

begins_by-has : (ignore_case : Bool) (word : List ℕ) (byte : ℕ) → 0 < length word → folded_by ignore_case (slice_index word 0) ≡ folded_by ignore_case byte → Contains (begins_by ignore_case word) byte
begins_by-has ignore_case [] byte some same = absurd (omega arith)
begins_by-has ignore_case (x ∷ word) byte some same = cases_of-has ignore_case x byte same

first_bytes-only : (p : Patterns) (byte : ℕ) → Contains (first_bytes p) byte → IsFirstOf p byte
unfolding first_bytes
first_bytes-only p byte has =
    elim (fold-only (flat_map (begins_by p.ignore_case) p.words) [] byte has) [
      | inl (k, below, e) ↦ absurd (omega arith)
      | inr there ↦
          let of = flat_map-only (begins_by p.ignore_case) p.words byte there in
          let begins = begins_by-only p.ignore_case (pattern_at p of.0) byte of.2 in
          record { number = of.0; numbered = of.1; some = begins.0; same = begins.1 }
    ]

pub first_bytes-members : (p : Patterns) (byte : ℕ) → (Contains (first_bytes p) byte ↔ IsFirstOf p byte)
first_bytes-members p byte = (
  first_bytes-only p byte,
  λ is. first_bytes-has p is.number byte is.numbered (begins_by-has p.ignore_case (pattern_at p is.number) byte is.some is.same),
)

-- each once
abbrev AreDifferent : List ℕ → Type 0
AreDifferent bytes = (i j : ℕ) → i < j → j < length bytes → slice_index bytes i ≢ slice_index bytes j

not_there : (bytes : List ℕ) (byte : ℕ) → has_byte bytes byte ≡ false → (i : ℕ) → i < length bytes → slice_index bytes i ≢ byte
not_there [] byte none i below = absurd (omega arith)
not_there (x ∷ bytes) byte none zero below = λ same. first x bytes byte none same
  where
    first : (x : ℕ) (bytes : List ℕ) (byte : ℕ) → has_byte (x ∷ bytes) byte ≡ false → x ≡ byte → ⊥
    first x bytes byte none same = grind (arith, nat_tests)
not_there (x ∷ bytes) byte none (suc i) below = not_there bytes byte (rest x bytes byte none) i (omega arith)
  where
    rest : (x : ℕ) (bytes : List ℕ) (byte : ℕ) → has_byte (x ∷ bytes) byte ≡ false → has_byte bytes byte ≡ false
    rest x bytes byte none = grind (arith, nat_tests)

with_byte-different : (bytes : List ℕ) (byte : ℕ) → AreDifferent bytes → AreDifferent (with_byte bytes byte)
unfolding with_byte
with_byte-different bytes byte are = by_test (has_byte bytes byte) refl
  where
    by_test : (there : Bool) → has_byte bytes byte ≡ there → AreDifferent (cond there bytes (bytes ++ byte ∷ []))
    by_test true is = λ i j less below. are i j less below
    by_test false is = λ i j less below.
        let long : length (bytes ++ byte ∷ []) ≡ length bytes + 1 = length-append bytes (byte ∷ []) in
        let old : slice_index (bytes ++ byte ∷ []) i ≡ slice_index bytes i = get_or_append_left bytes (byte ∷ []) 0 i (omega arith) in
        elim (cases_lt j (length bytes)) [
          | inl inside ↦ λ same. are i j less inside (sym old ∙ same ∙ get_or_append_left bytes (byte ∷ []) 0 j inside)
          | inr last ↦
              let end : j ≡ length bytes = omega arith in
              λ same. not_there bytes byte is i (omega arith) (sym old ∙ same ∙ ap (slice_index (bytes ++ byte ∷ [])) end ∙ get_or-append_seam bytes byte [] 0)
        ]

fold-different : (xs bytes : List ℕ) → AreDifferent bytes → AreDifferent (fold with_byte bytes xs)
fold-different [] bytes are = are
fold-different (x ∷ xs) bytes are = fold-different xs (with_byte bytes x) (with_byte-different bytes x are)

pub first_bytes-once : (p : Patterns) (i j : ℕ) → i < j → j < length (first_bytes p) → slice_index (first_bytes p) i ≢ slice_index (first_bytes p) j
unfolding first_bytes
first_bytes-once p = fold-different (flat_map (begins_by p.ignore_case) p.words) [] (λ i j less below. absurd (omega arith))
