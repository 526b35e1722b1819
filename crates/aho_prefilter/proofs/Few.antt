-- How what the builder keeps grows by one pattern.
use Rattle.std.proofs.Common.{◌≡◌, ℕ, Bool, true, false, cond, List, [], ◌∷◌, ◌++◌, refl, sym, ap, ◌∙◌}
use Rattle.std.specs.Prelude.{None as Nothing, ◌||◌}
use Rattle.std.specs.List.{flat_map, fold}
use Rattle.std.proofs.Math.Bool.{or-false}
use Rattle.std.proofs.lemmas.List.{append-nil}
use Rattle.std.proofs.lemmas.List.Concat.{flat_map-append}
use Rattle.std.proofs.lemmas.List.Folds.{list_any-append}
use Rattle.std.proofs.lemmas.List.Sums.{fold-append}
use Rattle.aho_core.specs.Patterns.{Patterns}
use Rattle.aho_prefilter.specs.FirstBytes.{begins_by, cases_of, first_bytes, has_byte, with_byte}
use Rattle.aho_prefilter.specs.Inside.{few, few_of, few_with, few_with_word, whole_of}
use Rattle.aho_prefilter.specs.Prefilter.{has_empty, is_empty, with_word}
use Rattle.aho_prefilter.specs.declared.prefilter.first_bytes.FirstBytes.{FirstBytes}
use Rattle.aho_prefilter.specs.declared.prefilter.first_bytes.FirstBytes.TheVariants.{None, Any}

-- few bytes, with one more
few-kept_or : (there : Bool) (bytes more : List ℕ) → few (cond there bytes more) ≡ cond there (few bytes) (few more)
few-kept_or true bytes more = refl
few-kept_or false bytes more = refl

any_either : (there : Bool) → cond there Any Any ≡ Any
any_either true = refl
any_either false = refl

few-with_byte : (bytes : List ℕ) (byte : ℕ) → few (with_byte bytes byte) ≡ few_with (few bytes) byte
unfolding with_byte
few-with_byte [] byte = refl
few-with_byte (x ∷ []) byte = few-kept_or (has_byte (x ∷ []) byte) (x ∷ []) (x ∷ byte ∷ [])
few-with_byte (x ∷ y ∷ []) byte = few-kept_or (has_byte (x ∷ y ∷ []) byte) (x ∷ y ∷ []) (x ∷ y ∷ byte ∷ [])
few-with_byte (x ∷ y ∷ z ∷ []) byte = few-kept_or (has_byte (x ∷ y ∷ z ∷ []) byte) (x ∷ y ∷ z ∷ []) (x ∷ y ∷ z ∷ byte ∷ [])
few-with_byte (x ∷ y ∷ z ∷ u ∷ more) byte =
    few-kept_or (has_byte (x ∷ y ∷ z ∷ u ∷ more) byte) (x ∷ y ∷ z ∷ u ∷ more) (x ∷ y ∷ z ∷ u ∷ more ++ byte ∷ [])
    ∙ any_either (has_byte (x ∷ y ∷ z ∷ u ∷ more) byte)

few-fold : (xs bytes : List ℕ) → few (fold with_byte bytes xs) ≡ fold few_with (few bytes) xs
few-fold [] bytes = refl
few-fold (x ∷ xs) bytes = few-fold xs (with_byte bytes x) ∙ ap (λ (first : FirstBytes). fold few_with first xs) (few-with_byte bytes x)

-- the first bytes of the patterns and one more
first_bytes-with_word : (p : Patterns) (word : List ℕ) → first_bytes (with_word p word) ≡ fold with_byte (first_bytes p) (begins_by p.ignore_case word)
unfolding first_bytes
first_bytes-with_word p word =
    ap (fold with_byte []) (flat_map-append (begins_by p.ignore_case) p.words (word ∷ []) ∙ ap (λ (xs : List ℕ). flat_map (begins_by p.ignore_case) p.words ++ xs) (append-nil (begins_by p.ignore_case word)))
    ∙ fold-append with_byte [] (flat_map (begins_by p.ignore_case) p.words) (begins_by p.ignore_case word)

or_true : (b : Bool) → (b || true) ≡ true
or_true true = refl
or_true false = refl

has_empty-with_word : (p : Patterns) (word : List ℕ) → has_empty (with_word p word) ≡ (has_empty p || is_empty word)
has_empty-with_word p word = list_any-append is_empty p.words (word ∷ []) ∙ ap (λ (b : Bool). has_empty p || b) (or-false (is_empty word))

any_cases : (ignore_case : Bool) (byte : ℕ) → fold few_with Any (cases_of ignore_case byte) ≡ Any
any_cases true byte = refl
any_cases false byte = refl

-- a word more, which is not empty
few-begins : (ignore_case empty : Bool) (bytes : List ℕ) (byte : ℕ) → cond empty Any (few (fold with_byte bytes (cases_of ignore_case byte))) ≡ fold few_with (cond empty Any (few bytes)) (cases_of ignore_case byte)
few-begins ignore_case true bytes byte = sym (any_cases ignore_case byte)
few-begins ignore_case false bytes byte = few-fold (cases_of ignore_case byte) bytes

pub few_of-with_word : (p : Patterns) (word : List ℕ) → few_of (with_word p word) ≡ few_with_word p.ignore_case (few_of p) word
few_of-with_word p [] = rw (has_empty-with_word p [], or_true (has_empty p)) refl
few_of-with_word p (byte ∷ word) =
    rw (has_empty-with_word p (byte ∷ word), or-false (has_empty p), first_bytes-with_word p (byte ∷ word))
    (few-begins p.ignore_case (has_empty p) (first_bytes p) byte)

-- no patterns yet
pub few_of-none : (p : Patterns) → p.words ≡ [] → few_of p ≡ None
unfolding first_bytes
few_of-none p none = rw none refl

pub whole_of-none : (p : Patterns) → p.words ≡ [] → whole_of p ≡ Nothing
whole_of-none p none = rw none refl
