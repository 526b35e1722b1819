-- Which bytes the first bytes are, and that what is held is a prefilter of the patterns.
use Rattle.std.proofs.Common.{◌≡◌, ℕ, ◌<◌, zero, suc, inl, inr, Bool, true, false, cond, List, [], ◌∷◌, ◌++◌, length, refl, sym, subst, ◌∙◌, arith, length-append}
use Rattle.std.specs.Prelude.{Some, None as Nothing, ◌&&◌, not, nat_eq, if◌then◌else◌, slice_index, slice_index_or}
use Rattle.std.specs.List.{Contains, flat_map, fold}
use Rattle.std.proofs.lemmas.Bool.{cases_eq, cases_lt}
use Rattle.std.proofs.lemmas.Bool.Decides.{nat_tests}
use Rattle.std.proofs.lemmas.List.Elements.{Contains-append_left, Contains-append_right, Contains-push}
use Rattle.std.proofs.lemmas.List.Folds.{list_any_at}
use Rattle.aho_core.specs.declared.search.MatchKind.{MatchKind}
use Rattle.aho_core.specs.Bytes.{folded_by, opposite}
use Rattle.aho_core.specs.Patterns.{Patterns, pattern_at}
use Rattle.aho_prefilter.specs.FirstBytes.{begins_by, cases_of, first_bytes, has_byte, with_byte}
use Rattle.aho_prefilter.specs.Inside.{few, few_of, search_for_few, whole_of}
use Rattle.aho_prefilter.specs.Prefilter.{AllBeginWithin, BeginsWithin, IsOnlyPattern, IsPrefilterOf, has_empty, held_for, is_empty, is_searched_whole, search_for, with_word}
use Rattle.aho_prefilter.specs.declared.prefilter.Searcher.{Searcher}
use Rattle.aho_prefilter.specs.declared.prefilter.Searcher.TheVariants.{Memmem, Memchr, Memchr2, Memchr3, Packed, PackedHeads, Windows, Strided}
use Rattle.aho_prefilter.specs.declared.prefilter.first_bytes.FirstBytes.TheVariants.{None, Any}
use Rattle.aho_prefilter.proofs.Few.{few_of-none}

-- what the test finds is there
has_byte-Contains : (bytes : List ℕ) (byte : ℕ) → has_byte bytes byte ≡ true → Contains bytes byte
has_byte-Contains [] byte has = cc
has_byte-Contains (x ∷ xs) byte has =
    elim (cases_eq x byte) [
      | inl same ↦ (0, omega arith, same)
      | inr other ↦ Contains-append_right (x ∷ []) xs byte (has_byte-Contains xs byte (later x xs byte other has))
    ]
  where
    later : (x : ℕ) (xs : List ℕ) (byte : ℕ) → (x ≡ byte → ⊥) → has_byte (x ∷ xs) byte ≡ true → has_byte xs byte ≡ true
    later x xs byte other has = grind (arith, nat_tests)

-- a byte more is there, and the others are still there
with_byte-has : (bytes : List ℕ) (byte : ℕ) → Contains (with_byte bytes byte) byte
unfolding with_byte
with_byte-has bytes byte = by_test (has_byte bytes byte) refl
  where
    by_test : (there : Bool) → has_byte bytes byte ≡ there → Contains (cond there bytes (bytes ++ byte ∷ [])) byte
    by_test true has = has_byte-Contains bytes byte has
    by_test false has = Contains-push bytes byte

with_byte-kept : (bytes : List ℕ) (byte other : ℕ) → Contains bytes other → Contains (with_byte bytes byte) other
unfolding with_byte
with_byte-kept bytes byte other has = by_test (has_byte bytes byte)
  where
    by_test : (there : Bool) → Contains (cond there bytes (bytes ++ byte ∷ [])) other
    by_test true = has
    by_test false = Contains-append_left bytes (byte ∷ []) other has

fold-kept : (xs bytes : List ℕ) (byte : ℕ) → Contains bytes byte → Contains (fold with_byte bytes xs) byte
fold-kept [] bytes byte has = has
fold-kept (x ∷ xs) bytes byte has = fold-kept xs (with_byte bytes x) byte (with_byte-kept bytes x byte has)

fold-has : (xs bytes : List ℕ) (byte : ℕ) → Contains xs byte → Contains (fold with_byte bytes xs) byte
fold-has [] bytes byte (k, below, e) = absurd (omega arith)
fold-has (x ∷ xs) bytes byte (zero, below, e) = fold-kept xs (with_byte bytes x) byte (subst (Contains (with_byte bytes x)) e (with_byte-has bytes x))
fold-has (x ∷ xs) bytes byte (suc k, below, e) = fold-has xs (with_byte bytes x) byte (k, omega arith, e)

flat_map-has : (f : List ℕ → List ℕ) (words : List (List ℕ)) (k byte : ℕ) → k < length words → Contains (f (slice_index_or words k [])) byte → Contains (flat_map f words) byte
flat_map-has f [] k byte below has = absurd (omega arith)
flat_map-has f (word ∷ words) zero byte below has = Contains-append_left (f word) (flat_map f words) byte has
flat_map-has f (word ∷ words) (suc k) byte below has = Contains-append_right (f word) (flat_map f words) byte (flat_map-has f words k byte (omega arith) has)

-- the bytes with which any pattern begins are there
pub first_bytes-has : (p : Patterns) (k byte : ℕ) → k < length p.words → Contains (begins_by p.ignore_case (pattern_at p k)) byte → Contains (first_bytes p) byte
unfolding first_bytes
first_bytes-has p k byte below has =
    fold-has (flat_map (begins_by p.ignore_case) p.words) [] byte
    (flat_map-has (begins_by p.ignore_case) p.words k byte below has)

-- what is the same as a byte is the byte or its other case
pub opposite-same : (x byte : ℕ) → (x ≡ byte → ⊥) → folded_by true x ≡ folded_by true byte → opposite x ≡ byte
opposite-same x byte other same = grind (arith, nat_tests)

pub cases_of-has : (ignore_case : Bool) (x byte : ℕ) → folded_by ignore_case x ≡ folded_by ignore_case byte → Contains (cases_of ignore_case x) byte
cases_of-has false x byte same = (0, omega arith, same)
cases_of-has true x byte same =
    elim (cases_eq x byte) [
      | inl equal ↦ (0, omega arith, equal)
      | inr other ↦ (1, omega arith, opposite-same x byte other same)
    ]

not_empty : (p : Patterns) (k : ℕ) → has_empty p ≡ false → k < length p.words → is_empty (pattern_at p k) ≡ false
not_empty p k none below = by_test (is_empty (pattern_at p k)) refl
  where
    by_test : (empty : Bool) → is_empty (pattern_at p k) ≡ empty → empty ≡ false
    by_test true is = sym (list_any_at is_empty p.words k [] below is) ∙ none
    by_test false is = refl

word-begins : (p : Patterns) (word bytes : List ℕ) → is_empty word ≡ false → ((byte : ℕ) → Contains (begins_by p.ignore_case word) byte → Contains bytes byte) → BeginsWithin p bytes word
word-begins p [] bytes some has = cc
word-begins p (x ∷ word) bytes some has = record {
  some = omega arith;
  first = λ byte same. has byte (cases_of-has p.ignore_case x byte same);
}

-- where none is empty, each pattern begins with one of the first bytes
pub all_begin : (p : Patterns) → has_empty p ≡ false → AllBeginWithin p (first_bytes p)
all_begin p none k below = word-begins p (pattern_at p k) (first_bytes p) (not_empty p k none below) (λ byte has. first_bytes-has p k byte below has)

-- a search for the first bytes is a prefilter
search_for-of : (p : Patterns) (bytes : List ℕ) (searcher : Searcher) → AllBeginWithin p bytes → search_for bytes ≡ Some searcher → IsPrefilterOf searcher p
search_for-of p [] searcher begin is = cc
search_for-of p (x ∷ []) searcher begin is = let e : searcher ≡ Memchr x = cc in rw e begin
search_for-of p (x ∷ y ∷ []) searcher begin is = let e : searcher ≡ Memchr2 x y = cc in rw e begin
search_for-of p (x ∷ y ∷ z ∷ []) searcher begin is = let e : searcher ≡ Memchr3 x y z = cc in rw e begin
search_for-of p (x ∷ y ∷ z ∷ u ∷ more) searcher begin is = cc

-- and so is one for the only pattern
only-word : (words : List (List ℕ)) → length words ≡ 1 → words ≡ slice_index_or words 0 [] ∷ []
only-word [] long = absurd (omega arith)
only-word (word ∷ []) long = refl
only-word (word ∷ more ∷ words) long = absurd (omega arith)

word-some : (word : List ℕ) → is_empty word ≡ false → 0 < length word
word-some [] some = cc
word-some (x ∷ word) some = omega arith

only-of : (p : Patterns) → has_empty p ≡ false → length p.words ≡ 1 → p.ignore_case ≡ false → IsOnlyPattern p (pattern_at p 0)
only-of p none long exact = record {
  only = only-word p.words long;
  some = word-some (pattern_at p 0) (not_empty p 0 none (omega arith));
  exact = exact;
}

pub whole-is : (p : Patterns) → is_searched_whole p ≡ true → (length p.words ≡ 1) × (p.ignore_case ≡ false)
whole-is p whole = (grind (arith, nat_tests), grind (arith, nat_tests))

-- what is held for patterns is a prefilter of them
pub held_for-of : (p : Patterns) (searcher : Searcher) → held_for p ≡ Some searcher → IsPrefilterOf searcher p
held_for-of p searcher held = by_tests (has_empty p) (is_searched_whole p) refl refl held
  where
    by_tests : (empty whole : Bool) → has_empty p ≡ empty → is_searched_whole p ≡ whole → (if empty then Nothing else if whole then Some (Memmem (pattern_at p 0)) else search_for (first_bytes p)) ≡ Some searcher → IsPrefilterOf searcher p
    by_tests true whole is_some is_whole is = cc
    by_tests false true is_some is_whole is =
        let e : searcher ≡ Memmem (pattern_at p 0) = cc in
        let only = whole-is p is_whole in
        rw e (only-of p is_some only.0 only.1)
    by_tests false false is_some is_whole is = search_for-of p (first_bytes p) searcher (all_begin p is_some) is

-- where no byte is first, there is no pattern
few-some : (bytes : List ℕ) (byte : ℕ) → Contains bytes byte → few bytes ≡ None → ⊥
few-some [] byte (k, below, e) none = omega arith
few-some (x ∷ []) byte has none = cc
few-some (x ∷ y ∷ []) byte has none = cc
few-some (x ∷ y ∷ z ∷ []) byte has none = cc
few-some (x ∷ y ∷ z ∷ u ∷ more) byte has none = cc

few_of-some : (p : Patterns) → 0 < length p.words → few_of p ≡ None → ⊥
few_of-some p some none = by_test (has_empty p) refl none
  where
    by_test : (empty : Bool) → has_empty p ≡ empty → (if empty then Any else few (first_bytes p)) ≡ None → ⊥
    by_test true is is_none = cc
    by_test false is is_none =
        few-some (first_bytes p) (slice_index (pattern_at p 0) 0) ((all_begin p is 0 some).first (slice_index (pattern_at p 0) 0) refl) is_none

no_words : (words : List (List ℕ)) → (0 < length words → ⊥) → words ≡ []
no_words [] none = refl
no_words (word ∷ words) none = absurd (none (omega arith))

pub words-none : (p : Patterns) → few_of p ≡ None → p.words ≡ []
words-none p none = no_words p.words (λ some. few_of-some p some none)

pub words-some : (p : Patterns) → (few_of p ≡ None → ⊥) → 0 < length p.words
words-some p some = elim (cases_lt 0 (length p.words)) [ inl there ↦ there | inr none ↦ absurd (some (few_of-none p (no_words p.words (λ less. omega arith)))) ]

-- a first pattern is searched for as a whole, and a later one is not
pub whole-first : (p : Patterns) (word : List ℕ) → p.words ≡ [] → p.ignore_case ≡ false → is_searched_whole (with_word p word) ≡ true
whole-first p word none exact = rw (none, exact) refl

pub whole_of-first : (p : Patterns) (word : List ℕ) → p.words ≡ [] → p.ignore_case ≡ false → 0 < length word → whole_of (with_word p word) ≡ Some word
whole_of-first p [] none exact some = absurd (omega arith)
whole_of-first p (x ∷ word) none exact some = rw (none, exact) refl

pub whole_of-later : (p : Patterns) (word : List ℕ) → 0 < length p.words → whole_of (with_word p word) ≡ Nothing
whole_of-later p word some =
    let long : nat_eq (length (p.words ++ word ∷ [])) 1 ≡ false = grind (arith, nat_tests, length-append p.words (word ∷ [])) in
    rw long refl

-- what is held, by what the builder keeps
pub held_for-whole : (p : Patterns) (needle : List ℕ) → whole_of p ≡ Some needle → held_for p ≡ Some (Memmem needle)
held_for-whole p needle whole = by_tests (has_empty p) (is_searched_whole p) whole
  where
    by_tests : (empty only : Bool) → (if only && not empty then Some (pattern_at p 0) else Nothing) ≡ Some needle → (if empty then Nothing else if only then Some (Memmem (pattern_at p 0)) else search_for (first_bytes p)) ≡ Some (Memmem needle)
    by_tests true true is = cc
    by_tests true false is = cc
    by_tests false true is = cc
    by_tests false false is = cc

search_for-few : (bytes : List ℕ) → search_for bytes ≡ search_for_few (few bytes)
search_for-few [] = refl
search_for-few (x ∷ []) = refl
search_for-few (x ∷ y ∷ []) = refl
search_for-few (x ∷ y ∷ z ∷ []) = refl
search_for-few (x ∷ y ∷ z ∷ u ∷ more) = refl

pub held_for-bytes : (p : Patterns) → whole_of p ≡ Nothing → held_for p ≡ search_for_few (few_of p)
held_for-bytes p whole = by_tests (has_empty p) (is_searched_whole p) whole
  where
    by_tests : (empty only : Bool) → (if only && not empty then Some (pattern_at p 0) else Nothing) ≡ Nothing → (if empty then Nothing else if only then Some (Memmem (pattern_at p 0)) else search_for (first_bytes p)) ≡ search_for_few (if empty then Any else few (first_bytes p))
    by_tests true only is = refl
    by_tests false true is = cc
    by_tests false false is = search_for-few (first_bytes p)

-- neither depends on the kind
pub held_for-kind : (p : Patterns) (kind : MatchKind) → held_for (record p { kind = kind }) ≡ held_for p
unfolding first_bytes
held_for-kind p kind = refl

pub IsPrefilterOf-kind : (p : Patterns) (kind : MatchKind) (searcher : Searcher) → IsPrefilterOf searcher p → IsPrefilterOf searcher (record p { kind = kind })
IsPrefilterOf-kind p kind (Memmem needle) is = record { only = is.only; some = is.some; exact = is.exact }
IsPrefilterOf-kind p kind (Memchr x) is = λ k below. record { some = (is k below).some; first = (is k below).first }
IsPrefilterOf-kind p kind (Memchr2 x y) is = λ k below. record { some = (is k below).some; first = (is k below).first }
IsPrefilterOf-kind p kind (Memchr3 x y z) is = λ k below. record { some = (is k below).some; first = (is k below).first }
IsPrefilterOf-kind p kind (Packed packed) is = record { some = is.some; made = is.made }
IsPrefilterOf-kind p kind (PackedHeads search) is = record { size = is.size; some = is.some; short = is.short; long = is.long; tested = is.tested; made = is.made }
IsPrefilterOf-kind p kind (Windows windows) is = record { size = is.size; some = is.some; short = is.short; long = is.long; tested = is.tested; made = is.made }
IsPrefilterOf-kind p kind (Strided marks) is = record { rule = is.rule; sizes = is.sizes; each = is.each }
