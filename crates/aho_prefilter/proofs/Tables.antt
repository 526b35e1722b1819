-- What a strided search is made of: its tables grow by the bits of a pattern.
use Rattle.std.proofs.Common.{◌≡◌, ℕ, ◌+◌, ◌<◌, ◌≤◌, zero, suc, List, [], ◌∷◌, get_or, length, refl, ap, ◌∙◌, arith}
use Rattle.std.specs.List.{fold}
use Rattle.std.proofs.lemmas.List.{length-set}
use Rattle.aho_prefilter.specs.Strided.{AreStrideSizes, IsTable, Marks, caseless, head_hash, marks_with, with_bits, with_gram, with_grams, with_mark}
use Rattle.aho_prefilter.specs.declared.strided.sizes.Sizes.{Sizes}
use Rattle.aho_prefilter.specs.declared.strided.grams.Place.{Place}
use Rattle.aho_prefilter.proofs.Strides.{gram_place-same, head_hash-same}

pub length-with_mark : (table : List ℕ) (hash : ℕ) → length (with_mark table hash) ≡ length table
length-with_mark table hash = length-set table _ _

pub length-with_grams : (sizes : Sizes) (word : List ℕ) (count : ℕ) (grams : List ℕ) → length (with_grams sizes word count grams) ≡ length grams
length-with_grams sizes word zero grams = refl
length-with_grams sizes word (suc count) grams = length-set (with_grams sizes word count grams) _ _ ∙ length-with_grams sizes word count grams

pub IsTable-long : (old new : List ℕ) → length new ≡ length old → IsTable old → IsTable new
IsTable-long old new long is = record { some = omega (arith, is.some); few = omega (arith, is.few) }

-- the grams of the same bytes
pub with_grams-same : (sizes : Sizes) (xs ys : List ℕ) (count : ℕ) (grams : List ℕ) → 3 ≤ sizes.gram → count + sizes.gram ≤ sizes.head + 1
    → ((k : ℕ) → k < sizes.head → get_or xs k 0 ≡ get_or ys k 0) → with_grams sizes xs count grams ≡ with_grams sizes ys count grams
with_grams-same sizes xs ys zero grams long within same = refl
with_grams-same sizes xs ys (suc count) grams long within same =
    ap (λ (table : List ℕ). with_gram sizes xs count table) (with_grams-same sizes xs ys count grams long (omega arith) same)
    ∙ ap (λ (place : Place). with_bits (with_grams sizes ys count grams) place) (gram_place-same sizes _ xs count ys count long (λ k below. ap (λ byte. caseless sizes.ignore_case byte) (same (count + k) (omega arith))))

-- the grams at one place more
pub with_grams-more : (sizes : Sizes) (word : List ℕ) (count : ℕ) (grams : List ℕ) → with_grams sizes word (count + 1) grams ≡ with_gram sizes word count (with_grams sizes word count grams)
with_grams-more sizes word count grams =
    let next : count + 1 ≡ suc count = omega arith in
    ap (λ n. with_grams sizes word n grams) next

-- the marks with those of a pattern, whose head was copied
module _ (sizes : Sizes) (grams heads start pattern : List ℕ) (sized : AreStrideSizes sizes) (same : (k : ℕ) → k < sizes.head → get_or start k 0 ≡ get_or pattern k 0) where
  pub grams-added : (new marked old : List ℕ) → new ≡ marked → marked ≡ with_grams sizes start sizes.stride old → old ≡ grams → new ≡ with_grams sizes pattern sizes.stride grams
  grams-added new marked old is made was =
      is
      ∙ made
      ∙ ap (λ (table : List ℕ). with_grams sizes start sizes.stride table) was
      ∙ with_grams-same sizes start pattern sizes.stride grams sized.some sized.within same

  pub heads-added : (new marked old : List ℕ) (hash : ℕ) → new ≡ marked → marked ≡ with_mark old hash → old ≡ heads → hash ≡ head_hash sizes start 0 → new ≡ with_mark heads (head_hash sizes pattern 0)
  heads-added new marked old hash is made was hashed =
      is
      ∙ made
      ∙ ap (λ (table : List ℕ). with_mark table hash) was
      ∙ ap (λ n. with_mark heads n) (hashed ∙ head_hash-same sizes start 0 pattern 0 (λ k below. ap (λ byte. caseless sizes.ignore_case byte) (same (0 + k) (omega arith))))

  pub marks-added : (new_grams new_heads : List ℕ) → new_grams ≡ with_grams sizes pattern sizes.stride grams → new_heads ≡ with_mark heads (head_hash sizes pattern 0)
      → ◌≡◌ {A = Marks} (record { sizes = sizes; grams = new_grams; heads = new_heads }) (marks_with (record { sizes = sizes; grams = grams; heads = heads }) pattern)
  marks-added new_grams new_heads front back =
      ap (λ (table : List ℕ). record { sizes = sizes; grams = table; heads = new_heads }) front
      ∙ ap (λ (table : List ℕ). record { sizes = sizes; grams = with_grams sizes pattern sizes.stride grams; heads = table }) back

-- more words change no size
pub fold-sizes : (words : List (List ℕ)) (marks : Marks) → (fold marks_with marks words).sizes ≡ marks.sizes
fold-sizes [] marks = refl
fold-sizes (word ∷ words) marks = fold-sizes words (marks_with marks word)
