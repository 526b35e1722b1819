-- The bits of words that were added to a strided search are set, so it stops wherever one of them stands.
use Rattle.std.proofs.Common.{◌≡◌, ℕ, ◌+◌, ◌-◌, ◌*◌, ◌/◌, ◌%◌, ◌^◌, ◌<◌, ◌≤◌, zero, suc, inl, inr, Bool, true, false, List, [], ◌∷◌, get_or, length, refl, sym, ap, subst, ◌∙◌, arith, min, max}
use Rattle.std.specs.List.{fold}
use Rattle.std.proofs.Math.Nat.{mul-lt-mul_of_pos_right}
use Rattle.std.proofs.lemmas.Bool.{cases_eq}
use Rattle.std.proofs.lemmas.List.{length-replicate}
use Rattle.std.proofs.lemmas.Nat.{div-add-mod', div_below, mod_below}
use Rattle.std.proofs.lemmas.Nat.Bits.{bit_at-pow_same}
use Rattle.aho_prefilter.specs.Strided.{HasBits, HasMark, HasMarksOf, AreStrideSizes, AreSoundMarks, IsTable, Marks, MayStartAt, caseless, empty_table, gram_hash, gram_place, hash_at, head_hash, head_words, last_of_stride, line_hash, marks_of, marks_with, no_marks, place_in, place_by, with_bits, with_gram, with_grams, with_mark}
use Rattle.aho_prefilter.specs.declared.strided.grams.Place.{Place}
use Rattle.aho_prefilter.specs.declared.strided.sizes.Sizes.{Sizes}
use Rattle.aho_prefilter.proofs.PackedSound.{HasBit, HasBit-or_left, HasBit-or_right, Keeps, Keeps-set, Keeps-then, set-has}
use Rattle.aho_prefilter.proofs.Strides.{gram_place-same, head_hash-same}
use Rattle.aho_prefilter.proofs.Tables.{IsTable-long, length-with_grams, length-with_mark}

-- a place stands within the table
place_within : (words hash : ℕ) → 0 < words → hash < 2 ^ 64 → place_in words hash / 64 < words
place_within words hash some small =
    let product : hash * (64 * words) < 2 ^ 64 * (64 * words) = mul-lt-mul_of_pos_right small (omega arith) in
    let place : place_in words hash < 64 * words = div_below (hash * (64 * words)) (2 ^ 64) (64 * words) (omega arith) (omega arith) in
    div_below (place_in words hash) 64 words (omega arith) (omega arith)

pub HasMark-keeps : (old new : List ℕ) (hash : ℕ) → Keeps old new → HasMark old hash → HasMark new hash
HasMark-keeps old new hash keeps has =
    subst (λ n. HasBit (get_or new (place_in n hash / 64) 0) (place_in n hash % 64)) (sym keeps.long) (keeps.bits (place_in (length old) hash / 64) (place_in (length old) hash % 64) has)

pub Keeps-with_mark : (table : List ℕ) (hash : ℕ) → Keeps table (with_mark table hash)
Keeps-with_mark table hash = Keeps-set table (place_in (length table) hash / 64) (2 ^ (place_in (length table) hash % 64))

Keeps-same : (table : List ℕ) → Keeps table table
Keeps-same table = record { long = refl; bits = λ k i is. is }

HasBits-keeps : (old new : List ℕ) (place : Place) → Keeps old new → HasBits old place → HasBits new place
HasBits-keeps old new place keeps has = record { first = keeps.bits place.word place.first has.first; second = keeps.bits place.word place.second has.second }

Keeps-with_gram : (sizes : Sizes) (word : List ℕ) (at : ℕ) (grams : List ℕ) → Keeps grams (with_gram sizes word at grams)
Keeps-with_gram sizes word at grams = Keeps-set grams _ _

Keeps-with_grams : (sizes : Sizes) (word : List ℕ) (count : ℕ) (grams : List ℕ) → Keeps grams (with_grams sizes word count grams)
Keeps-with_grams sizes word zero grams = Keeps-same grams
Keeps-with_grams sizes word (suc count) grams =
    Keeps-then grams (with_grams sizes word count grams) (with_grams sizes word (suc count) grams)
    (Keeps-with_grams sizes word count grams) (Keeps-with_gram sizes word count (with_grams sizes word count grams))

-- a bit that was just set
pub HasMark-with : (table : List ℕ) (hash : ℕ) → 0 < length table → hash < 2 ^ 64 → HasMark (with_mark table hash) hash
HasMark-with table hash some small =
    let j = place_in (length table) hash / 64 in
    let i = place_in (length table) hash % 64 in
    subst (λ n. HasBit (get_or (with_mark table hash) (place_in n hash / 64) 0) (place_in n hash % 64)) (sym (length-with_mark table hash))
    (set-has table j (2 ^ i) i (place_within (length table) hash some small) (bit_at-pow_same i))

hash_small : (rule : Bool) (number count : ℕ) (bytes : List ℕ) (at : ℕ) → hash_at rule number count bytes at < 2 ^ 64
hash_small rule number count bytes at = mod_below _ (2 ^ 64) (omega arith)

-- both bits that were just set
HasBits-with : (table : List ℕ) (place : Place) → place.word < length table → HasBits (with_bits table place) place
HasBits-with table place within = record {
  first = set-has table place.word _ place.first within (HasBit-or_left (2 ^ place.first) (2 ^ place.second) place.first (bit_at-pow_same place.first));
  second = set-has table place.word _ place.second within (HasBit-or_right (2 ^ place.first) (2 ^ place.second) place.second (bit_at-pow_same place.second));
}

-- the word of a gram stands within the table
word_within : (lines : Bool) (words line hash : ℕ) → 8 ≤ words → line < 2 ^ 64 → hash < 2 ^ 64 → (place_by lines words line hash).word < words
word_within false words line hash some low high = place_within words hash (omega arith) high
word_within true words line hash some low high =
    let rows = words / 8 in
    let product : line * rows < 2 ^ 64 * rows = mul-lt-mul_of_pos_right low (omega arith) in
    let row : line * rows / 2 ^ 64 < rows = div_below (line * rows) (2 ^ 64) rows (omega arith) (omega arith) in
    let one : hash / 2 ^ 61 < 8 = omega arith in
    omega arith

-- the bits of all grams of a word
HasBits-with_grams : (sizes : Sizes) (word : List ℕ) (count : ℕ) (grams : List ℕ) → 8 ≤ length grams → (offset : ℕ) → offset < count
    → HasBits (with_grams sizes word count grams) (gram_place sizes (length grams) word offset)
HasBits-with_grams sizes word zero grams some offset below = absurd (omega arith)
HasBits-with_grams sizes word (suc count) grams some offset below =
    let before = with_grams sizes word count grams in
    let long : length before ≡ length grams = length-with_grams sizes word count grams in
    elim (cases_eq offset count) [
      | inl last ↦
          subst (λ n. HasBits (with_gram sizes word count before) (gram_place sizes n word offset)) long
          (subst (λ n. HasBits (with_gram sizes word count before) (gram_place sizes (length before) word n)) (sym last)
          (HasBits-with before (gram_place sizes (length before) word count)
          (word_within sizes.lines (length before) (line_hash sizes word count) (gram_hash sizes word count) (omega arith)
          (hash_small sizes.ignore_case 0xA076_1D64_78BD_642F 3 word count) (hash_small sizes.ignore_case 0x9E37_79B9_7F4A_7C15 sizes.gram word count))))
      | inr other ↦
          HasBits-keeps before (with_gram sizes word count before) (gram_place sizes (length grams) word offset) (Keeps-with_gram sizes word count before)
          (HasBits-with_grams sizes word count grams some offset (omega arith))
    ]

-- a word that was just added
HasMarksOf-with : (marks : Marks) (word : List ℕ) → AreSoundMarks marks → marks.sizes.head ≤ length word → HasMarksOf (marks_with marks word) word
HasMarksOf-with marks word sound long = record {
  long = long;
  grams = λ offset below.
      subst (λ n. HasBits (marks_with marks word).grams (gram_place marks.sizes n word offset)) (sym (length-with_grams marks.sizes word marks.sizes.stride marks.grams))
      (HasBits-with_grams marks.sizes word marks.sizes.stride marks.grams sound.grams.some offset below);
  head = HasMark-with marks.heads (head_hash marks.sizes word 0) (omega (arith, sound.heads.some)) (mod_below _ (2 ^ 64) (omega arith));
}

-- and one that was added before
HasMarksOf-kept : (marks : Marks) (more word : List ℕ) → HasMarksOf marks word → HasMarksOf (marks_with marks more) word
HasMarksOf-kept marks more word has = record {
  long = has.long;
  grams = λ offset below.
      subst (λ n. HasBits (marks_with marks more).grams (gram_place marks.sizes n word offset)) (sym (length-with_grams marks.sizes more marks.sizes.stride marks.grams))
      (HasBits-keeps marks.grams (marks_with marks more).grams (gram_place marks.sizes (length marks.grams) word offset) (Keeps-with_grams marks.sizes more marks.sizes.stride marks.grams) (has.grams offset below));
  head = HasMark-keeps marks.heads (marks_with marks more).heads (head_hash marks.sizes word 0) (Keeps-with_mark marks.heads (head_hash marks.sizes more 0)) has.head;
}

HasMarksOf-more : (words : List (List ℕ)) (marks : Marks) (word : List ℕ) → HasMarksOf marks word → HasMarksOf (fold marks_with marks words) word
HasMarksOf-more [] marks word has = has
HasMarksOf-more (more ∷ words) marks word has = HasMarksOf-more words (marks_with marks more) word (HasMarksOf-kept marks more word has)

AreSoundMarks-with : (marks : Marks) (word : List ℕ) → AreSoundMarks marks → AreSoundMarks (marks_with marks word)
AreSoundMarks-with marks word sound = record {
  sizes = sound.sizes;
  grams = IsTable-long marks.grams (marks_with marks word).grams (length-with_grams marks.sizes word marks.sizes.stride marks.grams) sound.grams;
  heads = IsTable-long marks.heads (marks_with marks word).heads (length-with_mark marks.heads (head_hash marks.sizes word 0)) sound.heads;
}

HasMarksOf-added : (words : List (List ℕ)) (marks : Marks) (k : ℕ) → AreSoundMarks marks → k < length words
    → marks.sizes.head ≤ length (get_or words k []) → HasMarksOf (fold marks_with marks words) (get_or words k [])
HasMarksOf-added [] marks k sound below long = absurd (omega arith)
HasMarksOf-added (word ∷ words) marks zero sound below long = HasMarksOf-more words (marks_with marks word) word (HasMarksOf-with marks word sound long)
HasMarksOf-added (word ∷ words) marks (suc k) sound below long = HasMarksOf-added words (marks_with marks word) k (AreSoundMarks-with marks word sound) (omega arith) long

empty : (words : ℕ) → IsTable (empty_table words)
empty words =
    let long : length (empty_table words) ≡ min (max words 64) (2 ^ 18) = length-replicate (min (max words 64) (2 ^ 18)) 0 in
    record { some = omega arith; few = omega arith }

AreSoundMarks-none : (sizes : Sizes) (count : ℕ) → AreStrideSizes sizes → AreSoundMarks (no_marks sizes count)
AreSoundMarks-none sizes count sized = record {
  sizes = sized;
  grams = empty sizes.words;
  heads = empty (head_words count);
}

-- all bits of each of the words are set
pub HasMarksOf-all : (sizes : Sizes) (words : List (List ℕ)) (k : ℕ) → AreStrideSizes sizes → k < length words → sizes.head ≤ length (get_or words k [])
    → HasMarksOf (marks_of sizes words) (get_or words k [])
HasMarksOf-all sizes words k sized below long = HasMarksOf-added words (no_marks sizes (length words)) k (AreSoundMarks-none sizes (length words) sized) below long

-- a word whose bits are set may start where it stands
pub MayStartAt-stands : (marks : Marks) (bytes word : List ℕ) (at : ℕ) → AreStrideSizes marks.sizes → HasMarksOf marks word
    → ((k : ℕ) → k < length word → caseless marks.sizes.ignore_case (get_or word k 0) ≡ caseless marks.sizes.ignore_case (get_or bytes (at + k) 0)) → at + length word ≤ length bytes → MayStartAt marks bytes at
MayStartAt-stands marks bytes word at sized has same within =
    let sizes = marks.sizes in
    let long : sizes.head ≤ length word = has.long in
    let fits : sizes.stride + sizes.gram ≤ sizes.head + 1 = sized.within in
    let split : at / sizes.stride * sizes.stride + at % sizes.stride ≡ at = div-add-mod' at sizes.stride in
    let low : at % sizes.stride < sizes.stride = mod_below at sizes.stride sized.steps in
    let offset = sizes.stride - 1 - at % sizes.stride in
    let last : last_of_stride sizes.stride at ≡ at + offset = omega arith in
    let gram : gram_place sizes (length marks.grams) word offset ≡ gram_place sizes (length marks.grams) bytes (at + offset) =
    gram_place-same sizes (length marks.grams) word offset bytes (at + offset) sized.some
    (λ k below.
    let moved : at + (offset + k) ≡ at + offset + k = omega arith in
    same (offset + k) (omega arith) ∙ ap (λ n. caseless sizes.ignore_case (get_or bytes n 0)) moved) in
    let head : head_hash sizes word 0 ≡ head_hash sizes bytes at =
    head_hash-same sizes word 0 bytes at
    (λ k below.
    let moved : 0 + k ≡ k = omega arith in
    ap (λ n. caseless sizes.ignore_case (get_or word n 0)) moved ∙ same k (omega arith)) in
    record {
      marked = record {
        gram = subst (HasBits marks.grams) (gram ∙ ap (λ n. gram_place sizes (length marks.grams) bytes n) (sym last)) (has.grams offset (omega arith));
        head = subst (HasMark marks.heads) head has.head;
      };
      fits = omega arith;
    }
