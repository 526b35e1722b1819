-- What a strided search looks for: places where the bits of some pattern are set.
use Rattle.std.specs.Prelude.{◌≡◌, ℕ, zero, suc, ◌+◌, ◌-◌, ◌*◌, ◌/◌, ◌%◌, ◌^◌, ◌<◌, ◌≤◌, min, max, Bool, if◌then◌else◌, List, [], length, replicate, slice_index, slice_index_or, slice_set, bit_and, bit_or, Option}
use Rattle.std.specs.Int.{bit_at}
use Rattle.std.specs.List.{fold}
use Rattle.memchr.specs.Find.{IsFirst}
use Rattle.aho_prefilter.specs.declared.strided.grams.Place.{Place}
use Rattle.aho_prefilter.specs.declared.strided.sizes.Sizes.{Sizes}

-- the sizes, and the bits that are set: those of grams, and those of heads
pub record Marks : Type 0 where
  pub sizes : Sizes
  pub grams : List ℕ
  pub heads : List ℕ

-- a byte as it is hashed: under the case rule without the bit in which the two cases of a letter differ
abbrev pub caseless : Bool → ℕ → ℕ
caseless ignore_case byte = if ignore_case then bit_and byte 0xDF else byte

-- the number that so many bytes from a place on make, the first one lowest; past the end zeros stand
abbrev pub number_of_bytes : Bool → ℕ → List ℕ → ℕ → ℕ
number_of_bytes ignore_case zero bytes at = 0
number_of_bytes ignore_case (suc count) bytes at =
    caseless ignore_case (slice_index bytes at) + 256 * number_of_bytes ignore_case count bytes (at + 1)

-- the bits of eight bytes that are hashed
abbrev pub bits_kept : Bool → ℕ
bits_kept ignore_case = if ignore_case then 0xDFDF_DFDF_DFDF_DFDF else 2 ^ 64 - 1

-- what the number of so many bytes is multiplied by, so that it fills 64 bits
abbrev pub factor_for : ℕ → ℕ → ℕ
factor_for number count = number * 2 ^ (64 - 8 * count) % 2 ^ 64

-- a hash of so many bytes from a place on
abbrev pub hash_at : Bool → ℕ → ℕ → List ℕ → ℕ → ℕ
hash_at ignore_case number count bytes at =
    number_of_bytes ignore_case count bytes at * factor_for number count % 2 ^ 64

-- the hash of the gram at a place
abbrev pub gram_hash : Sizes → List ℕ → ℕ → ℕ
gram_hash sizes bytes at = hash_at sizes.ignore_case 0x9E37_79B9_7F4A_7C15 sizes.gram bytes at

-- how many bytes of a head one hash is of: there is one of its first bytes, and one of its last
abbrev pub half_of : ℕ → ℕ
half_of head = min head 8

-- the hash of a head of so many bytes at a place
abbrev pub hash_of_head : Bool → ℕ → List ℕ → ℕ → ℕ
hash_of_head ignore_case head bytes at =
    (hash_at ignore_case 0xD6E8_FEB8_6659_FD93 (half_of head) bytes at
    + hash_at ignore_case 0xA076_1D64_78BD_642F (half_of head) bytes (at + (head - half_of head))) % 2 ^ 64

-- the hash of the head at a place
abbrev pub head_hash : Sizes → List ℕ → ℕ → ℕ
head_hash sizes bytes at = hash_of_head sizes.ignore_case sizes.head bytes at

-- the place of a hash's bit among those of so many words
abbrev pub place_in : ℕ → ℕ → ℕ
place_in words hash = hash * (64 * words) / 2 ^ 64

-- the bit of a hash is set
abbrev pub HasMark : List ℕ → ℕ → Type 0
HasMark table hash =
    bit_at (slice_index table (place_in (length table) hash / 64)) (place_in (length table) hash % 64) ≡ 1

-- the table with the bit of a hash set
abbrev pub with_mark : List ℕ → ℕ → List ℕ
with_mark table hash =
    slice_set table (place_in (length table) hash / 64)
    (bit_or (slice_index table (place_in (length table) hash / 64)) (2 ^ (place_in (length table) hash % 64)))

-- the hash of the first three bytes at a place
abbrev pub line_hash : Sizes → List ℕ → ℕ → ℕ
line_hash sizes bytes at = hash_at sizes.ignore_case 0xA076_1D64_78BD_642F 3 bytes at

-- where the bits of a gram are in a table of so many words: a hash of its first three bytes tells a line of eight words, and its own one
-- of them and two bits of it
abbrev pub place_in_line : ℕ → ℕ → ℕ → Place
place_in_line words line hash = record {
  word = line * (words / 8) / 2 ^ 64 * 8 + hash / 2 ^ 61;
  first = hash / 2 ^ 55 % 64;
  second = hash / 2 ^ 49 % 64;
}

-- the same where its own hash tells one bit
abbrev pub single_place : ℕ → ℕ → Place
single_place words hash = record {
  word = place_in words hash / 64;
  first = place_in words hash % 64;
  second = place_in words hash % 64;
}

-- whichever it is
abbrev pub place_by : Bool → ℕ → ℕ → ℕ → Place
place_by lines words line hash = if lines then place_in_line words line hash else single_place words hash

-- the same of the gram at a place
abbrev pub gram_place : Sizes → ℕ → List ℕ → ℕ → Place
gram_place sizes words bytes at = place_by sizes.lines words (line_hash sizes bytes at) (gram_hash sizes bytes at)

-- both bits are set
pub record HasBits (table : List ℕ) (place : Place) : Type 0 where
  pub first : bit_at (slice_index table place.word) place.first ≡ 1
  pub second : bit_at (slice_index table place.word) place.second ≡ 1

-- the table with both bits set
abbrev pub with_bits : List ℕ → Place → List ℕ
with_bits table place =
    slice_set table place.word (bit_or (slice_index table place.word) (bit_or (2 ^ place.first) (2 ^ place.second)))

-- the bits of the gram at a place are set
abbrev pub HasGram : Marks → List ℕ → ℕ → Type 0
HasGram marks bytes at = HasBits marks.grams (gram_place marks.sizes (length marks.grams) bytes at)

-- those of the gram at the last place of a stride
abbrev pub HasGramIn : Marks → List ℕ → ℕ → Type 0
HasGramIn marks bytes turn = HasGram marks bytes (turn * marks.sizes.stride + (marks.sizes.stride - 1))

-- the bit of the head at a place is set
abbrev pub HasHead : Marks → List ℕ → ℕ → Type 0
HasHead marks bytes at = HasMark marks.heads (head_hash marks.sizes bytes at)

-- the last place of the stride in which a place lies
abbrev pub last_of_stride : ℕ → ℕ → ℕ
last_of_stride stride at = at / stride * stride + (stride - 1)

-- the bit of the head at a place is set, and those of the gram at the last place of its stride
pub record IsMarkedAt (marks : Marks) (bytes : List ℕ) (at : ℕ) : Type 0 where
  pub gram : HasGram marks bytes (last_of_stride marks.sizes.stride at)
  pub head : HasHead marks bytes at

-- and there are as many bytes as a head has
pub record MayStartAt (marks : Marks) (bytes : List ℕ) (at : ℕ) : Type 0 where
  pub marked : IsMarkedAt marks bytes at
  pub fits : at + marks.sizes.head ≤ length bytes

-- the first such place
abbrev pub IsFirstMarked : Marks → List ℕ → Option ℕ → Type 0
IsFirstMarked marks bytes at = IsFirst (MayStartAt marks bytes) 0 (length bytes) at

-- the grams at all places of a stride lie within the head, and what tells a line within a gram
pub record AreStrideSizes (sizes : Sizes) : Type 0 where
  pub some : 3 ≤ sizes.gram
  pub gram : sizes.gram ≤ 8
  pub steps : 0 < sizes.stride
  pub stride : sizes.stride ≤ 8
  pub within : sizes.stride + sizes.gram ≤ sizes.head + 1
  pub head : sizes.head ≤ 16

-- a table has a line of words, and not too many
pub record IsTable (table : List ℕ) : Type 0 where
  pub some : 8 ≤ length table
  pub few : length table ≤ 2 ^ 18

-- what is true of each strided search
pub record AreSoundMarks (marks : Marks) : Type 0 where
  pub sizes : AreStrideSizes marks.sizes
  pub grams : IsTable marks.grams
  pub heads : IsTable marks.heads

-- a table of so many words, but of 64 at least and 2 ^ 18 at most, with no bit set
abbrev pub empty_table : ℕ → List ℕ
empty_table words = replicate (min (max words 64) (2 ^ 18)) 0

-- how many words the table of so many heads has
abbrev pub head_words : ℕ → ℕ
head_words count = min (max (count / 2) (min count 8192)) (2 ^ 16)

-- the marks of no pattern, in tables for so many
abbrev pub no_marks : Sizes → ℕ → Marks
no_marks sizes count = record {
  sizes = sizes;
  grams = empty_table sizes.words;
  heads = empty_table (head_words count);
}

-- the table with the bits of the gram at a place of a word
abbrev pub with_gram : Sizes → List ℕ → ℕ → List ℕ → List ℕ
with_gram sizes word at grams = with_bits grams (gram_place sizes (length grams) word at)

-- with those of the grams at so many first places
abbrev pub with_grams : Sizes → List ℕ → ℕ → List ℕ → List ℕ
with_grams sizes word zero grams = grams
with_grams sizes word (suc count) grams = with_gram sizes word count (with_grams sizes word count grams)

-- the marks with those of one more word
abbrev pub marks_with : Marks → List ℕ → Marks
marks_with marks word = record {
  sizes = marks.sizes;
  grams = with_grams marks.sizes word marks.sizes.stride marks.grams;
  heads = with_mark marks.heads (head_hash marks.sizes word 0);
}

-- where so many strides end
abbrev pub end_of : Marks → ℕ → ℕ
end_of marks turns = turns * marks.sizes.stride

-- each word has as many bytes as a head
abbrev pub HaveHeads : Sizes → List (List ℕ) → Type 0
HaveHeads sizes words = (k : ℕ) → k < length words → sizes.head ≤ length (slice_index_or words k [])

-- the marks of these words
abbrev pub marks_of : Sizes → List (List ℕ) → Marks
marks_of sizes words = fold marks_with (no_marks sizes (length words)) words

-- all bits of a word are set
pub record HasMarksOf (marks : Marks) (word : List ℕ) : Type 0 where
  pub long : marks.sizes.head ≤ length word
  pub grams : (offset : ℕ) → offset < marks.sizes.stride → HasGram marks word offset
  pub head : HasHead marks word 0
