-- What a prefilter is of, and which one is held for which patterns.
use Rattle.std.specs.Prelude.{◌≡◌, ℕ, ◌+◌, ◌*◌, ◌<◌, ◌≤◌, Bool, true, false, not, ◌&&◌, ◌||◌, List, [], ◌∷◌, ◌++◌, length, slice_index, nat_eq, nat_lt, if◌then◌else◌, Option, Some, None}
use Rattle.std.specs.Char.{is_ascii, is_ascii_alphanumeric}
use Rattle.std.specs.List.{Contains, list_any}
use Rattle.std.specs.Option.{option_and_then, option_map, option_or}
use Rattle.aho_core.specs.Bytes.{IsSameByte}
use Rattle.aho_core.specs.Patterns.{Patterns, pattern_at}
use Rattle.aho_core.specs.declared.search.MatchKind.{MatchKind}
use Rattle.aho_prefilter.specs.FirstBytes.{first_bytes}
use Rattle.aho_prefilter.specs.declared.prefilter.Searcher.{Searcher}
use Rattle.aho_prefilter.specs.declared.prefilter.Searcher.TheVariants.{Memmem, Memchr, Memchr2, Memchr3, Packed, PackedHeads, Windows, Strided}
use Rattle.aho_prefilter.specs.Packed.{packed_of}
use Rattle.aho_prefilter.specs.PackedHeads.{HaveSize, packed_heads_of}
use Rattle.aho_prefilter.specs.Sizes.{heads_for, least_head, shape_of, sizes_for, takes, tested_for}
use Rattle.aho_prefilter.specs.Strided.{HasMarksOf, AreStrideSizes, Marks, marks_of}
use Rattle.aho_prefilter.specs.declared.packed.Packed.{Packed as Fingerprints}
use Rattle.aho_prefilter.specs.declared.packed_heads.PackedHeads.{PackedHeads as FingerprintsAndHeads}
use Rattle.aho_prefilter.specs.declared.packed_heads.Tested.{Tested}
use Rattle.aho_prefilter.specs.declared.packed_heads.Tested.TheVariants.{LowFour}
use Rattle.aho_prefilter.specs.declared.strided.sizes.Shape.{Shape}
use Rattle.aho_prefilter.specs.declared.windows.Windows.{Windows as WindowSearch}
use Rattle.aho_prefilter.specs.Windows.{most_before, windows_of, windows_search_of}

-- the needle is the only pattern, which is not empty, and its bytes are compared as they are
pub record IsOnlyPattern (p : Patterns) (needle : List ℕ) : Type 0 where
  pub only : p.words ≡ needle ∷ []
  pub some : 0 < length needle
  pub exact : p.ignore_case ≡ false

-- a word is not empty, and a byte that is the same as its first one is one of these
pub record BeginsWithin (p : Patterns) (bytes word : List ℕ) : Type 0 where
  pub some : 0 < length word
  pub first : (byte : ℕ) → IsSameByte p (slice_index word 0) byte → Contains bytes byte

-- each pattern begins with one of these bytes
abbrev pub AllBeginWithin : Patterns → List ℕ → Type 0
AllBeginWithin p bytes = (k : ℕ) → k < length p.words → BeginsWithin p bytes (pattern_at p k)

-- no pattern is empty, and the fingerprints are those of the patterns
pub record AreFingerprintsOf (p : Patterns) (packed : Fingerprints) : Type 0 where
  pub some : (k : ℕ) → k < length p.words → 0 < length (pattern_at p k)
  pub made : packed ≡ packed_of p.ignore_case p.words

-- each pattern has a head, and the fingerprints and the heads are those of the patterns
pub record AreHeadsOf (p : Patterns) (search : FingerprintsAndHeads) : Type 0 where
  pub size : ℕ
  pub some : 0 < size
  pub short : size ≤ 16
  pub long : HaveSize size p.words
  pub tested : Tested
  pub made : search ≡ packed_heads_of p.ignore_case tested size p.words

-- each pattern has a window with a head, and the search is one for the windows
pub record AreWindowsOf (p : Patterns) (windows : WindowSearch) : Type 0 where
  pub size : ℕ
  pub some : 0 < size
  pub short : size ≤ 16
  pub long : HaveSize size (windows_of p.ignore_case p.words)
  pub tested : Tested
  pub made : windows ≡ windows_search_of p.ignore_case tested size p.words

-- the case rule is that of the patterns, and the bits of each pattern are set
pub record AreMarksOf (p : Patterns) (marks : Marks) : Type 0 where
  pub rule : marks.sizes.ignore_case ≡ p.ignore_case
  pub sizes : AreStrideSizes marks.sizes
  pub each : (k : ℕ) → k < length p.words → HasMarksOf marks (pattern_at p k)

-- a search is one for these patterns, by their case rule and whatever their kind is
abbrev pub IsPrefilterOf : Searcher → Patterns → Type 0
IsPrefilterOf (Memmem needle) p = IsOnlyPattern p needle
IsPrefilterOf (Memchr x) p = AllBeginWithin p (x ∷ [])
IsPrefilterOf (Memchr2 x y) p = AllBeginWithin p (x ∷ y ∷ [])
IsPrefilterOf (Memchr3 x y z) p = AllBeginWithin p (x ∷ y ∷ z ∷ [])
IsPrefilterOf (Packed packed) p = AreFingerprintsOf p packed
IsPrefilterOf (PackedHeads search) p = AreHeadsOf p search
IsPrefilterOf (Windows windows) p = AreWindowsOf p windows
IsPrefilterOf (Strided marks) p = AreMarksOf p marks

-- the bytes of memory that it holds
abbrev pub bytes_held : Searcher → ℕ
bytes_held (Memmem needle) = length needle
bytes_held (Memchr x) = 0
bytes_held (Memchr2 x y) = 0
bytes_held (Memchr3 x y z) = 0
bytes_held (Packed packed) = 0
bytes_held (PackedHeads search) = 0
bytes_held (Windows windows) = 0
bytes_held (Strided marks) = 8 * (length marks.grams + length marks.heads)

-- the same where it may be that none is held
abbrev pub prefilter_bytes : Option Searcher → ℕ
prefilter_bytes None = 0
prefilter_bytes (Some searcher) = bytes_held searcher

-- whether it holds memory: a copy of the pattern that it searches for, or tables
abbrev pub holds_memory : Searcher → Bool
holds_memory (Memmem needle) = true
holds_memory (Memchr x) = false
holds_memory (Memchr2 x y) = false
holds_memory (Memchr3 x y z) = false
holds_memory (Packed packed) = false
holds_memory (PackedHeads search) = false
holds_memory (Windows windows) = false
holds_memory (Strided marks) = true

-- the search for one to three bytes
abbrev pub search_for : List ℕ → Option Searcher
search_for [] = None
search_for (x ∷ []) = Some (Memchr x)
search_for (x ∷ y ∷ []) = Some (Memchr2 x y)
search_for (x ∷ y ∷ z ∷ []) = Some (Memchr3 x y z)
search_for (x ∷ y ∷ z ∷ u ∷ more) = None

abbrev pub is_empty : List ℕ → Bool
is_empty [] = true
is_empty (x ∷ word) = false

-- whether a pattern is empty
abbrev pub has_empty : Patterns → Bool
has_empty p = list_any is_empty p.words

-- whether there is one pattern alone, which is compared byte by byte as it is
abbrev pub is_searched_whole : Patterns → Bool
is_searched_whole p = nat_eq (length p.words) 1 && not p.ignore_case

-- which search is held: none where a pattern is empty; for one pattern without the case rule it is searched for as a
-- whole; else for one to three first bytes these are; else none
abbrev pub held_for : Patterns → Option Searcher
held_for p =
    if has_empty p then None
    else if is_searched_whole p then Some (Memmem (pattern_at p 0))
    else search_for (first_bytes p)

-- whether a pattern has less than two bytes
abbrev pub is_short : List ℕ → Bool
is_short word = nat_lt (length word) 2

abbrev pub has_short : Patterns → Bool
has_short p = list_any is_short p.words

-- the packed search, for one to a hundred patterns of at least two bytes each
abbrev pub packed_for : Patterns → Option Searcher
packed_for p =
    if has_short p then None
    else if nat_lt 0 (length p.words) && nat_lt (length p.words) 101 then Some (Packed (packed_of p.ignore_case p.words))
    else None

-- whether words are made of a byte: ASCII letters and digits, and what is not ASCII
abbrev pub is_word_byte : ℕ → Bool
is_word_byte byte = is_ascii_alphanumeric byte || not (is_ascii byte)

-- whether a search stops at a byte that words are made of, of which texts are full
abbrev pub stops_in_words : Searcher → Bool
stops_in_words (Memmem needle) = false
stops_in_words (Memchr x) = is_word_byte x
stops_in_words (Memchr2 x y) = is_word_byte x || is_word_byte y
stops_in_words (Memchr3 x y z) = is_word_byte x || is_word_byte y || is_word_byte z
stops_in_words (Packed packed) = false
stops_in_words (PackedHeads search) = false
stops_in_words (Windows windows) = false
stops_in_words (Strided marks) = false

-- whether a packed search is better than what is held else
abbrev pub gives_way : Option Searcher → Bool
gives_way None = true
gives_way (Some searcher) = stops_in_words searcher

-- which search is held where a packed search may be
abbrev pub held_or_packed : Patterns → Option Searcher
held_or_packed p = if gives_way (held_for p) then option_or (packed_for p) (held_for p) else held_for p

-- the strided search, if there is one for patterns of their shape
abbrev pub strided_for : Patterns → Option Searcher
strided_for p = option_map (λ sizes. Strided (marks_of sizes p.words)) (sizes_for (shape_of p.ignore_case p.words))

-- a packed search with heads, if it is one for patterns of this shape by how many places meet it
abbrev pub if_sparse : Shape → FingerprintsAndHeads → Option Searcher
if_sparse shape search = if takes shape search then Some (PackedHeads search) else None

-- the packed search with heads, if there is one for patterns of their shape
abbrev pub packed_heads_for : Patterns → Option Searcher
packed_heads_for p =
    let shape = shape_of p.ignore_case p.words in
    option_and_then (λ size. if_sparse shape (packed_heads_of p.ignore_case (tested_for shape) size p.words)) (heads_for shape)

-- where it is held it is taken, and else the strided search
abbrev pub heads_or_strided : Patterns → Option Searcher
heads_or_strided p = option_or (packed_heads_for p) (strided_for p)

-- the search for windows: for up to eight patterns, some of which begin with four bytes of which texts are full, where each has four
-- others at most 64 bytes behind its first
abbrev pub windows_for : Patterns → Option Searcher
windows_for p =
    if nat_lt 8 (length p.words) || (nat_eq (most_before p.ignore_case p.words) 0 || nat_lt 64 (most_before p.ignore_case p.words)) then None
    else if nat_lt (least_head (windows_of p.ignore_case p.words)) 4 then None
    else Some (Windows (windows_search_of p.ignore_case LowFour (least_head (windows_of p.ignore_case p.words)) p.words))

-- it comes first of these
abbrev pub windows_or_other : Patterns → Option Searcher
windows_or_other p = option_or (windows_for p) (heads_or_strided p)

-- whether a search that looks at heads is better than a search
abbrev pub is_passed_by : Searcher → Bool
is_passed_by (Memmem needle) = false
is_passed_by (Memchr x) = stops_in_words (Memchr x)
is_passed_by (Memchr2 x y) = stops_in_words (Memchr2 x y)
is_passed_by (Memchr3 x y z) = stops_in_words (Memchr3 x y z)
is_passed_by (Packed packed) = true
is_passed_by (PackedHeads search) = false
is_passed_by (Windows windows) = false
is_passed_by (Strided marks) = false

-- the same where it may be that none is held
abbrev pub yields : Option Searcher → Bool
yields None = true
yields (Some searcher) = is_passed_by searcher

-- which search is held where each of them may be
abbrev pub quickest_for : Patterns → Option Searcher
quickest_for p =
    if yields (held_or_packed p) then option_or (windows_or_other p) (held_or_packed p) else held_or_packed p

-- the patterns with one more behind them
abbrev pub with_word : Patterns → List ℕ → Patterns
with_word p word = record p { words = p.words ++ word ∷ [] }

-- these words, as patterns
abbrev pub patterns_from : MatchKind → Bool → List (List ℕ) → Patterns
patterns_from kind ignore_case words = record { words = words; kind = kind; ignore_case = ignore_case }

-- the patterns under another kind
abbrev pub under : MatchKind → Patterns → Patterns
under kind p = record p { kind = kind }
