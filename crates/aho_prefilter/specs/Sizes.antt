-- For which patterns a strided search is held, and with what sizes.
use Rattle.std.specs.Prelude.{ℕ, zero, suc, ◌+◌, ◌-◌, ◌*◌, ◌/◌, ◌^◌, min, max, Bool, not, ◌&&◌, ◌||◌, List, length, nat_le, nat_lt, if◌then◌else◌, Option, Some, None}
use Rattle.std.specs.List.{fold, list_any}
use Rattle.aho_prefilter.specs.Density.{density}
use Rattle.aho_prefilter.specs.FirstBytes.{has_byte}
use Rattle.aho_prefilter.specs.declared.packed_heads.PackedHeads.{PackedHeads}
use Rattle.aho_prefilter.specs.declared.packed_heads.Tested.{Tested}
use Rattle.aho_prefilter.specs.declared.packed_heads.Tested.TheVariants.{Four, LowFour, LowFive, LowSix}
use Rattle.aho_prefilter.specs.declared.strided.sizes.Shape.{Shape}
use Rattle.aho_prefilter.specs.declared.strided.sizes.Sizes.{Sizes}

-- the least length of a word, but sixteen at most
abbrev pub least_head : List (List ℕ) → ℕ
least_head words = fold (λ head word. min head (length word)) 16 words

-- whether a byte stands in some word
abbrev pub is_used : List (List ℕ) → ℕ → Bool
is_used words byte = list_any (λ word. has_byte word byte) words

-- how many of the numbers below this one stand in some word
unfoldable pub used_below : List (List ℕ) → ℕ → ℕ
used_below words zero = 0
used_below words (suc byte) = used_below words byte + (if is_used words byte then 1 else 0)

-- how many words there are, the least length, of how many bytes they are made, and the case rule
abbrev pub shape_of : Bool → List (List ℕ) → Shape
shape_of ignore_case words = record {
  count = length words;
  head = least_head words;
  letters = used_below words 256;
  ignore_case = ignore_case;
}

-- whether more than thirty-two patterns have heads for which a packed search is better than a strided one: short ones, or
-- those of words
abbrev pub has_heads : Shape → Bool
has_heads s = nat_le 3 s.head && (nat_le s.head 5 || (nat_le s.head 7 && (nat_lt 8 s.letters && nat_le s.letters 32)))

-- whether there are a few patterns, and they are long enough, or so many that three bytes of them stand at many places of a
-- text
abbrev pub is_few : Shape → Bool
is_few s =
    nat_le 1 s.count
    && (nat_le 2 s.head && ((nat_le s.count 32 && (nat_le 4 s.head || nat_le 8 s.count)) || (nat_le s.count 100 && has_heads s)))

-- which halves of how many bytes a packed search with heads looks up: the more patterns, the more bytes; but both halves of
-- four, where the shortest has too few bytes, and for more than a few patterns
abbrev pub tested_for : Shape → Tested
tested_for s =
    if not (is_few s) || (nat_lt s.head 4 || ((nat_lt 20 s.count && nat_lt s.head 5) || (nat_lt 32 s.count && nat_lt s.head 6))) then Four
    else if nat_lt s.head 5 || nat_le s.count 8 then LowFour
    else if nat_lt s.head 6 || nat_le s.count 20 then LowFive
    else LowSix

-- whether there are so many that a packed search with heads is held only where few places meet it
abbrev pub is_many : Shape → Bool
is_many s = nat_lt 32 s.count && (nat_le 2 s.head && nat_lt 8 s.letters)

-- how many bytes a head has, if a packed search with heads may be held for patterns of this shape
abbrev pub heads_for : Shape → Option ℕ
heads_for s = if is_few s || is_many s then Some s.head else None

-- whether there are too few patterns for a strided search, or they are too short
abbrev pub is_small : Shape → Bool
is_small s =
    nat_lt s.head 5 || (nat_le s.count 32 || (nat_lt s.head 6 && (nat_le s.count 100 || nat_lt 8192 s.count)))

-- how many of 1,024 bytes of a text are one of which patterns are made, at least: where a strided search may be held too, the text
-- may be made of the same bytes
abbrev pub least_weight : Shape → ℕ
least_weight s = if is_small s then 0 else 1024 / max s.letters 8

-- whether few places of a text meet a search: one in sixty-four, or in as many as a fourth of the patterns, but one in 1,024 at
-- least
abbrev pub is_sparse : Shape → PackedHeads → Bool
is_sparse s search = nat_le (density search (least_weight s)) (2 ^ 40 / min (max (s.count / 4) 64) 1024)

-- whether this packed search with heads is the one for patterns of this shape: for a few, or where few places meet it
abbrev pub takes : Shape → PackedHeads → Bool
takes s search = is_few s || is_sparse s search

-- whether patterns are made of so many different bytes that they may be any
abbrev pub is_random : Shape → Bool
is_random s = nat_lt 128 s.letters

-- how many bytes a gram has: more for few letters and for many patterns, so that few places of a text have one by chance
abbrev pub wanted_gram : Shape → ℕ
wanted_gram s =
    if nat_le s.letters 8 then 8
    else if is_random s then 4
    else if nat_le s.count 200 then 4
    else if nat_le s.count 8192 then (s.head + 2) / 2
    else (s.head + 4) / 2

-- but four at least, and eight at most, and fewer than a head has
abbrev pub gram_for : Shape → ℕ
gram_for s = min (min (max (wanted_gram s) 4) 8) (s.head - 1)

-- for how many places one gram is looked up: for as many as have all of it within the head, but eight at most
abbrev pub stride_for : Shape → ℕ
stride_for s = min (s.head + 1 - gram_for s) 8

-- whether half of all grams of these few letters, or more, would have their bits set
abbrev pub is_crowded : Shape → Bool
is_crowded s = nat_le s.letters 8 && (nat_lt s.head 12 && nat_lt (s.letters ^ gram_for s / (2 * stride_for s)) s.count)

-- whether the first bytes of a gram tell where its two bits are: for many patterns, and for those of any bytes
abbrev pub has_lines : Shape → Bool
has_lines s = nat_lt 8192 s.count || is_random s

-- how many grams are marked
abbrev pub grams_marked : Shape → ℕ
grams_marked s = min s.count (2 ^ 18) * stride_for s

-- how many words the table of grams has: one for each, or more of them for a few; fewer for patterns of any bytes, since a text of
-- any bytes meets all of the table
abbrev pub words_for : Shape → ℕ
words_for s =
    if is_random s then min (grams_marked s / 2) (2 ^ 16)
    else max (grams_marked s) (min (3 * grams_marked s) 8192)

-- the sizes for patterns of this shape, if a strided search is held for them
abbrev pub sizes_for : Shape → Option Sizes
sizes_for s =
    if is_small s then None
    else if is_crowded s then None
    else Some (record {
      gram = gram_for s;
      stride = stride_for s;
      head = s.head;
      ignore_case = s.ignore_case;
      lines = has_lines s;
      words = words_for s;
    })
