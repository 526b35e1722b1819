-- What a packed search with heads looks for: places whose first bytes meet the masks of some group, and whose head is one of
-- those of the patterns.
use Rattle.std.specs.Prelude.{◌≡◌, ◌≢◌, ◌↔◌, ℕ, ◌+◌, ◌-◌, ◌*◌, ◌/◌, ◌%◌, ◌^◌, ◌<◌, ◌≤◌, min, Bool, List, [], length, slice_index, slice_index_or, bit_and, nat_lt, if◌then◌else◌, Option, Some, None}
use Rattle.std.specs.Int.{bit_at}
use Rattle.std.specs.List.{fold}
use Rattle.memchr.specs.Find.{IsFirst, Nowhere}
use Rattle.aho_prefilter.specs.Packed.{groups_at, groups_of, low_groups_at, low_groups_of, masks_with_place, no_masks, packed_none, packed_with_groups}
use Rattle.aho_prefilter.specs.Heads.{HeadMarks, StandsHead, heads_with, no_heads}
use Rattle.aho_prefilter.specs.Strided.{caseless}
use Rattle.aho_prefilter.specs.declared.packed_heads.Block.{Block}
use Rattle.aho_prefilter.specs.declared.packed_heads.PackedHeads.{PackedHeads}
use Rattle.aho_prefilter.specs.declared.packed_heads.Tested.{Tested}
use Rattle.aho_prefilter.specs.declared.packed_heads.Tested.TheVariants.{Four, LowFour, LowFive, LowSix}

-- the groups that a place and the three behind it meet; past the end of the bytes zeros stand
abbrev pub four_groups_at : PackedHeads → List ℕ → ℕ → ℕ
four_groups_at search bytes at =
    bit_and (groups_at search.packed bytes at) (groups_of search.fourth (slice_index bytes (at + 3)))

-- the groups that they meet by their low halves
abbrev pub low_four_at : PackedHeads → List ℕ → ℕ → ℕ
low_four_at search bytes at =
    bit_and (low_groups_at search.packed bytes at) (low_groups_of search.fourth (slice_index bytes (at + 3)))

-- the same of a place and the four behind it
abbrev pub low_five_at : PackedHeads → List ℕ → ℕ → ℕ
low_five_at search bytes at = bit_and (low_four_at search bytes at) (low_groups_of search.fifth (slice_index bytes (at + 4)))

-- and of a place and the five behind it
abbrev pub low_six_at : PackedHeads → List ℕ → ℕ → ℕ
low_six_at search bytes at = bit_and (low_five_at search bytes at) (low_groups_of search.sixth (slice_index bytes (at + 5)))

-- the groups that a place and those behind it meet by these halves
abbrev pub tested_groups_at : Tested → PackedHeads → List ℕ → ℕ → ℕ
tested_groups_at Four search bytes at = four_groups_at search bytes at
tested_groups_at LowFour search bytes at = low_four_at search bytes at
tested_groups_at LowFive search bytes at = low_five_at search bytes at
tested_groups_at LowSix search bytes at = low_six_at search bytes at

-- how many bytes are looked up
abbrev pub bytes_tested : Tested → ℕ
bytes_tested Four = 4
bytes_tested LowFour = 4
bytes_tested LowFive = 5
bytes_tested LowSix = 6

-- the place meets some group by these halves
abbrev pub MeetsBy : Tested → PackedHeads → List ℕ → ℕ → Type 0
MeetsBy tested search bytes at = tested_groups_at tested search bytes at ≢ 0

-- the place meets some group
abbrev pub MeetsTestedAt : PackedHeads → List ℕ → ℕ → Type 0
MeetsTestedAt search bytes at = MeetsBy search.tested search bytes at

-- and the bit of its head is set
pub record MeetsHeadAt (search : PackedHeads) (bytes : List ℕ) (at : ℕ) : Type 0 where
  pub meets : MeetsTestedAt search bytes at
  pub head : StandsHead search.heads bytes at

-- and there are as many bytes as a head has
pub record MayStartAt (search : PackedHeads) (bytes : List ℕ) (at : ℕ) : Type 0 where
  pub meets : MeetsHeadAt search bytes at
  pub fits : at + search.heads.size ≤ length bytes

-- the first such place
abbrev pub IsFirstHeaded : PackedHeads → List ℕ → Option ℕ → Type 0
IsFirstHeaded search bytes at = IsFirst (MayStartAt search bytes) 0 (length bytes) at

-- the place is told by its bit among those from a place on, and the bit of its head is set
pub record TellsHeadAt (heads : HeadMarks) (bytes : List ℕ) (from met : ℕ) (at : ℕ) : Type 0 where
  pub told : bit_at met (at - from) ≡ 1
  pub head : StandsHead heads bytes at

-- the bits are those of the places among thirty-two from this one on that meet some group by these halves
pub record AreBitsOf (tested : Tested) (search : PackedHeads) (bytes : List ℕ) (at met : ℕ) : Type 0 where
  pub few : (k : ℕ) → bit_at met k ≡ 1 → k < 32
  pub each : (k : ℕ) → k < 32 → (bit_at met k ≡ 1) ↔ MeetsBy tested search bytes (at + k)

-- the first of so many blocks, from one on, of which some places meet a group by these halves
pub record IsBlock (tested : Tested) (search : PackedHeads) (bytes : List ℕ) (from blocks : ℕ) (block : Block) : Type 0 where
  pub low : from ≤ block.number
  pub high : block.number < blocks
  pub bits : AreBitsOf tested search bytes (block.number * 32) block.met
  pub none : Nowhere (MeetsBy tested search bytes) (from * 32) (block.number * 32)

abbrev pub IsNextBlock : Tested → PackedHeads → List ℕ → ℕ → ℕ → Option Block → Type 0
IsNextBlock tested search bytes from blocks None = Nowhere (MeetsBy tested search bytes) (from * 32) (blocks * 32)
IsNextBlock tested search bytes from blocks (Some block) = IsBlock tested search bytes from blocks block

-- the first four bytes of a word, as a number by which words are ordered
abbrev pub order_of : Bool → List ℕ → ℕ
order_of ignore_case word =
    caseless ignore_case (slice_index word 3)
    + 256 * (caseless ignore_case (slice_index word 2)
    + 256 * (caseless ignore_case (slice_index word 1)
    + 256 * caseless ignore_case (slice_index word 0)))

-- how many of these words come before a word
abbrev pub count_before : Bool → List (List ℕ) → List ℕ → ℕ
count_before ignore_case words word =
    fold (λ count other. if nat_lt (order_of ignore_case other) (order_of ignore_case word) then count + 1 else count) 0 words

-- the number of a word's group among all words: up to a hundred words are eight runs in order, and of more words the first byte
-- tells it
abbrev pub number_among : Bool → List (List ℕ) → List ℕ → ℕ
number_among ignore_case words word =
    if nat_lt 100 (length words) then slice_index word 0 % 8
    else min (count_before ignore_case words word * 8 / length words) 7

-- the group as a bit
abbrev pub group_among : Bool → List (List ℕ) → List ℕ → ℕ
group_among ignore_case words word = 2 ^ number_among ignore_case words word

-- the search with one more word, which belongs to these groups
abbrev pub packed_heads_with : Bool → ℕ → PackedHeads → List ℕ → PackedHeads
packed_heads_with ignore_case groups search word = record {
  tested = search.tested;
  packed = packed_with_groups ignore_case groups search.packed word;
  fourth = masks_with_place ignore_case groups search.fourth word 3;
  fifth = masks_with_place ignore_case groups search.fifth word 4;
  sixth = masks_with_place ignore_case groups search.sixth word 5;
  heads = heads_with search.heads word;
}

-- the search for no word
abbrev pub packed_heads_none : Bool → Tested → ℕ → PackedHeads
packed_heads_none ignore_case tested size = record {
  tested = tested;
  packed = packed_none;
  fourth = no_masks;
  fifth = no_masks;
  sixth = no_masks;
  heads = no_heads size ignore_case;
}

-- the search for these words, which are added one after another
abbrev pub packed_heads_of : Bool → Tested → ℕ → List (List ℕ) → PackedHeads
packed_heads_of ignore_case tested size words =
    fold (λ search word. packed_heads_with ignore_case (group_among ignore_case words word) search word)
    (packed_heads_none ignore_case tested size)
    words

-- each word has so many bytes
abbrev pub HaveSize : ℕ → List (List ℕ) → Type 0
HaveSize size words = (k : ℕ) → k < length words → size ≤ length (slice_index_or words k [])
