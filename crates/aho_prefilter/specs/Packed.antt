-- What a packed search looks for: places whose first three bytes meet the masks of some group.
use Rattle.std.specs.Prelude.{◌≡◌, ◌≢◌, ℕ, ◌+◌, ◌<◌, ◌/◌, ◌%◌, ◌^◌, Bool, List, length, map, replicate, slice_index, slice_set, nat_lt, if◌then◌else◌, bit_and, bit_or, Option}
use Rattle.std.specs.List.{fold}
use Rattle.memchr.specs.Find.{IsFirst}
use Rattle.aho_core.specs.Bytes.{opposite}
use Rattle.aho_prefilter.specs.declared.packed.Masks.{Masks}
use Rattle.aho_prefilter.specs.declared.packed.Packed.{Packed}

-- v has 32 lanes, and lane k holds f k
pub record HasLanes (v : List ℕ) (f : ℕ → ℕ) : Type 0 where
  pub long : length v ≡ 32
  pub each : (k : ℕ) → k < 32 → slice_index v k ≡ f k

-- the groups that a byte meets, a bit for each: those of both of its halves
abbrev pub groups_of : Masks → ℕ → ℕ
groups_of masks byte = bit_and (slice_index masks.low (byte % 16)) (slice_index masks.high (byte / 16 % 16))

-- the groups that a byte meets by its low half alone
abbrev pub low_groups_of : Masks → ℕ → ℕ
low_groups_of masks byte = slice_index masks.low (byte % 16)

-- the groups that a place and the two behind it meet; past the end of the bytes zeros stand
abbrev pub groups_at : Packed → List ℕ → ℕ → ℕ
groups_at packed bytes at =
    bit_and
    (bit_and (groups_of packed.first (slice_index bytes at)) (groups_of packed.second (slice_index bytes (at + 1))))
    (groups_of packed.third (slice_index bytes (at + 2)))

-- the groups that they meet by their low halves alone
abbrev pub low_groups_at : Packed → List ℕ → ℕ → ℕ
low_groups_at packed bytes at =
    bit_and
    (bit_and (low_groups_of packed.first (slice_index bytes at)) (low_groups_of packed.second (slice_index bytes (at + 1))))
    (low_groups_of packed.third (slice_index bytes (at + 2)))

-- the place meets some group
abbrev pub MeetsAt : Packed → List ℕ → ℕ → Type 0
MeetsAt packed bytes at = groups_at packed bytes at ≢ 0

-- the first place of these bytes that meets some group
abbrev pub IsFirstMet : Packed → List ℕ → Option ℕ → Type 0
IsFirstMet packed bytes at = IsFirst (MeetsAt packed bytes) 0 (length bytes) at

-- the masks that no byte meets
abbrev pub no_masks : Masks
no_masks = record { low = replicate 16 0; high = replicate 16 0 }

-- the masks with one more byte that meets these groups
abbrev pub masks_with : ℕ → Masks → ℕ → Masks
masks_with groups masks byte = record {
  low = slice_set masks.low (byte % 16) (bit_or (slice_index masks.low (byte % 16)) groups);
  high = slice_set masks.high (byte / 16 % 16) (bit_or (slice_index masks.high (byte / 16 % 16)) groups);
}

-- the same with the byte's other case, under the case rule
abbrev pub masks_with_cases : Bool → ℕ → Masks → ℕ → Masks
masks_with_cases ignore_case groups masks byte =
    if ignore_case then masks_with groups (masks_with groups masks byte) (opposite byte) else masks_with groups masks byte

-- the masks where every byte meets these groups
abbrev pub masks_with_all : ℕ → Masks → Masks
masks_with_all groups masks = record { low = map (λ x. bit_or x groups) masks.low; high = map (λ x. bit_or x groups) masks.high }

-- the masks of one place of the fingerprints with one more word; behind its end stands every byte
abbrev pub masks_with_place : Bool → ℕ → Masks → List ℕ → ℕ → Masks
masks_with_place ignore_case groups masks word place =
    if nat_lt place (length word) then masks_with_cases ignore_case groups masks (slice_index word place) else masks_with_all groups masks

-- the group of a word, as a bit: by its first byte, alike for both cases
abbrev pub group_of : List ℕ → ℕ
group_of word = 2 ^ (slice_index word 0 % 8)

-- the search with one more word, which belongs to these groups
abbrev pub packed_with_groups : Bool → ℕ → Packed → List ℕ → Packed
packed_with_groups ignore_case groups packed word = record {
  first = masks_with_place ignore_case groups packed.first word 0;
  second = masks_with_place ignore_case groups packed.second word 1;
  third = masks_with_place ignore_case groups packed.third word 2;
}

-- the search with one more word
abbrev pub packed_with : Bool → Packed → List ℕ → Packed
packed_with ignore_case packed word = packed_with_groups ignore_case (group_of word) packed word

-- the search for no word, which stops nowhere
abbrev pub packed_none : Packed
packed_none = record { first = no_masks; second = no_masks; third = no_masks }

-- the search for these words, which are added one after another
abbrev pub packed_of : Bool → List (List ℕ) → Packed
packed_of ignore_case words = fold (packed_with ignore_case) packed_none words
