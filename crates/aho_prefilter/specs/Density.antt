-- How many places of a text meet a packed search with heads, by an estimate.
use Rattle.std.specs.Prelude.{ℕ, zero, suc, ◌+◌, ◌*◌, max, Bool, ◌||◌, nat_eq, if◌then◌else◌}
use Rattle.std.specs.Char.{is_ascii_digit, is_ascii_lowercase, is_ascii_uppercase}
use Rattle.std.specs.Int.{bit_at}
use Rattle.aho_prefilter.specs.Packed.{groups_of}
use Rattle.aho_prefilter.specs.declared.packed.Masks.{Masks}
use Rattle.aho_prefilter.specs.declared.packed_heads.PackedHeads.{PackedHeads}

-- whether a byte is one of the letters e, t, a, o, i, n, s and r
abbrev pub is_common : ℕ → Bool
is_common byte =
    nat_eq byte 101
    || (nat_eq byte 116
    || (nat_eq byte 97
    || (nat_eq byte 111
    || (nat_eq byte 105
    || (nat_eq byte 110
    || (nat_eq byte 115
    || nat_eq byte 114))))))

-- how many of 1,024 bytes of a text are this one, roughly: 32 is the space
abbrev pub weight : ℕ → ℕ
weight byte =
    if nat_eq byte 32 then 128
    else if is_common byte then 52
    else if is_ascii_lowercase byte then 13
    else if is_ascii_digit byte then 5
    else if is_ascii_uppercase byte then 3
    else 1

-- how many of them are below a byte and meet the group of this number by both of their halves, where each stands so many times at
-- least
unfoldable pub share_below : Masks → ℕ → ℕ → ℕ → ℕ
share_below masks least group zero = 0
share_below masks least group (suc byte) =
    share_below masks least group byte + max (weight byte) least * bit_at (groups_of masks byte) group

-- the same of all bytes
abbrev pub share_of : Masks → ℕ → ℕ → ℕ
share_of masks least group = share_below masks least group 256

-- how many of 2 ^ 40 places meet the group of this number by both halves of four bytes, each as if it stood there by chance
abbrev pub places_met_by : PackedHeads → ℕ → ℕ → ℕ
places_met_by search least group =
    share_of search.packed.first least group * share_of search.packed.second least group
    * (share_of search.packed.third least group * share_of search.fourth least group)

-- how many meet one of so many groups
unfoldable pub places_below : PackedHeads → ℕ → ℕ → ℕ
places_below search least zero = 0
places_below search least (suc group) = places_below search least group + places_met_by search least group

-- how many of 2 ^ 40 places of a text meet a group, roughly
abbrev pub density : PackedHeads → ℕ → ℕ
density search least = places_below search least 8
