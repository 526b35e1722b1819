-- Words that were added to a packed search with heads meet its masks and have their heads wherever they stand.
use Rattle.std.proofs.Common.{◌≡◌, ℕ, ◌+◌, ◌/◌, ◌%◌, ◌^◌, ◌<◌, ◌≤◌, zero, suc, Bool, List, [], ◌∷◌, get_or, length, refl, sym, ap, subst, ◌∙◌, arith}
use Rattle.std.specs.Prelude.{bit_and}
use Rattle.std.specs.List.{fold}
use Rattle.std.proofs.lemmas.Nat.{mod_below}
use Rattle.std.proofs.lemmas.Nat.Bits.{bit_at-pow_same}
use Rattle.aho_prefilter.specs.Heads.{StandsHead}
use Rattle.aho_prefilter.specs.Packed.{groups_at, groups_of, low_groups_of}
use Rattle.aho_prefilter.specs.PackedHeads.{MayStartAt, MeetsHeadAt, group_among, low_five_at, low_four_at, number_among, packed_heads_none, packed_heads_of, packed_heads_with, tested_groups_at}
use Rattle.aho_prefilter.specs.Strided.{HasMark, caseless, hash_of_head, with_mark}
use Rattle.aho_prefilter.specs.declared.packed.Masks.{Masks}
use Rattle.aho_prefilter.specs.declared.packed_heads.PackedHeads.{PackedHeads}
use Rattle.aho_prefilter.specs.declared.packed_heads.Tested.{Tested}
use Rattle.aho_prefilter.specs.declared.packed_heads.Tested.TheVariants.{Four, LowFour, LowFive, LowSix}
use Rattle.aho_prefilter.proofs.Caseless.{caseless-same}
use Rattle.aho_prefilter.proofs.PackedSound.{Grows-place, HasBit, HasBit-and, HasBit-of_and, HasBit-some, IsLong, IsLong-grows, IsLong-none, IsWhole, IsWhole-groups, KeepsMasks-groups, MeetsAll, MeetsAll-grows, MeetsAll-groups, MeetsGroup, MeetsGroup-grows, MeetsGroup-place, StandsAt}
use Rattle.aho_prefilter.proofs.Strides.{hash_of_head-same}
use Rattle.aho_prefilter.proofs.StridedSound.{HasMark-keeps, HasMark-with, Keeps-with_mark}
use Rattle.aho_prefilter.proofs.Tables.{length-with_mark}

-- all tables have an entry for each half of a byte, and that of heads has some
record IsWholeSearch (search : PackedHeads) : Type 0 where
  packed : IsWhole search.packed
  fourth : IsLong search.fourth
  fifth : IsLong search.fifth
  sixth : IsLong search.sixth
  table : 0 < length search.heads.table

-- the case rule and the size of a head
record HasRule (search : PackedHeads) (ignore_case : Bool) (head : ℕ) : Type 0 where
  rule : search.heads.ignore_case ≡ ignore_case
  size : search.heads.size ≡ head

-- a place and the five behind it meet the group of this number, and the bit of its head is set
record MeetsEach (search : PackedHeads) (bytes : List ℕ) (at i : ℕ) : Type 0 where
  packed : MeetsAll search.packed bytes at i
  fourth : MeetsGroup search.fourth i (get_or bytes (at + 3) 0)
  fifth : MeetsGroup search.fifth i (get_or bytes (at + 4) 0)
  sixth : MeetsGroup search.sixth i (get_or bytes (at + 5) 0)
  head : StandsHead search.heads bytes at

module _ (rule : Bool) where
  IsWholeSearch-with : (groups : ℕ) (search : PackedHeads) (word : List ℕ) → IsWholeSearch search → IsWholeSearch (packed_heads_with rule groups search word)
  IsWholeSearch-with groups search word whole =
      let hash = hash_of_head search.heads.ignore_case search.heads.size word 0 in
      record {
        packed = IsWhole-groups rule groups search.packed word whole.packed;
        fourth = IsLong-grows search.fourth (packed_heads_with rule groups search word).fourth (Grows-place rule groups search.fourth word 3) whole.fourth;
        fifth = IsLong-grows search.fifth (packed_heads_with rule groups search word).fifth (Grows-place rule groups search.fifth word 4) whole.fifth;
        sixth = IsLong-grows search.sixth (packed_heads_with rule groups search word).sixth (Grows-place rule groups search.sixth word 5) whole.sixth;
        table = omega (arith, whole.table, length-with_mark search.heads.table hash);
      }

  module _ (bytes : List ℕ) (at : ℕ) where
    -- the low halves alone
    low : (masks : Masks) (i byte : ℕ) → MeetsGroup masks i byte → HasBit (low_groups_of masks byte) i
    low masks i byte meets = (HasBit-of_and (low_groups_of masks byte) (get_or masks.high (byte / 16 % 16) 0) i meets).0

    low_four : (search : PackedHeads) (i : ℕ) → MeetsEach search bytes at i → HasBit (low_four_at search bytes at) i
    low_four search i meets =
        let first = low search.packed.first i (get_or bytes at 0) meets.packed.first in
        let second = low search.packed.second i (get_or bytes (at + 1) 0) meets.packed.second in
        let third = low search.packed.third i (get_or bytes (at + 2) 0) meets.packed.third in
        let fourth = low search.fourth i (get_or bytes (at + 3) 0) meets.fourth in
        HasBit-and _ _ i (HasBit-and _ _ i (HasBit-and _ _ i first second) third) fourth

    low_five : (search : PackedHeads) (i : ℕ) → MeetsEach search bytes at i → HasBit (low_five_at search bytes at) i
    low_five search i meets = HasBit-and _ _ i (low_four search i meets) (low search.fifth i (get_or bytes (at + 4) 0) meets.fifth)

    -- the group is met by whichever halves are tested
    tested_has : (tested : Tested) (search : PackedHeads) (i : ℕ) → MeetsEach search bytes at i → HasBit (tested_groups_at tested search bytes at) i
    tested_has Four search i meets =
        let first = groups_of search.packed.first (get_or bytes at 0) in
        let second = groups_of search.packed.second (get_or bytes (at + 1) 0) in
        let third = groups_of search.packed.third (get_or bytes (at + 2) 0) in
        let fourth = groups_of search.fourth (get_or bytes (at + 3) 0) in
        let two : HasBit (bit_and first second) i = HasBit-and first second i meets.packed.first meets.packed.second in
        let three : HasBit (groups_at search.packed bytes at) i = HasBit-and (bit_and first second) third i two meets.packed.third in
        HasBit-and (groups_at search.packed bytes at) fourth i three meets.fourth
    tested_has LowFour search i meets = low_four search i meets
    tested_has LowFive search i meets = low_five search i meets
    tested_has LowSix search i meets = HasBit-and _ _ i (low_five search i meets) (low search.sixth i (get_or bytes (at + 5) 0) meets.sixth)

    MeetsEach-meets : (search : PackedHeads) (i : ℕ) → MeetsEach search bytes at i → MeetsHeadAt search bytes at
    MeetsEach-meets search i meets = record {
      meets = HasBit-some (tested_groups_at search.tested search bytes at) i (tested_has search.tested search i meets);
      head = meets.head;
    }

    -- what a search meets it meets with one more word
    MeetsEach-kept : (groups : ℕ) (search : PackedHeads) (word : List ℕ) (i : ℕ) → MeetsEach search bytes at i → MeetsEach (packed_heads_with rule groups search word) bytes at i
    MeetsEach-kept groups search word i meets =
        let new = packed_heads_with rule groups search word in
        let hash = hash_of_head search.heads.ignore_case search.heads.size word 0 in
        record {
          packed = MeetsAll-grows bytes at search.packed new.packed i (KeepsMasks-groups rule groups search.packed word) meets.packed;
          fourth = MeetsGroup-grows search.fourth new.fourth i (get_or bytes (at + 3) 0) (Grows-place rule groups search.fourth word 3) meets.fourth;
          fifth = MeetsGroup-grows search.fifth new.fifth i (get_or bytes (at + 4) 0) (Grows-place rule groups search.fifth word 4) meets.fifth;
          sixth = MeetsGroup-grows search.sixth new.sixth i (get_or bytes (at + 5) 0) (Grows-place rule groups search.sixth word 5) meets.sixth;
          head =
              HasMark-keeps search.heads.table (with_mark search.heads.table hash) (hash_of_head search.heads.ignore_case search.heads.size bytes at)
              (Keeps-with_mark search.heads.table hash) meets.head;
        }

    -- a word that was just added
    MeetsEach-with : (groups i size : ℕ) (search : PackedHeads) (word : List ℕ) → HasBit groups i → IsWholeSearch search → HasRule search rule size
        → size ≤ length word → StandsAt rule word bytes at → MeetsEach (packed_heads_with rule groups search word) bytes at i
    MeetsEach-with groups i size search word has whole is long stands =
        let heads = search.heads in
        let hash = hash_of_head heads.ignore_case heads.size word 0 in
        let same : hash ≡ hash_of_head heads.ignore_case heads.size bytes at =
        hash_of_head-same heads.ignore_case heads.size word 0 bytes at
        (λ k below.
        let moved : 0 + k ≡ k = omega arith in
        let equal : caseless rule (get_or word k 0) ≡ caseless rule (get_or bytes (at + k) 0) = caseless-same rule _ _ (stands k (omega (arith, below, is.size, long))) in
        ap (λ n. caseless heads.ignore_case (get_or word n 0)) moved
        ∙ subst (λ r. caseless r (get_or word k 0) ≡ caseless r (get_or bytes (at + k) 0)) (sym is.rule) equal) in
        record {
          packed = MeetsAll-groups bytes at rule search.packed word groups i has whole.packed stands;
          fourth = MeetsGroup-place groups i has rule search.fourth word 3 (get_or bytes (at + 3) 0) whole.fourth (stands 3);
          fifth = MeetsGroup-place groups i has rule search.fifth word 4 (get_or bytes (at + 4) 0) whole.fifth (stands 4);
          sixth = MeetsGroup-place groups i has rule search.sixth word 5 (get_or bytes (at + 5) 0) whole.sixth (stands 5);
          head = subst (HasMark (with_mark heads.table hash)) same (HasMark-with heads.table hash whole.table (mod_below _ (2 ^ 64) (omega arith)));
        }

    module _ (all : List (List ℕ)) where
      abbrev step : PackedHeads → List ℕ → PackedHeads
      step search word = packed_heads_with rule (group_among rule all word) search word

      MeetsEach-more : (words : List (List ℕ)) (search : PackedHeads) (i : ℕ) → MeetsEach search bytes at i → MeetsEach (fold step search words) bytes at i
      MeetsEach-more [] search i meets = meets
      MeetsEach-more (word ∷ words) search i meets = MeetsEach-more words (step search word) i (MeetsEach-kept (group_among rule all word) search word i meets)

      -- a place where a word that was added stands
      MeetsHeadAt-added : (words : List (List ℕ)) (size : ℕ) (search : PackedHeads) (k : ℕ) → IsWholeSearch search → HasRule search rule size → k < length words
          → size ≤ length (get_or words k []) → StandsAt rule (get_or words k []) bytes at → MeetsHeadAt (fold step search words) bytes at
      MeetsHeadAt-added [] size search k whole is below long stands = absurd (omega arith)
      MeetsHeadAt-added (word ∷ words) size search zero whole is below long stands =
          let i = number_among rule all word in
          MeetsEach-meets (fold step search (word ∷ words)) i
          (MeetsEach-more words (step search word) i (MeetsEach-with (group_among rule all word) i size search word (bit_at-pow_same i) whole is long stands))
      MeetsHeadAt-added (word ∷ words) size search (suc k) whole is below long stands =
          MeetsHeadAt-added words size (step search word) k (IsWholeSearch-with (group_among rule all word) search word whole) (record { rule = is.rule; size = is.size }) (omega arith) long stands

-- more words do not change the size
pub fold-size : (rule : Bool) (all words : List (List ℕ)) (search : PackedHeads)
    → (fold (λ s word. packed_heads_with rule (group_among rule all word) s word) search words).heads.size ≡ search.heads.size
fold-size rule all [] search = refl
fold-size rule all (word ∷ words) search = fold-size rule all words (packed_heads_with rule (group_among rule all word) search word)

-- a pattern may start where one of the words stands
pub MayStartAt-stands : (rule : Bool) (tested : Tested) (size : ℕ) (words : List (List ℕ)) (bytes : List ℕ) (k at : ℕ) → k < length words → size ≤ length (get_or words k [])
    → StandsAt rule (get_or words k []) bytes at → at + length (get_or words k []) ≤ length bytes → MayStartAt (packed_heads_of rule tested size words) bytes at
MayStartAt-stands rule tested size words bytes k at below long stands within = record {
  meets =
      MeetsHeadAt-added rule bytes at words words size (packed_heads_none rule tested size) k
      (record { packed = record { first = IsLong-none; second = IsLong-none; third = IsLong-none }; fourth = IsLong-none; fifth = IsLong-none; sixth = IsLong-none; table = omega arith })
      (record { rule = refl; size = refl }) below long stands;
  fits = omega (arith, fold-size rule words words (packed_heads_none rule tested size));
}
