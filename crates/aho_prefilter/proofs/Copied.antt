-- What the last places of some bytes meet, copied in front of zeros.
use Rattle.std.proofs.Common.{bit_and, ◌≡◌, ℕ, ◌+◌, ◌-◌, ◌<◌, ◌≤◌, List, get_or, length, sym, ap, subst, ◌∙◌, arith}
use Rattle.std.specs.Prelude.{Some}
use Rattle.memchr.specs.Find.{IsFirst, Nowhere}
use Rattle.aho_prefilter.specs.Packed.{groups_at, groups_of, low_groups_at, low_groups_of}
use Rattle.aho_prefilter.specs.PackedHeads.{MayStartAt, MeetsHeadAt, low_five_at, low_four_at, tested_groups_at}
use Rattle.aho_prefilter.specs.Strided.{HasMark, caseless, hash_of_head}
use Rattle.aho_prefilter.specs.declared.packed.Packed.{Packed}
use Rattle.aho_prefilter.specs.declared.packed_heads.PackedHeads.{PackedHeads}
use Rattle.aho_prefilter.specs.declared.packed_heads.Tested.{Tested}
use Rattle.aho_prefilter.specs.declared.packed_heads.Tested.TheVariants.{Four, LowFour, LowFive, LowSix}
use Rattle.aho_prefilter.proofs.Strides.{hash_of_head-same}

module _ (bytes rest : List ℕ) (from : ℕ) (same : (k : ℕ) → get_or rest k 0 ≡ get_or bytes (from + k) 0) where
  -- what is looked up at three places is looked up at the copied ones
  three-copied : (f g h : ℕ → ℕ) (k : ℕ) → bit_and (bit_and (f (get_or rest k 0)) (g (get_or rest (k + 1) 0))) (h (get_or rest (k + 2) 0))
      ≡ bit_and (bit_and (f (get_or bytes (from + k) 0)) (g (get_or bytes (from + k + 1) 0))) (h (get_or bytes (from + k + 2) 0))
  three-copied f g h k =
      let second : get_or rest (k + 1) 0 ≡ get_or bytes (from + k + 1) 0 = same (k + 1) ∙ ap (λ (i : ℕ). get_or bytes i 0) (omega arith) in
      let third : get_or rest (k + 2) 0 ≡ get_or bytes (from + k + 2) 0 = same (k + 2) ∙ ap (λ (i : ℕ). get_or bytes i 0) (omega arith) in
      ap (λ (x : ℕ). bit_and (bit_and (f x) (g (get_or rest (k + 1) 0))) (h (get_or rest (k + 2) 0))) (same k)
      ∙ ap (λ (x : ℕ). bit_and (bit_and (f (get_or bytes (from + k) 0)) (g x)) (h (get_or rest (k + 2) 0))) second
      ∙ ap (λ (x : ℕ). bit_and (bit_and (f (get_or bytes (from + k) 0)) (g (get_or bytes (from + k + 1) 0))) (h x)) third

  -- and so is what is looked up at a further one
  next-copied : (x y : ℕ) (g : ℕ → ℕ) (k j : ℕ) → x ≡ y → bit_and x (g (get_or rest (k + j) 0)) ≡ bit_and y (g (get_or bytes (from + k + j) 0))
  next-copied x y g k j equal =
      let next : get_or rest (k + j) 0 ≡ get_or bytes (from + k + j) 0 = same (k + j) ∙ ap (λ (i : ℕ). get_or bytes i 0) (omega arith) in
      ap (λ (n : ℕ). bit_and n (g (get_or rest (k + j) 0))) equal ∙ ap (λ (n : ℕ). bit_and y (g n)) next

  -- a place meets what it meets among the copied ones
  pub groups_at-copied : (packed : Packed) (k : ℕ) → groups_at packed rest k ≡ groups_at packed bytes (from + k)
  groups_at-copied packed k = three-copied (groups_of packed.first) (groups_of packed.second) (groups_of packed.third) k

  low_groups_at-copied : (packed : Packed) (k : ℕ) → low_groups_at packed rest k ≡ low_groups_at packed bytes (from + k)
  low_groups_at-copied packed k = three-copied (low_groups_of packed.first) (low_groups_of packed.second) (low_groups_of packed.third) k

module _ (search : PackedHeads) (bytes rest : List ℕ) (from : ℕ) (same : (k : ℕ) → get_or rest k 0 ≡ get_or bytes (from + k) 0) where
  low_four_at-copied : (k : ℕ) → low_four_at search rest k ≡ low_four_at search bytes (from + k)
  low_four_at-copied k = next-copied bytes rest from same _ _ (low_groups_of search.fourth) k 3 (low_groups_at-copied bytes rest from same search.packed k)

  low_five_at-copied : (k : ℕ) → low_five_at search rest k ≡ low_five_at search bytes (from + k)
  low_five_at-copied k = next-copied bytes rest from same _ _ (low_groups_of search.fifth) k 4 (low_four_at-copied k)

  tested_groups_at-copied : (tested : Tested) (k : ℕ) → tested_groups_at tested search rest k ≡ tested_groups_at tested search bytes (from + k)
  tested_groups_at-copied Four k = next-copied bytes rest from same _ _ (groups_of search.fourth) k 3 (groups_at-copied bytes rest from same search.packed k)
  tested_groups_at-copied LowFour k = low_four_at-copied k
  tested_groups_at-copied LowFive k = low_five_at-copied k
  tested_groups_at-copied LowSix k = next-copied bytes rest from same _ _ (low_groups_of search.sixth) k 5 (low_five_at-copied k)

  hash-copied : (k : ℕ) → hash_of_head search.heads.ignore_case search.heads.size rest k ≡ hash_of_head search.heads.ignore_case search.heads.size bytes (from + k)
  hash-copied k =
      hash_of_head-same search.heads.ignore_case search.heads.size rest k bytes (from + k)
      (λ j below.
      let moved : from + (k + j) ≡ from + k + j = omega arith in
      ap (λ byte. caseless search.heads.ignore_case byte) (same (k + j) ∙ ap (λ n. get_or bytes n 0) moved))

  MeetsHeadAt-copied : (k : ℕ) → MeetsHeadAt search bytes (from + k) → MeetsHeadAt search rest k
  MeetsHeadAt-copied k is = record {
    meets = λ none. is.meets (sym (tested_groups_at-copied search.tested k) ∙ none);
    head = subst (HasMark search.heads.table) (sym (hash-copied k)) is.head;
  }

  MeetsHeadAt-original : (k : ℕ) → MeetsHeadAt search rest k → MeetsHeadAt search bytes (from + k)
  MeetsHeadAt-original k is = record {
    meets = λ none. is.meets (tested_groups_at-copied search.tested k ∙ none);
    head = subst (HasMark search.heads.table) (hash-copied k) is.head;
  }

  -- none among the bytes where there is none in the copy, or where too few bytes are left
  pub Nowhere-original : (limit : ℕ) → Nowhere (MeetsHeadAt search rest) 0 limit → length bytes < from + limit + search.heads.size
      → Nowhere (MayStartAt search bytes) from (length bytes)
  Nowhere-original limit none few k low high may =
      let fits : k + search.heads.size ≤ length bytes = may.fits in
      let is : k ≡ from + (k - from) = omega arith in
      none (k - from) (omega arith) (omega arith) (MeetsHeadAt-copied (k - from) (subst (MeetsHeadAt search bytes) is may.meets))

  -- the first one of the copy is the first one of the bytes
  pub IsFirst-original : (at limit : ℕ) → IsFirst (MeetsHeadAt search rest) 0 limit (Some at) → from + at + search.heads.size ≤ length bytes → 0 < search.heads.size
      → IsFirst (MayStartAt search bytes) from (length bytes) (Some (from + at))
  IsFirst-original at limit found fits some = (
    record {
      low = omega arith;
      high = omega arith;
      before = λ k low high may.
          let is : k ≡ from + (k - from) = omega arith in
          found.0.before (k - from) (omega arith) (omega arith) (MeetsHeadAt-copied (k - from) (subst (MeetsHeadAt search bytes) is may.meets));
    },
    record { meets = MeetsHeadAt-original at found.1; fits = fits },
  )

-- so many places, behind which enough bytes stand
module _ (search : PackedHeads) (bytes : List ℕ) (end : ℕ) (short : search.heads.size ≤ 16) (room : end ≤ length bytes - 15) where
  pub Nowhere-may_start : Nowhere (MeetsHeadAt search bytes) 0 end → Nowhere (MayStartAt search bytes) 0 end
  Nowhere-may_start none k low high may = none k low high may.meets

  pub IsFirst-may_start : (at : ℕ) → IsFirst (MeetsHeadAt search bytes) 0 end (Some at) → IsFirst (MayStartAt search bytes) 0 (length bytes) (Some at)
  IsFirst-may_start at found =
      let high : at < end = found.0.high in (
        record { low = found.0.low; high = omega arith; before = λ k from below may. found.0.before k from below may.meets },
        record { meets = found.1; fits = omega arith },
      )
