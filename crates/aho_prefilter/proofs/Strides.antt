-- Where the marks of a strided search stand: in one stride, and in a copy of the last places.
use Rattle.std.proofs.Common.{◌≡◌, ℕ, ◌+◌, ◌-◌, ◌*◌, ◌/◌, ◌%◌, ◌^◌, ◌<◌, ◌≤◌, inl, inr, Bool, List, get_or, length, sym, ap, subst, ◌∙◌, arith}
use Rattle.std.specs.Prelude.{Option, Some, None}
use Rattle.std.proofs.Math.Nat.{le-div_iff_mul-le, mul-le-mul_right}
use Rattle.std.proofs.lemmas.Bool.{cases_lt}
use Rattle.std.proofs.lemmas.Nat.{div-add-mod', div-mul-add, div_below, mod_below}
use Rattle.memchr.specs.Find.{IsFirst, Nowhere}
use Rattle.aho_prefilter.specs.Strided.{HasBits, HasGram, HasGramIn, HasMark, IsMarkedAt, AreStrideSizes, Marks, MayStartAt, caseless, gram_hash, gram_place, half_of, hash_at, hash_of_head, head_hash, last_of_stride, line_hash, place_by}
use Rattle.aho_prefilter.specs.declared.strided.sizes.Sizes.{Sizes}
use Rattle.aho_prefilter.proofs.Firsts.{first_after, first_within}
use Rattle.aho_prefilter.proofs.Hashes.{AreSame, hash_at-same}

-- the last place of a stride
pub last_of_stride-in : (stride turn at : ℕ) → turn * stride ≤ at → at < (turn + 1) * stride → last_of_stride stride at ≡ turn * stride + (stride - 1)
last_of_stride-in stride turn at low high =
    let is : at ≡ turn * stride + (at - turn * stride) = omega arith in
    let row : at / stride ≡ turn = ap (λ n. n / stride) is ∙ div-mul-add turn stride (at - turn * stride) (omega arith) in
    ap (λ n. n * stride + (stride - 1)) row

-- the bits of a gram are the same wherever the same bytes stand
pub gram_place-same : (sizes : Sizes) (words : ℕ) (xs : List ℕ) (i : ℕ) (ys : List ℕ) (j : ℕ) → 3 ≤ sizes.gram → AreSame sizes.ignore_case sizes.gram xs i ys j
    → gram_place sizes words xs i ≡ gram_place sizes words ys j
gram_place-same sizes words xs i ys j long same =
    let line : line_hash sizes xs i ≡ line_hash sizes ys j = hash_at-same sizes.ignore_case 0xA076_1D64_78BD_642F 3 xs i ys j (λ k below. same k (omega arith)) in
    let gram : gram_hash sizes xs i ≡ gram_hash sizes ys j = hash_at-same sizes.ignore_case 0x9E37_79B9_7F4A_7C15 sizes.gram xs i ys j same in
    ap (λ n. place_by sizes.lines words n (gram_hash sizes xs i)) line ∙ ap (λ n. place_by sizes.lines words (line_hash sizes ys j) n) gram

module _ (marks : Marks) (bytes : List ℕ) where
  module _ (turn : ℕ) where
    -- where the bits of its gram are set, the first place with its head's bit
    pub IsFirst-marked : (r : Option ℕ) → HasGramIn marks bytes turn
        → IsFirst (λ at. HasMark marks.heads (head_hash marks.sizes bytes at)) (turn * marks.sizes.stride) (turn * marks.sizes.stride + marks.sizes.stride) r
        → IsFirst (IsMarkedAt marks bytes) (turn * marks.sizes.stride) ((turn + 1) * marks.sizes.stride) r
    IsFirst-marked None gram none = λ k low high marked. none k low (omega arith) marked.head
    IsFirst-marked (Some at) gram found =
        let low : turn * marks.sizes.stride ≤ at = found.0.low in
        let high : at < turn * marks.sizes.stride + marks.sizes.stride = found.0.high in (
          record { low = low; high = omega arith; before = λ k from below marked. found.0.before k from below marked.head },
          record {
            gram = subst (λ n. HasGram marks bytes n) (sym (last_of_stride-in marks.sizes.stride turn at low (omega arith))) gram;
            head = found.1;
          },
        )

  -- where no gram of some strides has its bits set, there is none
  pub Nowhere-marked : (from to : ℕ) → 0 < marks.sizes.stride → Nowhere (HasGramIn marks bytes) from to
      → Nowhere (IsMarkedAt marks bytes) (from * marks.sizes.stride) (to * marks.sizes.stride)
  Nowhere-marked from to some none k low high marked =
      let stride = marks.sizes.stride in
      none (k / stride) ((le-div_iff_mul-le some).1 low) (div_below k stride to some high) marked.gram

  module _ (from turns : ℕ) (some : 0 < marks.sizes.stride) (before : Nowhere (IsMarkedAt marks bytes) 0 (from * marks.sizes.stride)) where
    -- none before the next stride whose gram has its bits set
    before-turn : (turn : ℕ) → Nowhere (HasGramIn marks bytes) from turn → Nowhere (IsMarkedAt marks bytes) 0 (turn * marks.sizes.stride)
    before-turn turn none k low high marked =
        elim (cases_lt k (from * marks.sizes.stride)) [
          | inl sooner ↦ before k low sooner marked
          | inr late ↦ Nowhere-marked from turn some none k late high marked
        ]

    -- none at all, where there is no such stride
    pub Nowhere-turns : Nowhere (HasGramIn marks bytes) from turns → Nowhere (IsMarkedAt marks bytes) 0 (turns * marks.sizes.stride)
    Nowhere-turns none = before-turn turns none

    module _ (turn : ℕ) (next : IsFirst (HasGramIn marks bytes) from turns (Some turn)) where
      -- none in that stride
      pub Nowhere-turn : IsFirst (λ at. HasMark marks.heads (head_hash marks.sizes bytes at)) (turn * marks.sizes.stride) (turn * marks.sizes.stride + marks.sizes.stride) None
          → Nowhere (IsMarkedAt marks bytes) 0 ((turn + 1) * marks.sizes.stride)
      Nowhere-turn none =
          first_after (IsMarkedAt marks bytes) 0 (turn * marks.sizes.stride) ((turn + 1) * marks.sizes.stride) None (omega arith)
          (before-turn turn next.0.before) (IsFirst-marked turn None next.1 none)

      -- the first one in it
      pub IsFirst-turn : (at : ℕ) → IsFirst (λ at. HasMark marks.heads (head_hash marks.sizes bytes at)) (turn * marks.sizes.stride) (turn * marks.sizes.stride + marks.sizes.stride) (Some at)
          → IsFirst (IsMarkedAt marks bytes) 0 (turns * marks.sizes.stride) (Some at)
      IsFirst-turn at found =
          let below : turn + 1 ≤ turns = omega (arith, next.0.high) in
          let ends : (turn + 1) * marks.sizes.stride ≤ turns * marks.sizes.stride = mul-le-mul_right marks.sizes.stride below in
          first_within (IsMarkedAt marks bytes) 0 ((turn + 1) * marks.sizes.stride) (turns * marks.sizes.stride) at ends
          (first_after (IsMarkedAt marks bytes) 0 (turn * marks.sizes.stride) ((turn + 1) * marks.sizes.stride) (Some at) (omega arith)
          (before-turn turn next.0.before) (IsFirst-marked turn (Some at) next.1 found))

-- the hash of a head is the same wherever the same bytes stand
pub hash_of_head-same : (rule : Bool) (head : ℕ) (xs : List ℕ) (i : ℕ) (ys : List ℕ) (j : ℕ) → AreSame rule head xs i ys j → hash_of_head rule head xs i ≡ hash_of_head rule head ys j
hash_of_head-same rule head xs i ys j same =
    let half = half_of head in
    let later = head - half in
    let front : hash_at rule 0xD6E8_FEB8_6659_FD93 half xs i ≡ hash_at rule 0xD6E8_FEB8_6659_FD93 half ys j =
    hash_at-same rule 0xD6E8_FEB8_6659_FD93 half xs i ys j (λ k below. same k (omega arith)) in
    let back : hash_at rule 0xA076_1D64_78BD_642F half xs (i + later) ≡ hash_at rule 0xA076_1D64_78BD_642F half ys (j + later) =
    hash_at-same rule 0xA076_1D64_78BD_642F half xs (i + later) ys (j + later)
    (λ k below.
    let here : i + later + k ≡ i + (later + k) = omega arith in
    let there : j + (later + k) ≡ j + later + k = omega arith in
    ap (λ n. caseless rule (get_or xs n 0)) here ∙ same (later + k) (omega arith) ∙ ap (λ n. caseless rule (get_or ys n 0)) there) in
    ap (λ n. (n + hash_at rule 0xA076_1D64_78BD_642F half xs (i + later)) % 2 ^ 64) front
    ∙ ap (λ n. (hash_at rule 0xD6E8_FEB8_6659_FD93 half ys j + n) % 2 ^ 64) back

pub head_hash-same : (sizes : Sizes) (xs : List ℕ) (i : ℕ) (ys : List ℕ) (j : ℕ) → AreSame sizes.ignore_case sizes.head xs i ys j → head_hash sizes xs i ≡ head_hash sizes ys j
head_hash-same sizes xs i ys j same = hash_of_head-same sizes.ignore_case sizes.head xs i ys j same

-- a copy of the bytes from a turn on
module _ (marks : Marks) (bytes rest : List ℕ) (turn : ℕ) (some : 0 < marks.sizes.stride) (long : 3 ≤ marks.sizes.gram) (same : (k : ℕ) → get_or rest k 0 ≡ get_or bytes (turn * marks.sizes.stride + k) 0) where
  -- all of its bytes are the same
  all_same : (count at : ℕ) → AreSame marks.sizes.ignore_case count rest at bytes (turn * marks.sizes.stride + at)
  all_same count at k below =
      let moved : turn * marks.sizes.stride + (at + k) ≡ turn * marks.sizes.stride + at + k = omega arith in
      ap (λ byte. caseless marks.sizes.ignore_case byte) (same (at + k) ∙ ap (λ n. get_or bytes n 0) moved)

  same_last : (k : ℕ) → turn * marks.sizes.stride + last_of_stride marks.sizes.stride k ≡ last_of_stride marks.sizes.stride (turn * marks.sizes.stride + k)
  same_last k =
      let stride = marks.sizes.stride in
      let split : k / stride * stride + k % stride ≡ k = div-add-mod' k stride in
      let is : turn * stride + k ≡ (turn + k / stride) * stride + k % stride = omega arith in
      let row : (turn * stride + k) / stride ≡ turn + k / stride = ap (λ n. n / stride) is ∙ div-mul-add (turn + k / stride) stride (k % stride) (mod_below k stride some) in
      omega (arith, ap (λ n. n * stride) row)

  same_gram : (k : ℕ) → gram_place marks.sizes (length marks.grams) rest (last_of_stride marks.sizes.stride k) ≡ gram_place marks.sizes (length marks.grams) bytes (last_of_stride marks.sizes.stride (turn * marks.sizes.stride + k))
  same_gram k =
      gram_place-same marks.sizes (length marks.grams) rest (last_of_stride marks.sizes.stride k) bytes (turn * marks.sizes.stride + last_of_stride marks.sizes.stride k) long (all_same marks.sizes.gram (last_of_stride marks.sizes.stride k))
      ∙ ap (λ n. gram_place marks.sizes (length marks.grams) bytes n) (same_last k)

  same_head : (k : ℕ) → head_hash marks.sizes rest k ≡ head_hash marks.sizes bytes (turn * marks.sizes.stride + k)
  same_head k = head_hash-same marks.sizes rest k bytes (turn * marks.sizes.stride + k) (all_same marks.sizes.head k)

  IsMarkedAt-copied : (k : ℕ) → IsMarkedAt marks bytes (turn * marks.sizes.stride + k) → IsMarkedAt marks rest k
  IsMarkedAt-copied k is = record {
    gram = subst (HasBits marks.grams) (sym (same_gram k)) is.gram;
    head = subst (HasMark marks.heads) (sym (same_head k)) is.head;
  }

  IsMarkedAt-original : (k : ℕ) → IsMarkedAt marks rest k → IsMarkedAt marks bytes (turn * marks.sizes.stride + k)
  IsMarkedAt-original k is = record {
    gram = subst (HasBits marks.grams) (same_gram k) is.gram;
    head = subst (HasMark marks.heads) (same_head k) is.head;
  }

  -- none among the bytes where there is none in the copy, or where too few bytes are left
  pub Nowhere-original : (limit : ℕ) → Nowhere (IsMarkedAt marks rest) 0 limit → length bytes < turn * marks.sizes.stride + limit + marks.sizes.head
      → Nowhere (MayStartAt marks bytes) (turn * marks.sizes.stride) (length bytes)
  Nowhere-original limit none few k low high may =
      let fits : k + marks.sizes.head ≤ length bytes = may.fits in
      let is : k ≡ turn * marks.sizes.stride + (k - turn * marks.sizes.stride) = omega arith in
      none (k - turn * marks.sizes.stride) (omega arith) (omega arith) (IsMarkedAt-copied (k - turn * marks.sizes.stride) (subst (IsMarkedAt marks bytes) is may.marked))

  -- the first one of the copy is the first one of the bytes
  pub IsFirst-original : (at limit : ℕ) → IsFirst (IsMarkedAt marks rest) 0 limit (Some at) → turn * marks.sizes.stride + at + marks.sizes.head ≤ length bytes → 0 < marks.sizes.head
      → IsFirst (MayStartAt marks bytes) (turn * marks.sizes.stride) (length bytes) (Some (turn * marks.sizes.stride + at))
  IsFirst-original at limit found fits head = (
    record {
      low = omega arith;
      high = omega arith;
      before = λ k low high may.
          let is : k ≡ turn * marks.sizes.stride + (k - turn * marks.sizes.stride) = omega arith in
          found.0.before (k - turn * marks.sizes.stride) (omega arith) (omega arith) (IsMarkedAt-copied (k - turn * marks.sizes.stride) (subst (IsMarkedAt marks bytes) is may.marked));
    },
    record { marked = IsMarkedAt-original at found.1; fits = fits },
  )

-- so many strides, behind which enough bytes stand
module _ (marks : Marks) (bytes : List ℕ) (end : ℕ) (sized : AreStrideSizes marks.sizes) (room : end ≤ length bytes - 15) where
  pub Nowhere-may_start : Nowhere (IsMarkedAt marks bytes) 0 end → Nowhere (MayStartAt marks bytes) 0 end
  Nowhere-may_start none k low high may = none k low high may.marked

  pub IsFirst-may_start : (at : ℕ) → IsFirst (IsMarkedAt marks bytes) 0 end (Some at) → IsFirst (MayStartAt marks bytes) 0 (length bytes) (Some at)
  IsFirst-may_start at found =
      let high : at < end = found.0.high in
      let short : marks.sizes.head ≤ 16 = sized.head in (
        record { low = found.0.low; high = omega arith; before = λ k from below may. found.0.before k from below may.marked },
        record { marked = found.1; fits = omega arith },
      )
