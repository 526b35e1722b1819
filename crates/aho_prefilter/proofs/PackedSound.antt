-- A word that was added to a packed search meets the masks of its group wherever it stands.
use Rattle.std.proofs.Common.{◌≡◌, ◌≢◌, ℕ, ◌+◌, ◌/◌, ◌%◌, ◌<◌, ◌≤◌, zero, suc, inl, inr, Bool, true, false, cond, map, set, List, [], ◌∷◌, length, get_or, refl, sym, ap, subst, ◌∙◌, arith}
use Rattle.std.specs.Prelude.{None, Some, bit_and, bit_or, nat_lt}
use Rattle.std.specs.Int.{bit_at}
use Rattle.std.specs.List.{fold}
use Rattle.std.proofs.lemmas.Bool.{cases_eq, cases_lt}
use Rattle.std.proofs.lemmas.Bool.Decides.{nat_tests}
use Rattle.std.proofs.lemmas.Grind.{get_or-set_at}
use Rattle.std.proofs.lemmas.List.{get_or-map, get_or-set_other, length-map, length-set}
use Rattle.std.proofs.Math.ListN.{get_or-eq_default}
use Rattle.std.proofs.lemmas.Nat.Bits.{bit_at_and, bit_at_or, bit_at-lt, bit_at-pow_same, bit_at-zero}
use Rattle.aho_core.specs.Bytes.{folded_by, opposite}
use Rattle.aho_prefilter.specs.Packed.{IsFirstMet, MeetsAt, group_of, groups_at, groups_of, masks_with, masks_with_all, masks_with_cases, masks_with_place, no_masks, packed_none, packed_of, packed_with, packed_with_groups}
use Rattle.aho_prefilter.specs.declared.packed.Masks.{Masks}
use Rattle.aho_prefilter.specs.declared.packed.Packed.{Packed}
use Rattle.aho_prefilter.proofs.Held.{opposite-same}

-- a bit of a number is set
abbrev pub HasBit : ℕ → ℕ → Type 0
HasBit x i = bit_at x i ≡ 1

pub HasBit-or_left : (x y i : ℕ) → HasBit x i → HasBit (bit_or x y) i
HasBit-or_left x y i is = omega (arith, is, bit_at_or x y i, bit_at-lt y i)

pub HasBit-or_right : (x y i : ℕ) → HasBit y i → HasBit (bit_or x y) i
HasBit-or_right x y i is = omega (arith, is, bit_at_or x y i, bit_at-lt x i)

pub HasBit-and : (x y i : ℕ) → HasBit x i → HasBit y i → HasBit (bit_and x y) i
HasBit-and x y i is also = omega (arith, is, also, bit_at_and x y i)

pub HasBit-of_and : (x y i : ℕ) → HasBit (bit_and x y) i → HasBit x i × HasBit y i
HasBit-of_and x y i is = (omega (arith, is, bit_at_and x y i, bit_at-lt x i, bit_at-lt y i), omega (arith, is, bit_at_and x y i, bit_at-lt x i, bit_at-lt y i))

pub HasBit-some : (x i : ℕ) → HasBit x i → x ≢ 0
HasBit-some x i is none = absurd (omega (arith, sym is ∙ ap (λ n. bit_at n i) none ∙ bit_at-zero i))

-- what has a bit stands within the table
within_table : (table : List ℕ) (k i : ℕ) → HasBit (get_or table k 0) i → k < length table
within_table table k i is =
    elim (cases_lt k (length table)) [
      | inl below ↦ below
      | inr behind ↦ absurd (HasBit-some (get_or table k 0) i is (get_or-eq_default table 0 behind))
    ]

-- a table that keeps the bits of another one, and its length
pub record Keeps (old new : List ℕ) : Type 0 where
  pub long : length new ≡ length old
  pub bits : (k i : ℕ) → HasBit (get_or old k 0) i → HasBit (get_or new k 0) i

pub Keeps-then : (a b c : List ℕ) → Keeps a b → Keeps b c → Keeps a c
Keeps-then a b c first then = record { long = then.long ∙ first.long; bits = λ k i is. then.bits k i (first.bits k i is) }

pub Keeps-set : (table : List ℕ) (j groups : ℕ) → Keeps table (set table j (bit_or (get_or table j 0) groups))
Keeps-set table j groups = record {
  long = length-set table j _;
  bits = λ k i is.
      elim (cases_eq k j) [
        | inl equal ↦
            subst (λ x. HasBit x i) (sym (get_or-set_at table j k (bit_or (get_or table j 0) groups) 0 equal (omega (arith, equal, within_table table k i is))))
            (HasBit-or_left (get_or table j 0) groups i (subst (λ n. HasBit (get_or table n 0) i) equal is))
        | inr other ↦ subst (λ x. HasBit x i) (sym (get_or-set_other table j k _ 0 other)) is
      ];
}

Keeps-all : (table : List ℕ) (groups : ℕ) → Keeps table (map (λ x. bit_or x groups) table)
Keeps-all table groups = record {
  long = length-map table (λ x. bit_or x groups);
  bits = λ k i is.
      subst (λ x. HasBit x i) (sym (get_or-map (λ x. bit_or x groups) table k 0 0 (within_table table k i is)))
      (HasBit-or_left (get_or table k 0) groups i is);
}

-- masks that keep the bits of others
pub record Grows (old new : Masks) : Type 0 where
  pub low : Keeps old.low new.low
  pub high : Keeps old.high new.high

Grows-then : (a b c : Masks) → Grows a b → Grows b c → Grows a c
Grows-then a b c first then = record { low = Keeps-then a.low b.low c.low first.low then.low; high = Keeps-then a.high b.high c.high first.high then.high }

Grows-with : (groups : ℕ) (masks : Masks) (byte : ℕ) → Grows masks (masks_with groups masks byte)
Grows-with groups masks byte = record { low = Keeps-set masks.low (byte % 16) groups; high = Keeps-set masks.high (byte / 16 % 16) groups }

Grows-all : (groups : ℕ) (masks : Masks) → Grows masks (masks_with_all groups masks)
Grows-all groups masks = record { low = Keeps-all masks.low groups; high = Keeps-all masks.high groups }

Grows-cases : (ignore_case : Bool) (groups : ℕ) (masks : Masks) (byte : ℕ) → Grows masks (masks_with_cases ignore_case groups masks byte)
Grows-cases false groups masks byte = Grows-with groups masks byte
Grows-cases true groups masks byte =
    Grows-then masks (masks_with groups masks byte) (masks_with_cases true groups masks byte)
    (Grows-with groups masks byte) (Grows-with groups (masks_with groups masks byte) (opposite byte))

Grows-either : (test : Bool) (masks x y : Masks) → Grows masks x → Grows masks y → Grows masks (cond test x y)
Grows-either true masks x y is also = is
Grows-either false masks x y is also = also

pub Grows-place : (ignore_case : Bool) (groups : ℕ) (masks : Masks) (word : List ℕ) (place : ℕ) → Grows masks (masks_with_place ignore_case groups masks word place)
Grows-place ignore_case groups masks word place =
    Grows-either (nat_lt place (length word)) masks _ _
    (Grows-cases ignore_case groups masks (get_or word place 0)) (Grows-all groups masks)

-- the byte meets the group of this number
abbrev pub MeetsGroup : Masks → ℕ → ℕ → Type 0
MeetsGroup masks i byte = HasBit (groups_of masks byte) i

pub MeetsGroup-grows : (old new : Masks) (i byte : ℕ) → Grows old new → MeetsGroup old i byte → MeetsGroup new i byte
MeetsGroup-grows old new i byte grows is =
    let both = HasBit-of_and (get_or old.low (byte % 16) 0) (get_or old.high (byte / 16 % 16) 0) i is in
    HasBit-and (get_or new.low (byte % 16) 0) (get_or new.high (byte / 16 % 16) 0) i (grows.low.bits (byte % 16) i both.0) (grows.high.bits (byte / 16 % 16) i both.1)

-- both tables have an entry for each half of a byte
pub record IsLong (masks : Masks) : Type 0 where
  pub low : length masks.low ≡ 16
  pub high : length masks.high ≡ 16

pub IsLong-grows : (old new : Masks) → Grows old new → IsLong old → IsLong new
IsLong-grows old new grows long = record { low = grows.low.long ∙ long.low; high = grows.high.long ∙ long.high }

pub set-has : (table : List ℕ) (j groups i : ℕ) → j < length table → HasBit groups i → HasBit (get_or (set table j (bit_or (get_or table j 0) groups)) j 0) i
set-has table j groups i below is =
    subst (λ x. HasBit x i) (sym (get_or-set_at table j j (bit_or (get_or table j 0) groups) 0 refl below))
    (HasBit-or_right (get_or table j 0) groups i is)

all-have : (table : List ℕ) (j groups i : ℕ) → j < length table → HasBit groups i → HasBit (get_or (map (λ x. bit_or x groups) table) j 0) i
all-have table j groups i below is =
    subst (λ x. HasBit x i) (sym (get_or-map (λ x. bit_or x groups) table j 0 0 below))
    (HasBit-or_right (get_or table j 0) groups i is)

-- a group that is added, by its number
module _ (groups i : ℕ) (has : HasBit groups i) where
  MeetsGroup-with : (masks : Masks) (byte : ℕ) → IsLong masks → MeetsGroup (masks_with groups masks byte) i byte
  MeetsGroup-with masks byte long =
      let low = long.low in
      let high = long.high in
      HasBit-and (get_or (masks_with groups masks byte).low (byte % 16) 0) (get_or (masks_with groups masks byte).high (byte / 16 % 16) 0) i
      (set-has masks.low (byte % 16) groups i (omega arith) has) (set-has masks.high (byte / 16 % 16) groups i (omega arith) has)

  MeetsGroup-all : (masks : Masks) (byte : ℕ) → IsLong masks → MeetsGroup (masks_with_all groups masks) i byte
  MeetsGroup-all masks byte long =
      let low = long.low in
      let high = long.high in
      HasBit-and (get_or (masks_with_all groups masks).low (byte % 16) 0) (get_or (masks_with_all groups masks).high (byte / 16 % 16) 0) i
      (all-have masks.low (byte % 16) groups i (omega arith) has) (all-have masks.high (byte / 16 % 16) groups i (omega arith) has)

  MeetsGroup-cases : (ignore_case : Bool) (masks : Masks) (x byte : ℕ) → IsLong masks → folded_by ignore_case x ≡ folded_by ignore_case byte
      → MeetsGroup (masks_with_cases ignore_case groups masks x) i byte
  MeetsGroup-cases false masks x byte long same =
      subst (λ y. MeetsGroup (masks_with groups masks y) i byte) (sym same) (MeetsGroup-with masks byte long)
  MeetsGroup-cases true masks x byte long same =
      let once = masks_with groups masks x in
      let grows = Grows-with groups masks x in
      elim (cases_eq x byte) [
        | inl equal ↦
            MeetsGroup-grows once (masks_with groups once (opposite x)) i byte (Grows-with groups once (opposite x))
            (subst (λ y. MeetsGroup (masks_with groups masks y) i byte) (sym equal) (MeetsGroup-with masks byte long))
        | inr other ↦
            subst (λ y. MeetsGroup (masks_with groups once y) i byte) (sym (opposite-same x byte other same))
            (MeetsGroup-with once byte (IsLong-grows masks once grows long))
      ]

  -- at a place of a word what is the same as its byte meets the group, and behind its end every byte
  pub MeetsGroup-place : (ignore_case : Bool) (masks : Masks) (word : List ℕ) (place byte : ℕ) → IsLong masks
      → (place < length word → folded_by ignore_case (get_or word place 0) ≡ folded_by ignore_case byte)
      → MeetsGroup (masks_with_place ignore_case groups masks word place) i byte
  MeetsGroup-place ignore_case masks word place byte long same = by_test (nat_lt place (length word)) refl
    where
      by_test : (test : Bool) → nat_lt place (length word) ≡ test
          → MeetsGroup (cond test (masks_with_cases ignore_case groups masks (get_or word place 0)) (masks_with_all groups masks)) i byte
      by_test true is = MeetsGroup-cases ignore_case masks (get_or word place 0) byte long (same (grind (arith, nat_tests, is)))
      by_test false is = MeetsGroup-all masks byte long

-- a search that keeps what another one's places meet
pub record KeepsMasks (old new : Packed) : Type 0 where
  pub first : Grows old.first new.first
  pub second : Grows old.second new.second
  pub third : Grows old.third new.third

pub KeepsMasks-groups : (ignore_case : Bool) (groups : ℕ) (packed : Packed) (word : List ℕ) → KeepsMasks packed (packed_with_groups ignore_case groups packed word)
KeepsMasks-groups ignore_case groups packed word = record {
  first = Grows-place ignore_case groups packed.first word 0;
  second = Grows-place ignore_case groups packed.second word 1;
  third = Grows-place ignore_case groups packed.third word 2;
}

KeepsMasks-with : (ignore_case : Bool) (packed : Packed) (word : List ℕ) → KeepsMasks packed (packed_with ignore_case packed word)
KeepsMasks-with ignore_case packed word = KeepsMasks-groups ignore_case (group_of word) packed word

-- all tables have an entry for each half of a byte
pub record IsWhole (packed : Packed) : Type 0 where
  pub first : IsLong packed.first
  pub second : IsLong packed.second
  pub third : IsLong packed.third

pub IsWhole-groups : (ignore_case : Bool) (groups : ℕ) (packed : Packed) (word : List ℕ) → IsWhole packed → IsWhole (packed_with_groups ignore_case groups packed word)
IsWhole-groups ignore_case groups packed word whole =
    let new = packed_with_groups ignore_case groups packed word in
    let grows = KeepsMasks-groups ignore_case groups packed word in
    record {
      first = IsLong-grows packed.first new.first grows.first whole.first;
      second = IsLong-grows packed.second new.second grows.second whole.second;
      third = IsLong-grows packed.third new.third grows.third whole.third;
    }

IsWhole-with : (ignore_case : Bool) (packed : Packed) (word : List ℕ) → IsWhole packed → IsWhole (packed_with ignore_case packed word)
IsWhole-with ignore_case packed word whole = IsWhole-groups ignore_case (group_of word) packed word whole

-- the word stands at this place, by the case rule
abbrev pub StandsAt : Bool → List ℕ → List ℕ → ℕ → Type 0
StandsAt ignore_case word bytes at = (k : ℕ) → k < length word → folded_by ignore_case (get_or word k 0) ≡ folded_by ignore_case (get_or bytes (at + k) 0)

-- a place and the two behind it meet the group of this number
pub record MeetsAll (packed : Packed) (bytes : List ℕ) (at i : ℕ) : Type 0 where
  pub first : MeetsGroup packed.first i (get_or bytes at 0)
  pub second : MeetsGroup packed.second i (get_or bytes (at + 1) 0)
  pub third : MeetsGroup packed.third i (get_or bytes (at + 2) 0)

module _ (bytes : List ℕ) (at : ℕ) where
  pub MeetsAll-grows : (old new : Packed) (i : ℕ) → KeepsMasks old new → MeetsAll old bytes at i → MeetsAll new bytes at i
  MeetsAll-grows old new i grows meets = record {
    first = MeetsGroup-grows old.first new.first i (get_or bytes at 0) grows.first meets.first;
    second = MeetsGroup-grows old.second new.second i (get_or bytes (at + 1) 0) grows.second meets.second;
    third = MeetsGroup-grows old.third new.third i (get_or bytes (at + 2) 0) grows.third meets.third;
  }

  MeetsAll-meets : (packed : Packed) (i : ℕ) → MeetsAll packed bytes at i → MeetsAt packed bytes at
  MeetsAll-meets packed i meets =
      let first = groups_of packed.first (get_or bytes at 0) in
      let second = groups_of packed.second (get_or bytes (at + 1) 0) in
      let third = groups_of packed.third (get_or bytes (at + 2) 0) in
      HasBit-some (groups_at packed bytes at) i (HasBit-and (bit_and first second) third i (HasBit-and first second i meets.first meets.second) meets.third)

  module _ (ignore_case : Bool) where
    -- what a search meets it meets with more words
    MeetsAll-more : (words : List (List ℕ)) (packed : Packed) (i : ℕ) → MeetsAll packed bytes at i → MeetsAll (fold (packed_with ignore_case) packed words) bytes at i
    MeetsAll-more [] packed i meets = meets
    MeetsAll-more (word ∷ words) packed i meets =
        MeetsAll-more words (packed_with ignore_case packed word) i
        (MeetsAll-grows packed (packed_with ignore_case packed word) i (KeepsMasks-with ignore_case packed word) meets)

    -- a word that was just added meets its groups where it stands
    pub MeetsAll-groups : (packed : Packed) (word : List ℕ) (groups i : ℕ) → HasBit groups i → IsWhole packed → StandsAt ignore_case word bytes at
        → MeetsAll (packed_with_groups ignore_case groups packed word) bytes at i
    MeetsAll-groups packed word groups i has whole stands =
        let here : at + 0 ≡ at = omega arith in
        record {
          first =
              MeetsGroup-place groups i has ignore_case packed.first word 0 (get_or bytes at 0) whole.first
              (λ below. subst (λ n. folded_by ignore_case (get_or word 0 0) ≡ folded_by ignore_case (get_or bytes n 0)) here (stands 0 below));
          second = MeetsGroup-place groups i has ignore_case packed.second word 1 (get_or bytes (at + 1) 0) whole.second (stands 1);
          third = MeetsGroup-place groups i has ignore_case packed.third word 2 (get_or bytes (at + 2) 0) whole.third (stands 2);
        }

    MeetsAll-with : (packed : Packed) (word : List ℕ) → IsWhole packed → StandsAt ignore_case word bytes at
        → MeetsAll (packed_with ignore_case packed word) bytes at (get_or word 0 0 % 8)
    MeetsAll-with packed word whole stands =
        let i = get_or word 0 0 % 8 in
        MeetsAll-groups packed word (group_of word) i (bit_at-pow_same i) whole stands

    -- a place where a word that was added stands meets the masks of some group
    MeetsAt-added : (words : List (List ℕ)) (packed : Packed) (k : ℕ) → IsWhole packed → k < length words → StandsAt ignore_case (get_or words k []) bytes at
        → MeetsAt (fold (packed_with ignore_case) packed words) bytes at
    MeetsAt-added [] packed k whole below stands = absurd (omega arith)
    MeetsAt-added (word ∷ words) packed zero whole below stands =
        MeetsAll-meets (fold (packed_with ignore_case) packed (word ∷ words)) (get_or word 0 0 % 8)
        (MeetsAll-more words (packed_with ignore_case packed word) (get_or word 0 0 % 8) (MeetsAll-with packed word whole stands))
    MeetsAt-added (word ∷ words) packed (suc k) whole below stands =
        MeetsAt-added words (packed_with ignore_case packed word) k (IsWhole-with ignore_case packed word whole) (omega arith) stands

pub IsLong-none : IsLong no_masks
IsLong-none = record { low = refl; high = refl }

module _ (ignore_case : Bool) (words : List (List ℕ)) (bytes : List ℕ) where
  -- a place where one of the words stands meets the masks of some group
  pub MeetsAt-packed : (k at : ℕ) → k < length words → StandsAt ignore_case (get_or words k []) bytes at → MeetsAt (packed_of ignore_case words) bytes at
  MeetsAt-packed k at below stands =
      MeetsAt-added bytes at ignore_case words packed_none k
      (record { first = IsLong-none; second = IsLong-none; third = IsLong-none }) below stands

  -- the place that is found is not behind a place where one of the words stands
  pub found_before : (place k at : ℕ) → IsFirstMet (packed_of ignore_case words) bytes (Some place) → k < length words → at < length bytes
      → StandsAt ignore_case (get_or words k []) bytes at → place ≤ at
  found_before place k at found below within stands =
      elim (cases_lt at place) [
        | inl sooner ↦ absurd (found.0.before at (omega arith) sooner (MeetsAt-packed k at below stands))
        | inr late ↦ late
      ]

  -- where no place is found none of the words stands
  pub none_stands : (k at : ℕ) → IsFirstMet (packed_of ignore_case words) bytes None → k < length words → at < length bytes
      → StandsAt ignore_case (get_or words k []) bytes at → ⊥
  none_stands k at none below within stands = none at (omega arith) within (MeetsAt-packed k at below stands)
