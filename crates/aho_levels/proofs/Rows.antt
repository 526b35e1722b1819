-- A row: its entries for the bytes that lead to children.
use Rattle.std.proofs.Common.{◌≡◌, ◌≢◌, ◌⊎◌, ◌∙◌, ℕ, ◌+◌, ◌*◌, ◌<◌, ◌≤◌, Bool, true, false, inl, inr, List, ap, arith, get_or, length, set, sym}
use Rattle.std.proofs.lemmas.Bool.{cases_eq, cases_lt}
use Rattle.std.proofs.lemmas.Bool.Decides.{nat_tests}
use Rattle.std.proofs.lemmas.List.{get_or-set_other, get_or-set_same, length-set}
use Rattle.aho_core.specs.Bytes.{folded_by}
use Rattle.aho_levels.specs.Layout.{AreRising, StateTables, child_by, child_bytes, row_entry_at, first_child, position_of, told_else}
use Rattle.aho_levels.specs.Linking.{AreFolded, AreSet, upper_by}
use Rattle.std.specs.Prelude.{Option}
use Rattle.aho_levels.proofs.Places.{stands}

-- a byte that is compared as another one is that one, or its upper-case byte
upper-or : (ignore_case : Bool) (x byte : ℕ) → folded_by ignore_case x ≡ x → folded_by ignore_case byte ≡ x → (byte ≡ x) ⊎ (byte ≡ upper_by ignore_case x)
upper-or true x byte folded is = grind (arith, nat_tests)
upper-or false x byte folded is = inl is

-- which is compared as that one
folded-upper : (ignore_case : Bool) (x : ℕ) → folded_by ignore_case x ≡ x → folded_by ignore_case (upper_by ignore_case x) ≡ x
folded-upper true x folded = grind (arith, nat_tests)
folded-upper false x folded = folded

upper-small : (ignore_case : Bool) (x : ℕ) → x < 256 → upper_by ignore_case x < 256
upper-small true x small = grind (arith, nat_tests)
upper-small false x small = small

-- one child more is set
pub set-more : (ignore_case : Bool) (bytes : List ℕ) (first row k : ℕ) (old mid : List ℕ) (child upper : ℕ) → AreFolded ignore_case bytes → AreRising bytes → k < length bytes → get_or bytes k 0 < 256
    → row + 256 ≤ length old → child ≡ first + k → upper ≡ upper_by ignore_case (get_or bytes k 0) → AreSet ignore_case bytes first row k old mid
    → AreSet ignore_case bytes first row (k + 1) old (set (set mid (row + get_or bytes k 0) child) (row + upper) child)
set-more ignore_case bytes first row k old mid child upper are rising within small room child_is upper_is is = record {
  sized = length-set (set mid (row + x) child) (row + upper) child ∙ length-set mid (row + x) child ∙ is.sized;
  kept = λ i less. elsewhere i (λ e. omega (arith, e, less)) (λ e. omega (arith, e, less)) ∙ is.kept i less;
  child = λ j byte less byte_small same.
      elim (cases_lt j k) [
        | inl before ↦
            (let lower : get_or bytes j 0 < x = rising j k before within in
            past byte (λ e. omega (arith, e, same, lower)) ∙ is.child j byte before byte_small same)
        | inr behind ↦
            (let here : j ≡ k = omega (arith, less, behind) in
            there byte (same ∙ ap (λ (n : ℕ). get_or bytes n 0) here) ∙ ap (λ (n : ℕ). first + n) (sym here))
      ];
  other = λ byte byte_small none. past byte (none k (omega arith)) ∙ is.other byte byte_small (λ j less. none j (omega (arith, less)));
}
  where
    x : ℕ
    x = get_or bytes k 0

    sound : folded_by ignore_case x ≡ x
    sound = are k within

    high : folded_by ignore_case upper ≡ x
    high = ap (folded_by ignore_case) upper_is ∙ folded-upper ignore_case x sound

    upper_small : upper < 256
    upper_small = omega (arith, upper_is, upper-small ignore_case x small)

    elsewhere : (i : ℕ) → i ≢ row + upper → i ≢ row + x → get_or (set (set mid (row + x) child) (row + upper) child) i 0 ≡ get_or mid i 0
    elsewhere i one two = get_or-set_other (set mid (row + x) child) (row + upper) i child 0 one ∙ get_or-set_other mid (row + x) i child 0 two

    past : (byte : ℕ) → folded_by ignore_case byte ≢ x → get_or (set (set mid (row + x) child) (row + upper) child) (row + byte) 0 ≡ get_or mid (row + byte) 0
    past byte other =
        elsewhere (row + byte)
        (λ e. other (ap (folded_by ignore_case) (let same : byte ≡ upper = omega (arith, e) in same) ∙ high))
        (λ e. other (ap (folded_by ignore_case) (let same : byte ≡ x = omega (arith, e) in same) ∙ sound))

    at-upper : (byte : ℕ) → byte ≡ upper → get_or (set (set mid (row + x) child) (row + upper) child) (row + byte) 0 ≡ first + k
    at-upper byte e =
        ap (λ (n : ℕ). get_or (set (set mid (row + x) child) (row + upper) child) (row + n) 0) e
        ∙ get_or-set_same (set mid (row + x) child) (row + upper) child 0 (omega (arith, upper_small, room, is.sized, length-set mid (row + x) child))
        ∙ child_is

    at-byte : (byte : ℕ) → byte ≡ x → get_or (set (set mid (row + x) child) (row + upper) child) (row + byte) 0 ≡ first + k
    at-byte byte e =
        elim (cases_eq byte upper) [
          | inl both ↦ at-upper byte both
          | inr other ↦
              get_or-set_other (set mid (row + x) child) (row + upper) (row + byte) child 0 (λ same. other (omega (arith, same)))
              ∙ ap (λ (n : ℕ). get_or (set mid (row + x) child) (row + n) 0) e
              ∙ get_or-set_same mid (row + x) child 0 (omega (arith, small, room, is.sized))
              ∙ child_is
        ]

    there : (byte : ℕ) → folded_by ignore_case byte ≡ x → get_or (set (set mid (row + x) child) (row + upper) child) (row + byte) 0 ≡ first + k
    there byte same = elim (upper-or ignore_case x byte sound same) [ inl e ↦ at-byte byte e | inr e ↦ at-upper byte (e ∙ sym upper_is) ]

-- once all children are set, each byte leads to the child that it tells, and elsewhere where it did
pub set-told : (ignore_case : Bool) (bytes : List ℕ) (first row : ℕ) (old new : List ℕ) → AreSet ignore_case bytes first row (length bytes) old new → (byte : ℕ) → byte < 256
    → get_or new (row + byte) 0 ≡ told_else (position_of bytes (folded_by ignore_case byte) first) (get_or old (row + byte) 0)
set-told ignore_case bytes first row old new is byte small =
    elim (stands bytes (folded_by ignore_case byte) first) [
      | inl there ↦ is.child there.0 byte there.1 small (sym there.2) ∙ sym (ap (λ (o : Option ℕ). told_else o (get_or old (row + byte) 0)) there.3)
      | inr nowhere ↦ is.other byte small (λ k less same. nowhere.0 k less (sym same)) ∙ sym (ap (λ (o : Option ℕ). told_else o (get_or old (row + byte) 0)) nowhere.1)
    ]

-- the row of a state is set, by what is read of it
pub record IsRowSet (t : StateTables) (sid : ℕ) (rows : List ℕ) : Type 0 where
  pub sized : length rows ≡ length t.rows
  pub kept : (i : ℕ) → i < sid * 256 → get_or rows i 0 ≡ get_or t.rows i 0
  pub entry : (byte : ℕ) → byte < 256 → get_or rows (sid * 256 + byte) 0 ≡ told_else (child_by t sid byte) (row_entry_at t sid byte)

pub row-set : (t : StateTables) (sid : ℕ) (ignore_case : Bool) (bytes : List ℕ) (first row : ℕ) (old new : List ℕ)
    → ignore_case ≡ t.ignore_case → bytes ≡ child_bytes t sid → first ≡ first_child t sid → row ≡ sid * 256 → old ≡ t.rows → AreSet ignore_case bytes first row (length bytes) old new → IsRowSet t sid new
row-set t sid ignore_case bytes first row old new case_is bytes_is first_is row_is old_is set = record {
  sized = set.sized ∙ ap (λ (l : List ℕ). length l) old_is;
  kept = λ i less. set.kept i (omega (arith, less, row_is)) ∙ ap (λ (l : List ℕ). get_or l i 0) old_is;
  entry = λ byte small.
      ap (λ (n : ℕ). get_or new (n + byte) 0) (sym row_is)
      ∙ set-told ignore_case bytes first row old new set byte small
      ∙ ap (λ (b : Bool). told_else (position_of bytes (folded_by b byte) first) (get_or old (row + byte) 0)) case_is
      ∙ ap (λ (l : List ℕ). told_else (position_of l (folded_by t.ignore_case byte) first) (get_or old (row + byte) 0)) bytes_is
      ∙ ap (λ (n : ℕ). told_else (position_of (child_bytes t sid) (folded_by t.ignore_case byte) n) (get_or old (row + byte) 0)) first_is
      ∙ ap (λ (n : ℕ). told_else (child_by t sid byte) (get_or old (n + byte) 0)) row_is
      ∙ ap (λ (l : List ℕ). told_else (child_by t sid byte) (get_or l (sid * 256 + byte) 0)) old_is;
}
