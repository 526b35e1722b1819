-- The children of states, by their numbers: the ranges of the states follow one another.
use Rattle.std.proofs.Common.{◌≡◌, ◌≢◌, ◌⊎◌, ◌∙◌, ℕ, zero, suc, ◌+◌, ◌-◌, ◌<◌, ◌≤◌, inl, inr, ap, arith, drop, get_or, length, sym}
use Rattle.std.specs.Prelude.{Some}
use Rattle.std.proofs.lemmas.Bool.{cases_eq, cases_lt}
use Rattle.std.proofs.lemmas.List.{get_or-drop, get_or-take, length-drop, length-take}
use Rattle.aho_core.specs.Bytes.{folded_by}
use Rattle.aho_levels.specs.Layout.{HasChildren, IsStateNumber, StateTables, child_bytes, child_at, first_child}
use Rattle.aho_levels.specs.Linking.{AreFolded, AreInLevels}
use Rattle.aho_levels.proofs.Places.{stands, stands-told}

module _ (t : StateTables) (are : HasChildren t) where
  -- the bytes of the children, by the numbers of these
  pub range-length : (sid : ℕ) → IsStateNumber t sid → length (child_bytes t sid) ≡ first_child t (sid + 1) - first_child t sid
  range-length sid is =
      omega (arith, are.within sid is, length-take (first_child t (sid + 1) - first_child t sid) (drop (first_child t sid) t.bytes), length-drop (first_child t sid) t.bytes)

  pub range-byte : (sid i : ℕ) → i < first_child t (sid + 1) - first_child t sid → get_or (child_bytes t sid) i 0 ≡ get_or t.bytes (first_child t sid + i) 0
  range-byte sid i less = get_or-take (first_child t (sid + 1) - first_child t sid) (drop (first_child t sid) t.bytes) i 0 less ∙ get_or-drop (first_child t sid) t.bytes i 0

  -- a child is told by its byte
  pub told-in : (sid child : ℕ) → IsStateNumber t sid → first_child t sid ≤ child → child < first_child t (sid + 1) → child_at t sid (get_or t.bytes child 0) ≡ Some child
  told-in sid child is from to =
      elim (stands (child_bytes t sid) (get_or t.bytes child 0) (first_child t sid)) [
        | inl there ↦ there.3 ∙ ap (λ (n : ℕ). Some n) (same there.0 there.1 there.2 (cases_eq there.0 (child - first_child t sid)))
        | inr nowhere ↦ absurd (nowhere.0 (child - first_child t sid) inside byte)
      ]
    where
      inside : child - first_child t sid < length (child_bytes t sid)
      inside = omega (arith, from, to, range-length sid is)

      byte : get_or (child_bytes t sid) (child - first_child t sid) 0 ≡ get_or t.bytes child 0
      byte =
          range-byte sid (child - first_child t sid) (omega (arith, from, to))
          ∙ ap (λ (n : ℕ). get_or t.bytes n 0) (let whole : first_child t sid + (child - first_child t sid) ≡ child = omega (arith, from) in whole)

      same : (k : ℕ) → k < length (child_bytes t sid) → get_or (child_bytes t sid) k 0 ≡ get_or t.bytes child 0 → (k ≡ child - first_child t sid) ⊎ (k ≢ child - first_child t sid) → first_child t sid + k ≡ child
      same k less is_byte (inl e) = omega (arith, e, from)
      same k less is_byte (inr other) =
          elim (cases_lt k (child - first_child t sid)) [
            | inl before ↦ absurd (omega (arith, are.rising sid is k (child - first_child t sid) before inside, byte, is_byte))
            | inr behind ↦ absurd (omega (arith, are.rising sid is (child - first_child t sid) k (omega (arith, behind, other)) less, byte, is_byte))
          ]

  -- and what is told is a child, with its byte
  pub in-range : (sid byte child : ℕ) → IsStateNumber t sid → child_at t sid byte ≡ Some child → (first_child t sid ≤ child) × (child < first_child t (sid + 1)) × (get_or t.bytes child 0 ≡ byte)
  in-range sid byte child is told =
      let there = stands-told (child_bytes t sid) byte (first_child t sid) child told in (
        omega (arith, there.3),
        omega (arith, there.1, there.3, range-length sid is),
        ap (λ (n : ℕ). get_or t.bytes n 0) there.3 ∙ sym (range-byte sid there.0 (omega (arith, there.1, range-length sid is))) ∙ there.2,
      )

  -- ranges come one behind another
  pub first-further : (k sid : ℕ) → sid + k ≤ length t.bytes → first_child t sid ≤ first_child t (sid + k)
  first-further zero sid within = omega (arith, ap (first_child t) (let same : sid + zero ≡ sid = omega arith in same))
  first-further (suc k) sid within =
      omega (arith, first-further k sid (omega (arith, within)), are.ordered (sid + k) (omega (arith, within)), ap (first_child t) (let same : sid + suc k ≡ sid + k + 1 = omega arith in same))

  pub first-up : (low high : ℕ) → low ≤ high → high ≤ length t.bytes → first_child t low ≤ first_child t high
  first-up low high ordered within =
      omega (arith, first-further (high - low) low (omega (arith, ordered, within)), ap (first_child t) (let same : low + (high - low) ≡ high = omega (arith, ordered) in same))

  -- so a state is the child of one alone
  pub one-parent : (s r child : ℕ) → IsStateNumber t s → IsStateNumber t r → first_child t s ≤ child → child < first_child t (s + 1) → first_child t r ≤ child → child < first_child t (r + 1) → s ≡ r
  one-parent s r child s_is r_is s_from s_to r_from r_to =
      elim (cases_lt s r) [
        | inl before ↦ absurd (omega (arith, first-up (s + 1) r (omega (arith, before)) (omega (arith, r_is)), s_to, r_from))
        | inr behind ↦
            elim (cases_lt r s) [
              | inl after ↦ absurd (omega (arith, first-up (r + 1) s (omega (arith, after)) (omega (arith, s_is)), r_to, s_from))
              | inr same ↦ omega (arith, behind, same)
            ]
      ]

-- the bytes that lead to the children of a state are as they are compared
pub range-folded : (t : StateTables) → HasChildren t → AreInLevels t → (sid : ℕ) → 0 < sid → IsStateNumber t sid → AreFolded t.ignore_case (child_bytes t sid)
range-folded t are levels sid some is i less =
    let short : i < first_child t (sid + 1) - first_child t sid = omega (arith, less, range-length t are sid is) in
    let from : 2 ≤ first_child t sid = omega (arith, levels.begins, first-up t are 1 sid some (omega (arith, is))) in
    ap (folded_by t.ignore_case) (range-byte t are sid i short)
    ∙ levels.folded (first_child t sid + i) (omega (arith, from)) (omega (arith, short, are.within sid is))
    ∙ sym (range-byte t are sid i short)
