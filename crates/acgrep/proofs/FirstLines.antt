-- The first line of a text and the others.
use Rattle.acgrep.proofs.Common.{Nowhere, cases_Bool, pieces_of, true≢false}
use Rattle.std.proofs.Common.{◌++◌, ◌+◌, ◌<◌, ◌==◌, ◌∙◌, ◌∷◌, ◌≡◌, ◌≤◌, Bor, List, [], add-one, ap, arith, drop, false, inl, inr, length, refl, suc, sym, take, true, zero, ℕ}
use Rattle.std.proofs.lemmas.List.Sums.{fails_before_first, passes_at_first, prefix_len-le-length}
use Rattle.std.specs.List.{position_or_len}
use Rattle.std.specs.Prelude.{not}
use Rattle.memchr.specs.Find.{is_byte}
use Rattle.acgrep.specs.Lines.{IsEnding, joined_to, lines}

module _ (ending : ℕ) where
  -- a byte that is no newline belongs to the first line
  pub lines_joined : (byte : ℕ) (rest : List ℕ) → (byte == ending) ≡ false → lines ending (byte ∷ rest) ≡ joined_to byte (lines ending rest)
  lines_joined byte rest other = rw other refl

  -- a text that is not empty is its first line, and then the lines behind its newline
  pub lines_first : (text : List ℕ) (end : ℕ) → 0 < length text → end ≤ length text → Nowhere (IsEnding ending text) 0 end → (end < length text → IsEnding ending text end)
      → lines ending text ≡ take end text ∷ lines ending (drop (suc end) text)
  lines_first [] end full within none newline = absurd (omega (arith, full))
  lines_first (byte ∷ rest) zero full within none newline =
      let is : (byte == ending) ≡ true = newline (omega arith) in
      rw is refl
  lines_first (byte ∷ []) (suc zero) full within none newline =
      elim (cases_Bool (byte == ending)) [
        | inl is ↦ absurd (none 0 (omega arith) (omega arith) is)
        | inr other ↦ lines_joined byte [] other
      ]
  lines_first (byte ∷ []) (suc (suc end)) full within none newline = absurd (omega (arith, within))
  lines_first (byte ∷ next ∷ rest) (suc end) full within none newline =
      let IH = lines_first (next ∷ rest) end (omega arith) (omega (arith, within)) (λ k low high is. none (suc k) (omega arith) (omega (arith, high)) is) (λ more. newline (omega (arith, more))) in
      elim (cases_Bool (byte == ending)) [
        | inl is ↦ absurd (none 0 (omega arith) (omega arith) is)
        | inr other ↦ lines_joined byte (next ∷ rest) other ∙ ap (joined_to byte) IH
      ]

  -- the same of what stands behind it
  pub lines_then : (text left : List ℕ) (end : ℕ) → 0 < length text → end ≤ length text → Nowhere (IsEnding ending text) 0 end → (end < length text → IsEnding ending text end)
      → left ≡ drop (end + 1) text → lines ending text ≡ take end text ∷ lines ending left
  lines_then text left end full within none newline follows =
      lines_first text end full within none newline ∙ ap (λ (l : List ℕ). take end text ∷ lines ending l) (sym (follows ∙ ap (λ n. drop n text) (add-one end)))

  -- its end is where that byte first stands
  abbrev pub first_end : List ℕ → ℕ
  first_end text = position_or_len (is_byte ending) text

  pub first_within : (text : List ℕ) → first_end text ≤ length text
  first_within text = prefix_len-le-length (λ byte. not (is_byte ending byte)) text

  pub lines_cut : (text : List ℕ) → 0 < length text → lines ending text ≡ take (first_end text) text ∷ lines ending (drop (suc (first_end text)) text)
  lines_cut text some = lines_first text (first_end text) some (first_within text) (λ k low high is. true≢false (sym is ∙ fails_before_first (is_byte ending) text k 0 high))
      (passes_at_first (is_byte ending) text 0)

-- one more piece, and others behind it
pub pieces_more : (held : List (Bor (List ℕ))) (piece : Bor (List ℕ)) (others : List (List ℕ)) → pieces_of (held ++ (piece ∷ [])) ++ others ≡ pieces_of held ++ (piece.now ∷ others)
pieces_more [] piece others = refl
pieces_more (first ∷ held) piece others = ap (λ l. first.now ∷ l) (pieces_more held piece others)
