-- Ranges that are replaced by their own bytes.
use Rattle.std.proofs.Common.{◌≡◌, inl, inr, ℕ, ◌+◌, ◌≤◌, ◌&&◌, Bool, false, nat_le, if◌then◌else◌, List, [], ◌∷◌, ◌++◌, drop, refl, sym, ◌∙◌, ap, arith}
use Rattle.std.specs.Prelude.{slice_range}
use Rattle.std.proofs.lemmas.List.Folds.{drop_split}
use Rattle.aho_core.specs.declared.search.Anchored.TheVariants.{No}
use Rattle.aho_core.specs.Bytes.{folded, folded_word}
use Rattle.aho_core.specs.Listing.{IsListedBy, IsMember}
use Rattle.aho_core.specs.Occurrence.{Occurrence}
use Rattle.aho_core.specs.Occurs.{Occurs}
use Rattle.aho_core.specs.Patterns.{Patterns, pattern_at}
use Rattle.aho_core.specs.Replacement.{replaced_by, replaced_from}
use Rattle.aho_laws.specs.SearchLaws.{EndsBefore}

module _ (haystack : List ℕ) where
  abbrev own : Occurrence → List ℕ
  own m = slice_range haystack m.start m.end

  pub replaced_from-own : (ms : List Occurrence) (at : ℕ) → IsListedBy EndsBefore ms → ((m : Occurrence) → IsMember ms m → at ≤ m.start) → ((m : Occurrence) → IsMember ms m → m.start ≤ m.end)
      → replaced_from haystack at ms own ≡ drop at haystack
  replaced_from-own [] at listed after ordered = refl
  replaced_from-own (m ∷ ms) at listed after ordered =
      let rest : replaced_from haystack m.end ms own ≡ drop m.end haystack = replaced_from-own ms m.end listed.1 listed.0 (λ n later. ordered n (inr later)) in
      ap (λ (bytes : List ℕ). slice_range haystack at m.start ++ (own m ++ bytes)) rest
      ∙ ap (λ (bytes : List ℕ). slice_range haystack at m.start ++ bytes) (sym (drop_split haystack m.start m.end (ordered m (inl refl))))
      ∙ sym (drop_split haystack at m.start (after m (inl refl)))

  pub replaced_by-own : (ms : List Occurrence) → IsListedBy EndsBefore ms → ((m : Occurrence) → IsMember ms m → m.start ≤ m.end) → replaced_by haystack ms own ≡ haystack
  replaced_by-own ms listed ordered = replaced_from-own ms 0 listed (λ m in_ms. omega arith) ordered

  -- pieces that are the same at each match give the same
  pub replaced_from-same : (ms : List Occurrence) (at : ℕ) (piece other : Occurrence → List ℕ) → ((m : Occurrence) → IsMember ms m → piece m ≡ other m) → replaced_from haystack at ms piece ≡ replaced_from haystack at ms other
  replaced_from-same [] at piece other same = refl
  replaced_from-same (m ∷ ms) at piece other same =
      let rest : replaced_from haystack m.end ms piece ≡ replaced_from haystack m.end ms other = replaced_from-same ms m.end piece other (λ n later. same n (inr later)) in
      ap (λ (bytes : List ℕ). slice_range haystack at m.start ++ (piece m ++ bytes)) rest
      ∙ ap (λ (bytes : List ℕ). slice_range haystack at m.start ++ (bytes ++ replaced_from haystack m.end ms other)) (same m (inl refl))

-- without the case rule, words that are the same are equal
folded-plain : (p : Patterns) → p.ignore_case ≡ false → (word : List ℕ) → folded_word p word ≡ word
folded-plain p plain [] = refl
folded-plain p plain (byte ∷ word) =
    let first : folded p byte ≡ byte = ap (λ (b : Bool). if b && (nat_le 65 byte && nat_le byte 90) then byte + 32 else byte) plain in
    ap (λ (x : ℕ). x ∷ folded_word p word) first ∙ ap (λ (w : List ℕ). byte ∷ w) (folded-plain p plain word)

-- so a match has its pattern's bytes
pub bytes_of_match : (p : Patterns) (haystack : List ℕ) (start end : ℕ) (m : Occurrence) → p.ignore_case ≡ false → Occurs p No haystack start end m → pattern_at p m.pattern ≡ slice_range haystack m.start m.end
bytes_of_match p haystack start end m plain occurs =
    sym (folded-plain p plain (pattern_at p m.pattern)) ∙ occurs.same ∙ folded-plain p plain (slice_range haystack m.start m.end)
