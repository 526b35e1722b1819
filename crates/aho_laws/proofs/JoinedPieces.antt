-- A text that is cut into pieces: its finds, and its replacement.
use Rattle.std.proofs.Common.{◌≡◌, inl, inr, ℕ, zero, suc, ◌+◌, ◌-◌, ◌≤◌, ◌<◌, List, [], ◌∷◌, ◌++◌, length, map, take, drop, None, refl, sym, ◌∙◌, ap, subst, arith, append_assoc, length-append, length-drop}
use Rattle.std.specs.Prelude.{slice_index_or, slice_range}
use Rattle.std.proofs.lemmas.Bool.{cases_lt}
use Rattle.std.proofs.lemmas.List.{drop-append-le, map-append, take-append-le}
use Rattle.std.proofs.Math.Seq.{drop-append-add, take-append-add}
use Rattle.aho_core.specs.Bytes.{folded, folded_word}
use Rattle.aho_core.specs.Iteration.{AreFinds}
use Rattle.aho_core.specs.Listing.{IsListedBy, IsMember}
use Rattle.aho_core.specs.Occurrence.{Occurrence}
use Rattle.aho_core.specs.Patterns.{Patterns, pattern_at}
use Rattle.aho_core.specs.Replacement.{replaced, replaced_from}
use Rattle.aho_core.specs.Search.{plain_search}
use Rattle.aho_laws.specs.CutLaws.{AreCutBehind, AreSearched, EndsIn, IsClear, NoneHolds, NoneIsEmpty, Piece, joined, moved, placed, replaced_apart}
use Rattle.aho_laws.specs.SearchLaws.{EndsBefore}
use Rattle.aho_laws.proofs.ClearCuts.{Occurs-full, best-find}
use Rattle.aho_laws.proofs.Iterations.{finds-apart, finds-occur, finds-ordered, finds-unique}
use Rattle.aho_laws.proofs.Members.{member-map, member-of_map}
use Rattle.aho_laws.proofs.SpanTexts.{finds-joined, map-moved_zero}

-- to move twice is to move once
map-moved_twice : (by at : ℕ) (ms : List Occurrence) → map (moved by) (map (moved at) ms) ≡ map (moved (by + at)) ms
map-moved_twice by at [] = refl
map-moved_twice by at (m ∷ ms) =
    let first : moved by (moved at m) ≡ moved (by + at) m =
    ap (λ (x : ℕ). record { pattern = m.pattern; start = x; end = by + (at + m.end) }) (omega arith)
    ∙ ap (λ (x : ℕ). record { pattern = m.pattern; start = by + at + m.start; end = x }) (omega arith) in
    let rest = map-moved_twice by at ms in
    cc

placed-moved : (by at : ℕ) (pieces : List Piece) → map (moved by) (placed at pieces) ≡ placed (by + at) pieces
placed-moved by at [] = refl
placed-moved by at (piece ∷ pieces) =
    let place : by + (at + length piece.bytes) ≡ by + at + length piece.bytes = omega arith in
    map-append (moved by) (map (moved at) piece.found) (placed (at + length piece.bytes) pieces)
    ∙ ap (λ (ms : List Occurrence). ms ++ map (moved by) (placed (at + length piece.bytes) pieces)) (map-moved_twice by at piece.found)
    ∙ ap (λ (ms : List Occurrence). map (moved (by + at)) piece.found ++ ms) (placed-moved by (at + length piece.bytes) pieces ∙ ap (λ (x : ℕ). placed x pieces) place)

-- the first piece, and then the others
pub placed-first : (piece : Piece) (pieces : List Piece) → piece.found ++ map (moved (length piece.bytes)) (placed 0 pieces) ≡ placed 0 (piece ∷ pieces)
placed-first piece pieces =
    let place : length piece.bytes + 0 ≡ 0 + length piece.bytes = omega arith in
    ap (λ (ms : List Occurrence). ms ++ map (moved (length piece.bytes)) (placed 0 pieces)) (sym (map-moved_zero piece.found))
    ∙ ap (λ (ms : List Occurrence). map (moved 0) piece.found ++ ms) (placed-moved (length piece.bytes) 0 pieces ∙ ap (λ (x : ℕ). placed x pieces) place)

-- a byte stands in each part round it
take-has : (front rest : List ℕ) (byte n : ℕ) → length front < n → IsMember (take n (front ++ byte ∷ rest)) byte
take-has front rest byte zero lt = absurd (omega arith)
take-has [] rest byte (suc n) lt = inl refl
take-has (x ∷ front) rest byte (suc n) lt = inr (take-has front rest byte n (omega arith))

pub part-has : (front rest : List ℕ) (byte start end : ℕ) → start ≤ length front → length front < end → IsMember (slice_range (front ++ byte ∷ rest) start end) byte
part-has front rest byte start end low high =
    subst (λ (bytes : List ℕ). IsMember (take (end - start) bytes) byte) (sym (drop-append-le start front (byte ∷ rest) low))
    (take-has (drop start front) rest byte (end - start) (omega (arith, length-drop start front)))

module _ (p : Patterns) where
  -- what occurs round a byte has a byte that is the same
  pub clear_behind : (byte : ℕ) (front rest : List ℕ) (start end : ℕ) → NoneHolds p byte → IsClear p (front ++ byte ∷ rest) start end (length front + 1)
  clear_behind byte front rest start end none m occurs =
      elim (cases_lt (length front) m.end) [
        | inr upto ↦ inl (omega arith)
        | inl past ↦
            elim (cases_lt (length front) m.start) [
              | inl behind ↦ inr (omega arith)
              | inr low ↦
                  (let bytes = slice_range (front ++ byte ∷ rest) m.start m.end in
                  let there : IsMember (folded_word p bytes) (folded p byte) = member-map (folded p) bytes byte (part-has front rest byte m.start m.end low past) in
                  let in_word : IsMember (folded_word p (pattern_at p m.pattern)) (folded p byte) = subst (λ (word : List ℕ). IsMember word (folded p byte)) (sym occurs.same) there in
                  let found = member-of_map (folded p) (pattern_at p m.pattern) (folded p byte) in_word in
                  absurd (none m.pattern found.0 occurs.numbered found.1 (sym found.2)))
            ]
      ]

  pub clear_joined : (byte : ℕ) (left right : List ℕ) → NoneHolds p byte → EndsIn byte left → IsClear p (left ++ right) 0 (length (left ++ right)) (length left)
  clear_joined byte left right none ends =
      let whole : ends.0 ++ byte ∷ right ≡ left ++ right = sym (ap (λ (text : List ℕ). text ++ right) ends.1 ∙ append_assoc ends.0 (byte ∷ []) right) in
      let place : length ends.0 + 1 ≡ length left = omega (arith, ap length ends.1, length-append ends.0 (byte ∷ [])) in
      subst (IsClear p (left ++ right) 0 (length (left ++ right))) place
      (subst (λ (text : List ℕ). IsClear p text 0 (length text) (length ends.0 + 1)) whole (clear_behind byte ends.0 right 0 (length (ends.0 ++ byte ∷ right)) none))

  clear_last : (left right : List ℕ) → right ≡ [] → IsClear p (left ++ right) 0 (length (left ++ right)) (length left)
  clear_last left right last m occurs = inl (omega (arith, occurs.before_end, length-append left right, ap length last))

  -- the finds of the pieces
  pub finds-pieces : (pieces : List Piece) (byte : ℕ) → NoneIsEmpty p → NoneHolds p byte → AreCutBehind byte pieces → AreSearched p pieces → AreFinds p (plain_search (joined pieces)) None (placed 0 pieces)
  finds-pieces [] byte full none cut each = best-find p full [] 0 0 None None (λ m occurs. omega (arith, occurs.before_end, Occurs-full p full [] 0 0 m occurs))
  finds-pieces (piece ∷ pieces) byte full none cut each =
      let clear : IsClear p (piece.bytes ++ joined pieces) 0 (length (piece.bytes ++ joined pieces)) (length piece.bytes) =
      elim cut.0 [ inl last ↦ clear_last piece.bytes (joined pieces) (ap joined last) | inr ends ↦ clear_joined byte piece.bytes (joined pieces) none ends ] in
      subst (AreFinds p (plain_search (piece.bytes ++ joined pieces)) None) (placed-first piece pieces)
      (finds-joined p full piece.bytes (joined pieces) piece.found (placed 0 pieces) clear (each piece (inl refl)) (finds-pieces pieces byte full none cut.1 (λ other later. each other (inr later))))

module _ (left right : List ℕ) (with : Occurrence → List ℕ) (alike : (m : Occurrence) → with (moved (length left) m) ≡ with m) where
  -- what is replaced in the second text
  replaced-right : (ns : List Occurrence) (at : ℕ) → replaced_from (left ++ right) (length left + at) (map (moved (length left)) ns) with ≡ replaced_from right at ns with
  replaced-right [] at = drop-append-add left right at
  replaced-right (n ∷ ns) at =
      let count : (length left + n.start) - (length left + at) ≡ n.start - at = omega arith in
      let between : slice_range (left ++ right) (length left + at) (length left + n.start) ≡ slice_range right at n.start =
      ap (take ((length left + n.start) - (length left + at))) (drop-append-add left right at) ∙ ap (λ (k : ℕ). take k (drop at right)) count in
      let own = alike n in
      let rest = replaced-right ns n.end in
      cc

  -- behind the last match of the first text
  replaced-seam : (ns : List Occurrence) (at : ℕ) → at ≤ length left → replaced_from (left ++ right) at (map (moved (length left)) ns) with ≡ drop at left ++ replaced_from right 0 ns with
  replaced-seam [] at low = drop-append-le at left right low
  replaced-seam (n ∷ ns) at low =
      let count : (length left + n.start) - at ≡ length (drop at left) + n.start = omega (arith, length-drop at left) in
      let whole : n.start ≡ n.start - 0 = omega arith in
      let between : slice_range (left ++ right) at (length left + n.start) ≡ drop at left ++ slice_range right 0 n.start =
      ap (take ((length left + n.start) - at)) (drop-append-le at left right low)
      ∙ ap (λ (k : ℕ). take k (drop at left ++ right)) count
      ∙ take-append-add (drop at left) right n.start
      ∙ ap (λ (k : ℕ). drop at left ++ take k right) whole in
      let behind : with (moved (length left) n) ++ replaced_from (left ++ right) (length left + n.end) (map (moved (length left)) ns) with ≡ with n ++ replaced_from right n.end ns with =
      ap (λ (bytes : List ℕ). bytes ++ replaced_from (left ++ right) (length left + n.end) (map (moved (length left)) ns) with) (alike n) ∙ ap (λ (bytes : List ℕ). with n ++ bytes) (replaced-right ns n.end) in
      ap (λ (bytes : List ℕ). bytes ++ (with (moved (length left) n) ++ replaced_from (left ++ right) (length left + n.end) (map (moved (length left)) ns) with)) between
      ∙ ap (λ (bytes : List ℕ). (drop at left ++ slice_range right 0 n.start) ++ bytes) behind
      ∙ append_assoc (drop at left) (slice_range right 0 n.start) (with n ++ replaced_from right n.end ns with)

  pub replaced-left : (ms ns : List Occurrence) (at : ℕ) → at ≤ length left → IsListedBy EndsBefore ms → ((m : Occurrence) → IsMember ms m → (at ≤ m.start) × (m.start ≤ m.end) × (m.end ≤ length left))
      → replaced_from (left ++ right) at (ms ++ map (moved (length left)) ns) with ≡ replaced_from left at ms with ++ replaced_from right 0 ns with
  replaced-left [] ns at low listed inside = replaced-seam ns at low
  replaced-left (m ∷ ms) ns at low listed inside =
      let here = inside m (inl refl) in
      let between : slice_range (left ++ right) at m.start ≡ slice_range left at m.start =
      ap (take (m.start - at)) (drop-append-le at left right low)
      ∙ take-append-le (m.start - at) (drop at left) right (omega (arith, here.0, here.1, here.2, length-drop at left)) in
      let rest : replaced_from (left ++ right) m.end (ms ++ map (moved (length left)) ns) with ≡ replaced_from left m.end ms with ++ replaced_from right 0 ns with =
      replaced-left ms ns m.end here.2 listed.1 (λ n later. (listed.0 n later, (inside n (inr later)).1, (inside n (inr later)).2)) in
      ap (λ (bytes : List ℕ). bytes ++ (with m ++ replaced_from (left ++ right) m.end (ms ++ map (moved (length left)) ns) with)) between
      ∙ ap (λ (bytes : List ℕ). slice_range left at m.start ++ (with m ++ bytes)) rest
      ∙ ap (λ (bytes : List ℕ). slice_range left at m.start ++ bytes) (sym (append_assoc (with m) (replaced_from left m.end ms with) (replaced_from right 0 ns with)))
      ∙ sym (append_assoc (slice_range left at m.start) (with m ++ replaced_from left m.end ms with) (replaced_from right 0 ns with))

-- the ranges of a piece rise and lie in it
pub record FitPiece (piece : Piece) : Type 0 where
  pub apart : IsListedBy EndsBefore piece.found
  pub ordered : (m : Occurrence) → IsMember piece.found m → m.start ≤ m.end
  pub within : (m : Occurrence) → IsMember piece.found m → m.end ≤ length piece.bytes

pub replaced-fitting : (pieces : List Piece) (replacements : List (List ℕ)) → ((piece : Piece) → IsMember pieces piece → FitPiece piece) → replaced (joined pieces) (placed 0 pieces) replacements ≡ replaced_apart pieces replacements
replaced-fitting [] replacements each = refl
replaced-fitting (piece ∷ pieces) replacements each =
    let fit = each piece (inl refl) in
    let with_each = λ (m : Occurrence). slice_index_or replacements m.pattern [] in
    ap (λ (ms : List Occurrence). replaced (piece.bytes ++ joined pieces) ms replacements) (sym (placed-first piece pieces))
    ∙ replaced-left piece.bytes (joined pieces) with_each (λ m. refl) piece.found (placed 0 pieces) 0 (omega arith) fit.apart
    (λ m in_found. (omega arith, fit.ordered m in_found, fit.within m in_found))
    ∙ ap (λ (bytes : List ℕ). replaced piece.bytes piece.found replacements ++ bytes) (replaced-fitting pieces replacements (λ other later. each other (inr later)))

-- the replacement of the pieces
pub replaced-pieces : (p : Patterns) (pieces : List Piece) (replacements : List (List ℕ)) → AreSearched p pieces → replaced (joined pieces) (placed 0 pieces) replacements ≡ replaced_apart pieces replacements
replaced-pieces p pieces replacements each =
    replaced-fitting pieces replacements (λ piece there.
    let found = each piece there in
    record {
      apart = finds-apart p piece.found (plain_search piece.bytes) None found;
      ordered = finds-ordered p piece.found (plain_search piece.bytes) None found;
      within = λ m in_found. (finds-occur p piece.found (plain_search piece.bytes) None m found in_found).before_end;
    })

-- the replacement of lines
pub replaced-lines : (p : Patterns) (byte : ℕ) (pieces : List Piece) (ms : List Occurrence) (replacements : List (List ℕ)) → NoneIsEmpty p → NoneHolds p byte
    → AreCutBehind byte pieces → AreSearched p pieces → AreFinds p (plain_search (joined pieces)) None ms → replaced (joined pieces) ms replacements ≡ replaced_apart pieces replacements
replaced-lines p byte pieces ms replacements full none cut each h =
    ap (λ (found : List Occurrence). replaced (joined pieces) found replacements)
    (finds-unique p ms (placed 0 pieces) (plain_search (joined pieces)) None h (finds-pieces p pieces byte full none cut each))
    ∙ replaced-pieces p pieces replacements each
