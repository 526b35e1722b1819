-- A format, one piece after another.
use Rattle.acgrep.proofs.Common.{Nowhere, Piece, common_steps}
use Rattle.std.proofs.Common.{◌++◌, ◌+◌, ◌-◌, ◌<◌, ◌==◌, ◌∙◌, ◌∷◌, ◌≡◌, List, None, Option, Some, [], ap, append-nil, append_assoc, arith, drop, false, length, refl, subst, suc, sym, take, zero, ℕ}
use Rattle.std.proofs.lemmas.Grind.{flat_map-append}
use Rattle.std.specs.Prelude.{option_map}
use Rattle.memchr.specs.Find.{Passes, is_byte}
use Rattle.acgrep.specs.Formats.{format_pieces, format_text, front_by, piece_text, pieces_behind, unknown_behind, unknown_in, up_to_brace}
use Rattle.acgrep.specs.declared.format.Front.{Front}

-- what belongs to a piece before is passed over
piece_skip : (skipped : ℕ) (format : List ℕ) → (pieces_behind skipped format ≡ format_pieces (drop skipped format)) × (unknown_behind skipped format ≡ unknown_in (drop skipped format))
piece_skip (suc skipped) (byte ∷ rest) = piece_skip skipped rest
piece_skip _ _ = (refl, refl)

-- what a piece takes is dropped
drop_piece : (len byte : ℕ) (rest : List ℕ) → 0 < len → drop (len - 1) rest ≡ drop len (byte ∷ rest)
drop_piece len byte rest some = grind (arith, common_steps)

-- the first piece, and those behind it
pub piece_step : (format : List ℕ) (front : Front) → 0 < length format → 0 < front.len → front_by format ≡ Some front
    → (format_pieces format ≡ option_map (λ pieces. front.piece ∷ pieces) (format_pieces (drop front.len format))) × (unknown_in format ≡ unknown_in (drop front.len format))
piece_step [] front some long is = absurd (omega (arith, some))
piece_step (byte ∷ rest) front some long is =
    let (pieces, unknown) = rw (drop_piece front.len byte rest long) at (piece_skip (front.len - 1) rest) in
    (rw is (ap (λ (o : Option (List Piece)). option_map (λ pieces. front.piece ∷ pieces) o) pieces), rw is unknown)

-- with a piece more the pieces are the text so far
pub text_more : (items : List Piece) (front : Front) (format : List ℕ) → piece_text front.piece ++ drop front.len format ≡ format
    → format_text (items ++ (front.piece ∷ [])) ++ drop front.len format ≡ format_text items ++ format
text_more items front format taken =
    let left = drop front.len format in
    ap (λ (l : List ℕ). l ++ left) (flat_map-append (λ piece. piece_text piece) items (front.piece ∷ []) ∙ ap (λ (l : List ℕ). format_text items ++ l) (append-nil (piece_text front.piece)))
    ∙ append_assoc (format_text items) (piece_text front.piece) left ∙ ap (λ (l : List ℕ). format_text items ++ l) taken

-- a piece more
pub pieces_more : (items : List Piece) (piece : Piece) (others : Option (List Piece))
    → option_map (λ pieces. items ++ pieces) (option_map (λ pieces. piece ∷ pieces) others) ≡ option_map (λ pieces. (items ++ (piece ∷ [])) ++ pieces) others
pieces_more items piece None = refl
pieces_more items piece (Some pieces) = ap (λ (l : List Piece). Some l) (sym (append_assoc items (piece ∷ []) pieces))

-- up to the first brace that closes a field, or to the end
other_first : (byte : ℕ) (rest : List ℕ) (end : ℕ) → 0 < end → Nowhere (Passes (is_byte 125) (byte ∷ rest)) 0 end → (byte == 125) ≡ false
other_first byte rest end some none = grind (arith, common_steps)

none_behind : (byte : ℕ) (rest : List ℕ) (end : ℕ) → Nowhere (Passes (is_byte 125) (byte ∷ rest)) 0 (suc end) → Nowhere (Passes (is_byte 125) rest) 0 end
none_behind byte rest end none = λ k low high is. none (suc k) (omega (arith, low)) (omega (arith, high)) is

pub up_to_none : (format : List ℕ) → Nowhere (Passes (is_byte 125) format) 0 (length format) → format ≡ up_to_brace format
up_to_none [] none = refl
up_to_none (byte ∷ rest) none =
    rw (other_first byte rest (suc (length rest)) (omega arith) none) (ap (λ (l : List ℕ). byte ∷ l) (up_to_none rest (none_behind byte rest (length rest) none)))

pub up_to_first : (end : ℕ) (format : List ℕ) → end < length format → Nowhere (Passes (is_byte 125) format) 0 end → Passes (is_byte 125) format end
    → take (end + 1) format ≡ up_to_brace format
up_to_first end [] within none is = absurd (omega (arith, within))
up_to_first (suc end) (byte ∷ rest) within none is =
    let other : (byte == 125) ≡ false = other_first byte rest (suc end) (omega arith) none in
    let longer : suc end + 1 ≡ suc (end + 1) = omega arith in
    let same : take (suc (end + 1)) (byte ∷ rest) ≡ up_to_brace (byte ∷ rest) =
    rw other (ap (λ (l : List ℕ). byte ∷ l) (up_to_first end rest (omega (arith, within)) (none_behind byte rest end none) is)) in
    subst (λ (n : ℕ). take n (byte ∷ rest) ≡ up_to_brace (byte ∷ rest)) (sym longer) same
up_to_first zero _ within none is = rw is refl
