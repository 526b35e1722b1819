-- The format by which a match is written: bytes, and fields in braces.
use Rattle.acgrep.specs.Common.{flat_map}
use Rattle.std.specs.List.{starts_with}
use Rattle.std.specs.Prelude.{◌-◌, ◌==◌, ◌||◌, ◌∷◌, List, None, Option, Some, [], codes, if◌then◌else◌, nat_eq, option_and_then, option_map, suc, zero, ℕ}
use Rattle.acgrep.specs.declared.format.Front.{Front}
use Rattle.acgrep.specs.declared.format.Piece.{Piece}
use Rattle.acgrep.specs.declared.format.Piece.TheVariants.{Byte, End, Found, LineNumber, Path, PatternNumber, Start}

-- a piece, and how many bytes of a format it takes
abbrev pub front_at : Piece → ℕ → Option Front
front_at piece len = Some (record { piece = piece; len = len })

-- a byte is a piece where it is no brace
abbrev pub plain_front : ℕ → Option Front
plain_front byte = if (byte == 123) || (byte == 125) then None else front_at (Byte byte) 1

abbrev pub plain_first : List ℕ → Option Front
plain_first [] = None
plain_first (byte ∷ rest) = plain_front byte

-- the first piece of a format: a doubled brace, a field, or a byte
abbrev pub front_by : List ℕ → Option Front
front_by format =
    if starts_with nat_eq format (codes "{{") then front_at (Byte 123) 2
    else if starts_with nat_eq format (codes "}}") then front_at (Byte 125) 2
    else if starts_with nat_eq format (codes "{path}") then front_at Path 6
    else if starts_with nat_eq format (codes "{line}") then front_at LineNumber 6
    else if starts_with nat_eq format (codes "{start}") then front_at Start 7
    else if starts_with nat_eq format (codes "{end}") then front_at End 5
    else if starts_with nat_eq format (codes "{pattern}") then front_at PatternNumber 9
    else if starts_with nat_eq format (codes "{text}") then front_at Found 6
    else plain_first format

-- its pieces, where the first `skipped` bytes belong to a piece before
abbrev pub pieces_behind : ℕ → List ℕ → Option (List Piece)
pieces_behind skipped [] = Some []
pieces_behind zero (byte ∷ rest) =
    option_and_then (λ front. option_map (λ pieces. front.piece ∷ pieces) (pieces_behind (front.len - 1) rest)) (front_by (byte ∷ rest))
pieces_behind (suc skipped) (byte ∷ rest) = pieces_behind skipped rest

abbrev pub format_pieces : List ℕ → Option (List Piece)
format_pieces format = pieces_behind 0 format

-- how a piece stands in a format: a brace is doubled, and a field is its name in braces
abbrev pub piece_text : Piece → List ℕ
piece_text (Byte byte) = if (byte == 123) || (byte == 125) then byte ∷ byte ∷ [] else byte ∷ []
piece_text Path = codes "{path}"
piece_text LineNumber = codes "{line}"
piece_text Start = codes "{start}"
piece_text End = codes "{end}"
piece_text PatternNumber = codes "{pattern}"
piece_text Found = codes "{text}"

-- a format is its pieces, one after another
abbrev pub format_text : List Piece → List ℕ
format_text pieces = flat_map (λ piece. piece_text piece) pieces

-- what stands up to a brace that closes a field, and that brace
abbrev pub up_to_brace : List ℕ → List ℕ
up_to_brace [] = []
up_to_brace (byte ∷ rest) = if byte == 125 then byte ∷ [] else byte ∷ up_to_brace rest

-- what stands where no piece does: the first such
abbrev pub else_behind : Option Front → List ℕ → (ℕ → List ℕ) → List ℕ
else_behind None field others = field
else_behind (Some front) field others = others (front.len - 1)

abbrev pub unknown_behind : ℕ → List ℕ → List ℕ
unknown_behind skipped [] = []
unknown_behind zero (byte ∷ rest) = else_behind (front_by (byte ∷ rest)) (up_to_brace (byte ∷ rest)) (λ left. unknown_behind left rest)
unknown_behind (suc skipped) (byte ∷ rest) = unknown_behind skipped rest

abbrev pub unknown_in : List ℕ → List ℕ
unknown_in format = unknown_behind 0 format
